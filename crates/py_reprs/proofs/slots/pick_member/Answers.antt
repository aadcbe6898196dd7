use Rattle.std.proofs.Common.{arith}
use Rattle.process_memory.proofs.Reading.{reading_none}
use Rattle.py_reprs.proofs.Picking.{with_none}
use Rattle.py_reprs.proofs.slots.pick_member.Goals as goal

pub returns : goal.returns
returns g c = reading_none _ _ _ (λ m. with_none _ _ _ (omega (arith, c.len.ensures, c.if-len-most.false)))
