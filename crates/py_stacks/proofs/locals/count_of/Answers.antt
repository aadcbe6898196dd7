use Rattle.std.proofs.Common.{arith, ap, length}
use Rattle.py_fields.proofs.Fields.{code_fits}
use Rattle.py_stacks.proofs.locals.count_of.Goals as goal

pub u32_in-count-requires : goal.u32_in-count-requires
u32_in-count-requires c = omega (arith, (code_fits c.requires.sound).nlocals, c.requires.whole.code, ap length c.deref.ensures.value)
