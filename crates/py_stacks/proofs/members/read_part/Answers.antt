use Rattle.std.proofs.Common.{refl, arith}
use Rattle.process_memory.proofs.Reading.{reading_none, reads_end}
use Rattle.py_stacks.specs.Frames.{call_of}
use Rattle.py_stacks.specs.Records.{member_of}
use Rattle.py_stacks.proofs.Parts.{part_over}
use Rattle.py_stacks.proofs.members.read_part.Goals as goal

pub returns-in-None : goal.returns-in-None
returns-in-None g c = rw c.in-None.is (reads_end _ refl)

pub returns-then-kept-ge-FRAME_LIMIT : goal.returns-then-kept-ge-FRAME_LIMIT
returns-then-kept-ge-FRAME_LIMIT g c = rw c.in-Some.is (reading_none _ _ _ (λ m. record { is = part_over c.args.asked c.args.layout.now m c.args.kept (member_of c.args.records.now) (call_of c.in-Some.frame) (omega arith) }))
