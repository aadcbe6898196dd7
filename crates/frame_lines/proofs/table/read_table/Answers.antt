use Rattle.std.proofs.Common.{arith}
use Rattle.process_memory.proofs.Reading.{reading_gives, reading_here, reading_short, reading_then}
use Rattle.py_fields.proofs.ObjectFields.{bytes_fits}
use Rattle.frame_lines.proofs.Pieces.{many_short, table_there}
use Rattle.frame_lines.proofs.table.read_table.Goals as goal

pub u64_in-length-requires : goal.u64_in-length-requires
u64_in-length-requires g c = omega (
  arith,
  (bytes_fits c.requires.sound).length,
  c.deref.ensures.len,
  c.in-Ok.ensures.whole,
)

pub returns-in-Ok-clause-answer : goal.returns-in-Ok-clause-answer
returns-in-Ok-clause-answer g c =
    let many = rw (c.u64_in-length.ensures, c.deref.ensures.value) at c.read_many.ensures in
    reading_gives 513 _ (reading_then _ (reading_short c.in-Ok.ensures.answer) many (λ m object a. table_there
    c.args.layout.now m c.args.addr c.in-Ok.object.items object a)) (omega arith) (λ m a. a)

pub returns-in-Ok-clause-short : goal.returns-in-Ok-clause-short
returns-in-Ok-clause-short g c = many_short _ _ _ c.read_many.result (reading_here c.read_many.ensures)
