use Rattle.std.proofs.Common.{ap, refl}
use Rattle.process_memory.proofs.Reading.{reads_end, reads_same}
use Rattle.py_selftest.specs.Questions.{value_told}
use Rattle.py_selftest.proofs.questions.value_told.Goals as goal

pub returns : goal.returns
returns g c = reads_same _ _ (λ m. ap (value_told c.args.layout.now m c.args.object) c.if-is.false) (reads_end 3 refl)
