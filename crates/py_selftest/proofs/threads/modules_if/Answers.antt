use Rattle.std.proofs.Common.{ap, refl}
use Rattle.process_memory.proofs.Reading.{reads_end, reads_same}
use Rattle.py_selftest.specs.Threads.{modules_if}
use Rattle.py_selftest.proofs.threads.modules_if.Goals as goal

pub returns-then-was_asked : goal.returns-then-was_asked
returns-then-was_asked g c =
    reads_same _ _ (λ m. ap (modules_if c.args.layout.now m c.args.interpreter) c.if-was_asked.true)
    (reads_end 3 refl)
