use Rattle.std.proofs.Common.{ap, refl}
use Rattle.process_memory.proofs.Reading.{reads_end, reads_same}
use Rattle.py_selftest.specs.Threads.{pointer_if}
use Rattle.py_selftest.proofs.threads.pointer_if.Goals as goal

pub returns : goal.returns
returns g c =
    reads_same _ _ (λ m. ap (pointer_if c.args.layout.now m c.args.pointers.now c.args.thread) c.if-is.false)
    (reads_end 1 refl)
