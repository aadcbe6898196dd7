use Rattle.std.proofs.Common.{ap, refl}
use Rattle.process_memory.proofs.Reading.{reads_end, reads_same}
use Rattle.py_selftest.specs.Threads.{dict_told}
use Rattle.py_selftest.proofs.threads.dict_told.Goals as goal

pub returns-then-is_null : goal.returns-then-is_null
returns-then-is_null g c =
    reads_same _ _ (λ m. ap (dict_told c.args.layout.now m) c.if-is_null.true) (reads_end 2 refl)
