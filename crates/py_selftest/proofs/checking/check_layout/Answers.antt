use Rattle.std.proofs.Common.{ap, sym}
use Rattle.process_memory.specs.Memory.{byte_at}
use Rattle.process_memory.proofs.Reading.{reading_here, reads_same}
use Rattle.py_selftest.specs.Checking.{check_at, check_if}
use Rattle.py_selftest.proofs.Verdicts.{check_says, says_of}
use Rattle.py_selftest.proofs.checking.check_layout.Goals as goal

pub returns-clause-right : goal.returns-clause-right
unfolding check_at
returns-clause-right g c =
    reads_same _ _ (λ m. ap
    (check_if m c.args.layout.now c.args.types.now c.args.runtime c.args.release c.args.pointers.now c.args.threads.now) (sym
    c.is_described-described.ensures)) c.check_if.ensures

pub returns-clause-says : goal.returns-clause-says
returns-clause-says g c =
    let m = byte_at (g.P.ProcessMemory.seen c.args.process.now).pieces in
    says_of c.check_if.result
    (check_at m c.args.layout.now c.args.types.now c.args.runtime c.args.release c.args.pointers.now c.args.threads.now)
    (check_says m c.args.layout.now c.args.types.now c.args.runtime c.args.release c.args.pointers.now c.args.threads.now)
    (reading_here (returns-clause-right g c))
