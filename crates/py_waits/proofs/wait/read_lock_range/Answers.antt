use Rattle.std.proofs.Common.{ap, arith, refl, sym}
use Rattle.std.proofs.lemmas.Result.{err_from_is_err_and}
use Rattle.process_memory.specs.Seen.{read_fault}
use Rattle.process_memory.proofs.Reading.{reads_end, reads_halt, reads_next}
use Rattle.py_waits.specs.Waits.{lock_range_at}
use Rattle.py_waits.proofs.wait.read_lock_range.Goals as goal

pub returns-in_err-own : goal.returns-in_err-own
unfolding lock_range_at
returns-in_err-own g c =
    let p = err_from_is_err_and c.from_residual.result c.from_residual.ensures.1 in
    rw p.1 ((reads_halt 1 p.0 _ c.in_err-own.ensures (ap read_fault p.2) (omega arith)))

pub returns : goal.returns
unfolding lock_range_at
returns g c =
    (reads_next 1 _ c.in_ok-own.ensures
    (reads_end 0 (sym (rw c.runtime_range.ensures at c.or.ensures))) (omega arith))
