use Rattle.std.proofs.Common.{ap, arith, refl, sym}
use Rattle.std.proofs.lemmas.Result.{err_from_is_err_and}
use Rattle.process_memory.specs.Seen.{read_fault}
use Rattle.process_memory.proofs.Reading.{reads_end, reads_halt, reads_next}
use Rattle.py_waits.specs.Objects.{object_at}
use Rattle.py_waits.proofs.objects.object_at.Goals as goal

pub returns-in_err-class : goal.returns-in_err-class
unfolding object_at
returns-in_err-class g c =
    let p = err_from_is_err_and c.from_residual.result c.from_residual.ensures.1 in
    rw p.1 (reads_halt 2 p.0 _ c.in_err-class.ensures (ap read_fault p.2) (omega arith))

pub returns : goal.returns
unfolding object_at
returns g c =
    reads_next 2 _ c.in_ok-class.ensures (rw c.held_kind.ensures at c.held_at.ensures) (omega arith)
