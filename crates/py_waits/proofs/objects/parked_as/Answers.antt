use Rattle.std.proofs.Common.{ap, arith, refl, sym}
use Rattle.std.proofs.lemmas.Result.{err_from_is_err_and}
use Rattle.process_memory.specs.Seen.{read_fault}
use Rattle.process_memory.proofs.Reading.{reads_end, reads_halt, reads_next}
use Rattle.py_waits.specs.Objects.{parked_as}
use Rattle.py_waits.proofs.objects.parked_as.Goals as goal

pub returns-in_err-class : goal.returns-in_err-class
unfolding parked_as
returns-in_err-class g c =
    let p = err_from_is_err_and c.from_residual.result c.from_residual.ensures.1 in
    let read = rw c.parked_object-object.ensures at c.in_err-class.ensures in
    rw p.1 (reads_halt 1 p.0 _ read (ap read_fault p.2) (omega arith))

pub returns : goal.returns
unfolding parked_as
returns g c =
    let read = rw c.parked_object-object.ensures at c.in_ok-class.ensures in
    let shown = rw c.parked_object-object.ensures at c.parked_if.ensures in
    reads_next 1 _ read (reads_end 0 (sym shown)) (omega arith)
