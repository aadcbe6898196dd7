use Rattle.std.proofs.Common.{ap, arith, refl, sym}
use Rattle.std.proofs.lemmas.Result.{err_from_is_err_and}
use Rattle.process_memory.specs.Seen.{read_fault}
use Rattle.process_memory.proofs.Reading.{reads_end, reads_halt, reads_next}
use Rattle.py_waits.specs.Objects.{slot_at}
use Rattle.py_waits.proofs.objects.slot_at.Goals as goal

pub returns-in_err-word : goal.returns-in_err-word
unfolding slot_at
returns-in_err-word g c =
    let p = err_from_is_err_and c.from_residual.result c.from_residual.ensures.1 in
    rw p.1 (reads_halt 6 p.0 _ c.in_err-word.ensures (ap read_fault p.2) (omega arith))

pub returns-in_err-own : goal.returns-in_err-own
unfolding slot_at
returns-in_err-own g c =
    let p = err_from_is_err_and c.from_residual-in_err-own.result c.from_residual-in_err-own.ensures.1 in
    rw p.1 (reads_next 6 _ c.in_ok-word.ensures
    (reads_halt 2 p.0 _ (rw c.address_in-object.ensures at c.in_err-own.ensures) (ap read_fault p.2)
    (omega arith)) (omega arith))

pub returns : goal.returns
unfolding slot_at
returns g c =
    reads_next 6 _ c.in_ok-word.ensures (reads_next 5 _ (rw c.address_in-object.ensures at c.in_ok-own.ensures)
    (rw c.address_in-object.ensures at c.through.ensures) (omega arith)) (omega arith)
