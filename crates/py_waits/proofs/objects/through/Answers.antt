use Rattle.std.proofs.Common.{ap, arith, refl, sym}
use Rattle.std.proofs.lemmas.Result.{err_from_is_err_and}
use Rattle.process_memory.specs.Seen.{read_fault}
use Rattle.process_memory.proofs.Reading.{reads_end, reads_halt, reads_next}
use Rattle.py_waits.proofs.objects.through.Goals as goal

pub returns-in-Some : goal.returns-in-Some
returns-in-Some g c = rw c.in-Some.is (reads_end 3 refl)

pub returns-in_err-receiver-in-None : goal.returns-in_err-receiver-in-None
returns-in_err-receiver-in-None g c =
    let p = err_from_is_err_and c.from_residual.result c.from_residual.ensures.1 in
    rw (c.in-None.is, p.1) (reads_halt 3 p.0 _ c.in_err-receiver-in-None.ensures (ap read_fault p.2) (omega arith))

pub returns-in_ok-receiver-in-None : goal.returns-in_ok-receiver-in-None
returns-in_ok-receiver-in-None g c =
    rw c.in-None.is (reads_next 3 _ c.in_ok-receiver-in-None.ensures (rw c.address_in.ensures at c.object_at.ensures)
    (omega arith))
