use Rattle.std.proofs.Common.{ap, arith, refl, sym}
use Rattle.std.proofs.lemmas.Result.{err_from_is_err_and}
use Rattle.process_memory.proofs.Reading.{reads_end, reads_halt, reads_next}
use Rattle.py_builtins.proofs.Consulted.{consulting_short}
use Rattle.py_names.specs.NamesError.{names_fault}
use Rattle.py_tasks.specs.Types.{type_at}
use Rattle.py_tasks.proofs.types.read_type_of.Goals as goal

pub returns-in-None : goal.returns-in-None
unfolding type_at
returns-in-None g c = rw c.in-None.is (reads_end 262154 refl)

pub returns-in_err-place-in-Some : goal.returns-in_err-place-in-Some
unfolding type_at
returns-in_err-place-in-Some g c =
    let p = err_from_is_err_and c.from_residual.result c.from_residual.ensures.1 in
    rw (c.in-Some.is, p.1) (reads_halt 262154 p.0 _ (consulting_short c.in_err-place-in-Some.ensures.answer)
    (ap names_fault p.2) (omega (arith, c.in_err-place-in-Some.ensures.most)))

pub returns-in_ok-place-in-Some : goal.returns-in_ok-place-in-Some
unfolding type_at
returns-in_ok-place-in-Some g c =
    rw c.in-Some.is (reads_next {k = 0} 262154 _ (consulting_short c.in_ok-place-in-Some.ensures.answer)
    (reads_end 0 (sym c.address_or.ensures)) (omega (arith, c.in_ok-place-in-Some.ensures.most)))
