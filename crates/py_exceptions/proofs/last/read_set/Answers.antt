use Rattle.std.proofs.Common.{ap, arith, refl}
use Rattle.std.proofs.lemmas.Result.{err_from_is_err_and}
use Rattle.process_memory.proofs.Reading.{reads_end, reads_halt, reads_next}
use Rattle.py_names.specs.NamesError.{names_fault}
use Rattle.py_exceptions.specs.Last.{set_at}
use Rattle.py_exceptions.proofs.last.read_set.Goals as goal

pub returns-in_err-found : goal.returns-in_err-found
unfolding set_at
returns-in_err-found g c =
    let p = err_from_is_err_and c.from_residual.result c.from_residual.ensures.1 in
    rw p.1 (reads_halt 32776 p.0 _ c.in_err-found.ensures (ap names_fault p.2) (omega arith))

pub returns : goal.returns
unfolding set_at
returns g c = reads_next {k = 0} 32776 _ c.in_ok-found.ensures (reads_end 0 refl) (omega arith)
