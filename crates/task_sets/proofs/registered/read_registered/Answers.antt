use Rattle.std.proofs.Common.{ap, arith}
use Rattle.std.proofs.lemmas.Result.{err_from_is_err_and}
use Rattle.process_memory.proofs.Reading.{reads_halt, reads_next}
use Rattle.py_names.specs.NamesError.{names_fault}
use Rattle.task_sets.specs.Registered.{registered_at}
use Rattle.task_sets.proofs.registered.read_registered.Goals as goal

pub returns-in_err-tables : goal.returns-in_err-tables
unfolding registered_at
returns-in_err-tables g c =
    let p = err_from_is_err_and c.from_residual.result c.from_residual.ensures.1 in
    rw p.1 (reads_halt 3309595 p.0 _ c.in_err-tables.ensures.answer (ap names_fault p.2) (omega arith))

pub returns : goal.returns
unfolding registered_at
returns g c = (reads_next 3309595 _ c.in_ok-tables.ensures.answer c.read_members.ensures (omega arith))
