use Rattle.std.proofs.Common.{arith}
use Rattle.std.proofs.lemmas.Result.{err_from_is_err_and}
use Rattle.process_memory.proofs.Reading.{reads_next, reads_halt}
use Rattle.py_names.specs.Search.{named_value_at}
use Rattle.py_builtins.proofs.Consulted.{consults_fields}
use Rattle.py_names.proofs.search.read_value.Goals as goal

pub returns-in_err-slot-clause-answer : goal.returns-in_err-slot-clause-answer
unfolding named_value_at
returns-in_err-slot-clause-answer g c =
    let p = err_from_is_err_and c.from_residual.result c.from_residual.ensures.1 in
    rw p.1 (reads_halt 4 p.0 _ (consults_fields c.args.layout.now c.in_err-slot.ensures.answer) p.2.0 (omega arith))

pub returns-clause-answer : goal.returns-clause-answer
unfolding named_value_at
returns-clause-answer g c = reads_next 4 _ (consults_fields c.args.layout.now c.in_ok-slot.ensures.answer) c.value_named.ensures.answer (omega arith)
