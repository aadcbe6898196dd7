use Rattle.std.proofs.Common.{arith}
use Rattle.std.proofs.lemmas.Result.{err_from_is_err_and}
use Rattle.process_memory.proofs.Reading.{reads_next, reads_halt}
use Rattle.py_names.specs.Names.{thread_at}
use Rattle.py_names.proofs.NameCounts.{thread_counts}
use Rattle.py_builtins.proofs.Consulted.{consults_fields}
use Rattle.py_names.proofs.names.read_thread.Goals as goal

pub returns-in_err-slot-clause-answer : goal.returns-in_err-slot-clause-answer
unfolding thread_at
returns-in_err-slot-clause-answer g c =
    let p = err_from_is_err_and c.from_residual.result c.from_residual.ensures.1 in
    rw p.1 (reads_halt _ p.0 _ (consults_fields c.args.layout.now c.in_err-slot.ensures.answer) p.2.0 (omega arith))

pub returns-clause-answer : goal.returns-clause-answer
unfolding thread_at
returns-clause-answer g c =
    let count = thread_counts c.args.layout.now c.args.dict.now.slots c.args.number c.args.left (consults_fields c.args.layout.now c.in_ok-slot.ensures.answer) in
    reads_next _ _ (consults_fields c.args.layout.now c.in_ok-slot.ensures.answer) c.read_given.ensures.answer (omega (arith, count))
