use Rattle.std.proofs.Common.{ap, arith}
use Rattle.std.proofs.lemmas.Result.{err_from_is_err_and}
use Rattle.std.specs.Prelude.{codes}
use Rattle.process_memory.proofs.Reading.{reading_short, reads_halt, reads_next}
use Rattle.py_builtins.proofs.Consulted.{consulting_short}
use Rattle.py_names.specs.NamesError.{names_fault}
use Rattle.thread_names.specs.Active.{interpreter_active_at}
use Rattle.thread_names.proofs.Searches.{find_few}
use Rattle.thread_names.proofs.active.read_interpreter.Goals as goal

pub returns-in_err-modules-clause-answer : goal.returns-in_err-modules-clause-answer
unfolding interpreter_active_at
returns-in_err-modules-clause-answer g c =
    let p = err_from_is_err_and c.from_residual.result c.from_residual.ensures.1 in
    rw p.1 (reads_halt 524298 p.0 _ (reading_short c.in_err-modules.ensures.answer) p.2.0 (omega arith))

pub returns-in_err-dict-clause-answer : goal.returns-in_err-dict-clause-answer
unfolding interpreter_active_at
returns-in_err-dict-clause-answer g c =
    let p = err_from_is_err_and c.from_residual-in_err-dict.result c.from_residual-in_err-dict.ensures.1 in
    rw p.1 (reads_next 524298 _ (reading_short c.in_ok-modules.ensures.answer)
    (reads_halt 2 p.0 _ (consulting_short c.in_err-dict.ensures.answer) p.2.0 (omega arith)) (omega arith))

pub returns-in_err-search-clause-answer : goal.returns-in_err-search-clause-answer
unfolding interpreter_active_at
returns-in_err-search-clause-answer g c =
    let p = err_from_is_err_and c.from_residual-in_err-search.result c.from_residual-in_err-search.ensures.1 in
    let found = find_few c.args.layout.now (codes "threading") c.in_ok-dict.dict.slots 65536
    c.in_err-search.ensures.answer in
    rw p.1 (reads_next 524298 _ (reading_short c.in_ok-modules.ensures.answer)
    (reads_next 262146 _ (consulting_short c.in_ok-dict.ensures.answer)
    (reads_halt 262144 p.0 _ found (ap names_fault p.2) (omega arith)) (omega arith)) (omega arith))

pub returns-clause-answer : goal.returns-clause-answer
unfolding interpreter_active_at
returns-clause-answer g c =
    let found = find_few c.args.layout.now (codes "threading") c.in_ok-dict.dict.slots 65536
    c.in_ok-search.ensures.answer in
    reads_next 524298 _ (reading_short c.in_ok-modules.ensures.answer)
    (reads_next 524297 _ (consulting_short c.in_ok-dict.ensures.answer)
    (reads_next 524295 _ found c.read_module.ensures.answer (omega arith)) (omega arith)) (omega arith)
