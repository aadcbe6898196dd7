use Rattle.std.proofs.Common.{◌+◌, ◌*◌, arith, ap}
use Rattle.std.proofs.Math.Nat.{le_refl}
use Rattle.std.proofs.lemmas.Result.{err_from_is_err_and}
use Rattle.std.specs.Prelude.{codes}
use Rattle.process_memory.specs.Memory.{byte_at}
use Rattle.process_memory.proofs.Reading.{reads_next, reads_halt}
use Rattle.py_names.specs.NamesError.{names_fault}
use Rattle.py_names.specs.Names.{interpreter_names_at, module_looked, slot_limit, slots_looked_at}
use Rattle.py_names.proofs.NameCounts.{interpreter_counts, search_counts}
use Rattle.py_builtins.specs.Consulted.IsWidth.{Word}
use Rattle.py_builtins.proofs.Consulted.{consults_field}
use Rattle.py_names.proofs.names.read_interpreter.Goals as goal

pub returns-in_err-modules-clause-answer : goal.returns-in_err-modules-clause-answer
unfolding interpreter_names_at
returns-in_err-modules-clause-answer g c =
    let p = err_from_is_err_and c.from_residual.result c.from_residual.ensures.1 in
    rw p.1 (reads_halt _ p.0 _ (consults_field c.args.layout.now Word c.in_err-modules.ensures.answer) p.2.0 (omega arith))

pub returns-in_err-dict-clause-answer : goal.returns-in_err-dict-clause-answer
unfolding interpreter_names_at
returns-in_err-dict-clause-answer g c =
    let p = err_from_is_err_and c.from_residual-in_err-dict.result c.from_residual-in_err-dict.ensures.1 in
    rw p.1 (reads_next _ _ (consults_field c.args.layout.now Word c.in_ok-modules.ensures.answer) (reads_halt 2 p.0 _ c.in_err-dict.ensures.answer p.2.0 (le_refl 2)) (omega arith))

pub returns-in_err-search-clause-answer : goal.returns-in_err-search-clause-answer
unfolding interpreter_names_at
returns-in_err-search-clause-answer g c =
    let p = err_from_is_err_and c.from_residual-in_err-search.result c.from_residual-in_err-search.ensures.1 in
    let n = slots_looked_at c.args.layout.now (byte_at (g.P.ProcessMemory.seen c.args.process.now).pieces) c.args.interpreter in
    let count = interpreter_counts c.args.layout.now c.args.interpreter (consults_field c.args.layout.now Word c.in_ok-modules.ensures.answer) c.in_ok-dict.ensures.answer in
    rw p.1 (reads_next _ _ (consults_field c.args.layout.now Word c.in_ok-modules.ensures.answer) (reads_next (2 + 4 * n) _ c.in_ok-dict.ensures.answer (reads_halt (4 * n) p.0 _ c.in_err-search.ensures.answer (ap names_fault p.2) (omega (arith, count))) (le_refl _)) (omega arith))

pub returns-clause-answer : goal.returns-clause-answer
unfolding interpreter_names_at
returns-clause-answer g c =
    let n = slots_looked_at c.args.layout.now (byte_at (g.P.ProcessMemory.seen c.args.process.now).pieces) c.args.interpreter in
    let count = interpreter_counts c.args.layout.now c.args.interpreter (consults_field c.args.layout.now Word c.in_ok-modules.ensures.answer) c.in_ok-dict.ensures.answer in
    let behind = search_counts c.args.layout.now (codes "threading") slot_limit (module_looked c.args.layout.now) _ c.in_ok-search.ensures.answer in
    reads_next _ _ (consults_field c.args.layout.now Word c.in_ok-modules.ensures.answer) (reads_next (9 + 12 * n) _ c.in_ok-dict.ensures.answer (reads_next (7 + 12 * n) _ c.in_ok-search.ensures.answer c.read_module.ensures.answer (omega (arith, count, behind))) (omega arith)) (omega arith)
