use Rattle.std.proofs.Common.{FitsSigned, ◌≡◌, ◌∙◌, ◌+◌, ◌*◌, rules, refl, arith, ap}
use Rattle.std.proofs.Math.Nat.{le_refl}
use Rattle.std.proofs.lemmas.Result.{err_from_is_err_and}
use Rattle.process_memory.specs.Memory.{byte_at}
use Rattle.process_memory.proofs.Reading.{reads_next, reads_halt, reads_end}
use Rattle.std.specs.Int.{w64, cast_unsigned}
use Rattle.std.proofs.lemmas.Int.{to_z-of_z}
use Rattle.py_names.specs.NamesError.{names_fault}
use Rattle.py_names.specs.Names.{entry_in, entry_looked}
use Rattle.py_names.proofs.NameCounts.{entry_counts}
use Rattle.py_names.proofs.names.read_entry.Goals as goal

pub returns-in_err-number-clause-answer : goal.returns-in_err-number-clause-answer
unfolding entry_in
returns-in_err-number-clause-answer g c =
    let p = err_from_is_err_and c.from_residual.result c.from_residual.ensures.1 in
    rw p.1 (reads_halt _ p.0 _ c.in_err-number.ensures.answer p.2.0 (omega arith))

pub returns-in_err-class-clause-answer : goal.returns-in_err-class-clause-answer
unfolding entry_in
returns-in_err-class-clause-answer g c =
    let p = err_from_is_err_and c.from_residual-in_err-class.result c.from_residual-in_err-class.ensures.1 in
    rw p.1 (reads_next _ _ c.in_ok-number.ensures.answer (reads_halt 2 p.0 _ c.in_err-class.ensures p.2.0 (le_refl 2)) (omega arith))

pub returns-in_err-dict-clause-answer : goal.returns-in_err-dict-clause-answer
unfolding entry_in
returns-in_err-dict-clause-answer g c =
    let p = err_from_is_err_and c.from_residual-in_err-dict.result c.from_residual-in_err-dict.ensures.1 in
    rw p.1 (reads_next _ _ c.in_ok-number.ensures.answer (reads_next 6 _ c.in_ok-class.ensures (reads_halt 4 p.0 _ c.in_err-dict.ensures.answer (ap names_fault p.2) (le_refl 4)) (le_refl 6)) (omega arith))

pub returns-in_err-search-clause-answer : goal.returns-in_err-search-clause-answer
unfolding entry_in
returns-in_err-search-clause-answer g c =
    let p = err_from_is_err_and c.from_residual-in_err-search.result c.from_residual-in_err-search.ensures.1 in
    let n = entry_looked c.args.layout.now (byte_at (g.P.ProcessMemory.seen c.args.process.now).pieces) c.args.key c.args.value c.args.left in
    let count = entry_counts c.args.layout.now c.args.key c.args.value c.args.left c.in_ok-number.ensures.answer c.in_ok-class.ensures c.in_ok-dict.ensures.answer in
    rw p.1 (reads_next _ _ c.in_ok-number.ensures.answer (reads_next (2 + (4 + 4 * n)) _ c.in_ok-class.ensures (reads_next (4 + 4 * n) _ c.in_ok-dict.ensures.answer (reads_halt (4 * n) p.0 _ c.in_err-search.ensures.answer (ap names_fault p.2) (omega (arith, count))) (le_refl _)) (le_refl _)) (omega arith))

pub returns-in_err-named-clause-answer : goal.returns-in_err-named-clause-answer
unfolding entry_in
returns-in_err-named-clause-answer g c =
    let p = err_from_is_err_and c.from_residual-in_err-named.result c.from_residual-in_err-named.ensures.1 in
    let fits : FitsSigned w64 c.in_ok-number.number = search rules in
    let id : c.cast_unsigned.result ≡ cast_unsigned w64 c.in_ok-number.number = c.cast_unsigned.ensures ∙ ap (cast_unsigned w64) (to_z-of_z w64 c.in_ok-number.number fits) in
    let name = rw id at c.in_err-named.ensures.answer in
    let n = entry_looked c.args.layout.now (byte_at (g.P.ProcessMemory.seen c.args.process.now).pieces) c.args.key c.args.value c.args.left in
    let count = entry_counts c.args.layout.now c.args.key c.args.value c.args.left c.in_ok-number.ensures.answer c.in_ok-class.ensures c.in_ok-dict.ensures.answer in
    rw p.1 (reads_next _ _ c.in_ok-number.ensures.answer (reads_next (2 + (4 + (4 * n + 2))) _ c.in_ok-class.ensures (reads_next (4 + (4 * n + 2)) _ c.in_ok-dict.ensures.answer (reads_next (4 * n + 2) _ c.in_ok-search.ensures.answer (reads_halt 2 p.0 _ name (ap names_fault p.2) (le_refl 2)) (omega (arith, count))) (le_refl _)) (le_refl _)) (omega arith))

pub returns-clause-answer : goal.returns-clause-answer
unfolding entry_in
returns-clause-answer g c =
    let fits : FitsSigned w64 c.in_ok-number.number = search rules in
    let id : c.cast_unsigned.result ≡ cast_unsigned w64 c.in_ok-number.number = c.cast_unsigned.ensures ∙ ap (cast_unsigned w64) (to_z-of_z w64 c.in_ok-number.number fits) in
    let name = rw id at c.in_ok-named.ensures.answer in
    let n = entry_looked c.args.layout.now (byte_at (g.P.ProcessMemory.seen c.args.process.now).pieces) c.args.key c.args.value c.args.left in
    let count = entry_counts c.args.layout.now c.args.key c.args.value c.args.left c.in_ok-number.ensures.answer c.in_ok-class.ensures c.in_ok-dict.ensures.answer in
    reads_next _ _ c.in_ok-number.ensures.answer (reads_next (2 + (4 + (4 * n + 2))) _ c.in_ok-class.ensures (reads_next (4 + (4 * n + 2)) _ c.in_ok-dict.ensures.answer (reads_next (4 * n + 2) _ c.in_ok-search.ensures.answer (reads_next 2 _ name (reads_end 0 refl) (omega arith)) (omega (arith, count))) (le_refl _)) (le_refl _)) (omega arith)
