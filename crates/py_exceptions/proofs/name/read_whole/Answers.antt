use Rattle.std.proofs.Common.{ap, arith, sym, ◌∙◌}
use Rattle.std.proofs.lemmas.Result.{err_from_is_err_and}
use Rattle.process_memory.proofs.Reading.{reading_short, reads_end, reads_halt, reads_known, reads_next}
use Rattle.py_names.specs.NamesError.{names_fault}
use Rattle.py_exceptions.specs.ClassNames.{class_name, whole_at, whole_of}
use Rattle.py_exceptions.proofs.name.read_whole.Goals as goal

pub returns-in_err-at : goal.returns-in_err-at
unfolding whole_at
returns-in_err-at g c =
    let p = err_from_is_err_and c.from_residual.result c.from_residual.ensures.1 in
    rw p.1 (reads_halt 2 p.0 _ (reading_short c.in_err-at.ensures.answer) p.2.0 (omega arith))

pub returns-in_err-chars : goal.returns-in_err-chars
unfolding whole_at
returns-in_err-chars g c =
    let p = err_from_is_err_and c.from_residual-in_err-chars.result c.from_residual-in_err-chars.ensures.1 in
    rw p.1 (reads_next 2 _ (reading_short c.in_ok-at.ensures.answer)
    (reads_halt 1 p.0 _ (reading_short c.in_err-chars.ensures.answer) p.2.0 (omega arith)) (omega arith))

pub returns-in_err-name : goal.returns-in_err-name
unfolding whole_at
returns-in_err-name g c =
    let p = err_from_is_err_and c.from_residual-in_err-name.result c.from_residual-in_err-name.ensures.1 in
    rw p.1 (reads_next 2 _ (reading_short c.in_ok-at.ensures.answer)
    (reads_next {k = 0} 1 _ (reading_short c.in_ok-chars.ensures.answer)
    (reads_known 0 _ _ (λ m. record { is = rw (ap names_fault p.2) tt })) (omega arith)) (omega arith))

pub returns : goal.returns
unfolding whole_at
returns g c =
    let name = c.in_ok-name.ensures ∙ ap (λ xs. class_name xs) c.deref.ensures.value in
    let is = c.whole_of.ensures ∙ ap (λ n. whole_of n) name in
    reads_next 2 _ (reading_short c.in_ok-at.ensures.answer)
    (reads_next {k = 0} 1 _ (reading_short c.in_ok-chars.ensures.answer) (reads_end 0 (sym is)) (omega arith))
    (omega arith)
