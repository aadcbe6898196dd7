use Rattle.std.proofs.Common.{◌∙◌, ap, arith, sym}
use Rattle.std.proofs.lemmas.Result.{err_from_is_err_and}
use Rattle.process_memory.proofs.Reading.{reading_short, reads_end, reads_halt, reads_known, reads_next}
use Rattle.py_builtins.proofs.Consulted.{consulting_short}
use Rattle.py_names.specs.NamesError.{names_fault}
use Rattle.py_tasks.specs.Names.{class_name, class_text_at}
use Rattle.py_tasks.proofs.names.read_class_text.Goals as goal

pub returns-in_err-class : goal.returns-in_err-class
unfolding class_text_at
returns-in_err-class g c =
    let p = err_from_is_err_and c.from_residual.result c.from_residual.ensures.1 in
    rw p.1 (reads_halt 3 p.0 _ (consulting_short c.in_err-class.ensures) p.2.0 (omega arith))

pub returns-in_err-chars : goal.returns-in_err-chars
unfolding class_text_at
returns-in_err-chars g c =
    let p = err_from_is_err_and c.from_residual-in_err-chars.result c.from_residual-in_err-chars.ensures.1 in
    rw p.1 (reads_next 3 _ (consulting_short c.in_ok-class.ensures)
    (reads_halt 1 p.0 _ (reading_short c.in_err-chars.ensures.answer) p.2.0 (omega arith)) (omega arith))

pub returns : goal.returns
unfolding class_text_at
returns g c = (reads_next 3 _ (consulting_short c.in_ok-class.ensures)
    (reads_next 1 _ (reading_short c.in_ok-chars.ensures.answer)
    (reads_end 0 (sym (c.in_ok-name.ensures ∙ ap (λ xs. class_name xs) c.deref.ensures.value))) (omega arith))
    (omega arith))

pub returns-in_err-name : goal.returns-in_err-name
unfolding class_text_at
returns-in_err-name g c =
    let p = err_from_is_err_and c.from_residual-in_err-name.result c.from_residual-in_err-name.ensures.1 in
    rw p.1 (reads_next 3 _ (consulting_short c.in_ok-class.ensures)
    (reads_next {k = 0} 1 _ (reading_short c.in_ok-chars.ensures.answer)
    (reads_known 0 _ _ (λ m. record { is = rw (ap names_fault p.2) tt })) (omega arith)) (omega arith))
