use Rattle.std.proofs.Common.{◌∙◌, ap, arith, sym}
use Rattle.std.proofs.lemmas.Result.{err_from_is_err_and}
use Rattle.process_memory.proofs.Reading.{reads_end, reads_halt, reads_next}
use Rattle.py_builtins.proofs.Consulted.{consulting_short}
use Rattle.py_names.specs.NamesError.{names_fault}
use Rattle.task_sets.specs.Named.{attribute_at, first_of}
use Rattle.process_memory.proofs.Reading.{reading_here}
use Rattle.task_sets.proofs.Few.{dict_few}
use Rattle.task_sets.proofs.named.read_attribute.Goals as goal

pub returns-in_err-dict : goal.returns-in_err-dict
unfolding attribute_at
returns-in_err-dict g c =
    let p = err_from_is_err_and c.from_residual.result c.from_residual.ensures.1 in
    rw p.1 (reads_halt 16393 p.0 _ (consulting_short c.in_err-dict.ensures) p.2.0 (omega arith))

pub returns-in_err-told : goal.returns-in_err-told
unfolding attribute_at
returns-in_err-told g c =
    let p = err_from_is_err_and c.from_residual-in_err-told.result c.from_residual-in_err-told.ensures.1 in
    rw p.1 (reads_next 16393 _ (consulting_short c.in_ok-dict.ensures) (reads_halt 16387 p.0 _ (consulting_short
    c.in_err-told.ensures) p.2.0 (omega arith)) (omega arith))

pub returns-in_err-values : goal.returns-in_err-values
unfolding attribute_at
returns-in_err-values g c =
    let p = err_from_is_err_and c.from_residual-in_err-values.result c.from_residual-in_err-values.ensures.1 in
    let few = dict_few c.args.layout.now _ c.args.places.now.form c.in_ok-dict.dict 4096 _ (reading_here
    c.in_ok-told.ensures).is in
    rw p.1 (reads_next 16393 _ (consulting_short c.in_ok-dict.ensures) (reads_next 16387 _ (consulting_short
    c.in_ok-told.ensures)
    (reads_halt 8192 p.0 _ (rw c.deref.ensures.value at c.in_err-values.ensures) (ap names_fault p.2) (omega
    (arith, few))) (omega arith)) (omega arith))

pub returns : goal.returns
unfolding attribute_at
returns g c =
    let few = dict_few c.args.layout.now _ c.args.places.now.form c.in_ok-dict.dict 4096 _ (reading_here
    c.in_ok-told.ensures).is in
    reads_next 16393 _ (consulting_short c.in_ok-dict.ensures) (reads_next 16387 _ (consulting_short
    c.in_ok-told.ensures)
    (reads_next {k = 0} 8192 _ (rw c.deref.ensures.value at c.in_ok-values.ensures)
    (reads_end 0 (sym (c.first_of.ensures ∙ ap (λ xs. first_of xs) c.deref-2.ensures.value))) (omega (arith, few)))
    (omega arith)) (omega arith)
