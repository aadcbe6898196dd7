use Rattle.std.proofs.Common.{◌∙◌, ap, map, arith, sym}
use Rattle.std.proofs.lemmas.Result.{err_from_is_err_and}
use Rattle.process_memory.proofs.Reading.{reads_end, reads_halt, reads_known, reads_next}
use Rattle.py_builtins.proofs.Consulted.{consulting_short}
use Rattle.py_names.specs.NamesError.{names_fault}
use Rattle.task_sets.specs.Registered.{value_of, values_at}
use Rattle.task_sets.proofs.registered.read_values.Goals as goal

pub returns-in-None : goal.returns-in-None
unfolding values_at
returns-in-None g c = rw c.in-None.is (reads_end 131075 (sym c.new.ensures.items))

pub returns-in_err-told-in-Some : goal.returns-in_err-told-in-Some
unfolding values_at
returns-in_err-told-in-Some g c =
    let p = err_from_is_err_and c.from_residual.result c.from_residual.ensures.1 in
    rw (c.in-Some.is, p.1) (reads_halt 131075 p.0 _ (consulting_short c.in_err-told-in-Some.ensures) p.2.0 (omega
    arith))

pub returns-in_err-values-in-Some : goal.returns-in_err-values-in-Some
unfolding values_at
returns-in_err-values-in-Some g c =
    let p = err_from_is_err_and c.from_residual-in_err-values-in-Some.result
    c.from_residual-in_err-values-in-Some.ensures.1 in
    rw (c.in-Some.is, p.1) (reads_next {k = 0} 131075 _ (consulting_short c.in_ok-told-in-Some.ensures)
    (reads_known 0 _ _ (λ m. record { is = rw (ap names_fault p.2) tt })) (omega arith))

pub returns-in_ok-values-in-Some : goal.returns-in_ok-values-in-Some
unfolding values_at
returns-in_ok-values-in-Some g c =
    rw c.in-Some.is (reads_next {k = 0} 131075 _ (consulting_short c.in_ok-told-in-Some.ensures)
    (reads_end 0 (sym (c.in_ok-values-in-Some.ensures ∙ ap (λ xs. map value_of xs) c.deref.ensures.value))) (omega
    arith))
