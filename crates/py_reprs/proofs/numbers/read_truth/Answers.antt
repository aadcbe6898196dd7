use Rattle.std.proofs.Common.{◌≡◌, arith, sym, ap, ◌∙◌, of_z, rules, to_z}
use Rattle.std.specs.Int.{w64}
use Rattle.std.specs.Prelude.{pos, int_lt}
use Rattle.std.proofs.lemmas.Int.{to_z-of_z}
use Rattle.std.proofs.lemmas.Result.{err_from_is_err_and}
use Rattle.process_memory.proofs.Reading.{reads_end, reads_halt, reads_next}
use Rattle.py_builtins.proofs.Consulted.{consulting_short}
use Rattle.py_builtins.specs.ObjectError.{object_fault}
use Rattle.py_reprs.proofs.Views.{tree-Truth}
use Rattle.py_reprs.specs.Numbers.{truth_by}
use Rattle.py_reprs.specs.Trees.Tree.{Truth}
use Rattle.py_reprs.proofs.numbers.read_truth.Goals as goal

pub returns-in_err-number : goal.returns-in_err-number
unfolding truth_by
returns-in_err-number g c =
    let p = err_from_is_err_and c.from_residual.result c.from_residual.ensures.1 in
    rw (c.if-is_small.true, p.1) (reads_halt 2 p.0 _ (consulting_short c.in_err-number.ensures.answer)
    (ap object_fault p.2) (omega arith))

pub returns-in_err-number-2 : goal.returns-in_err-number-2
unfolding truth_by
returns-in_err-number-2 g c =
    let p = err_from_is_err_and c.from_residual-in_err-number-2.result c.from_residual-in_err-number-2.ensures.1 in
    rw (c.if-is_small.false, p.1) (reads_halt 2 p.0 _ (consulting_short c.in_err-number-2.ensures.answer)
    (ap object_fault p.2) (omega arith))

pub returns-then-is_small : goal.returns-then-is_small
unfolding truth_by
returns-then-is_small g c =
    let id : to_z w64 (of_z w64 c.in_ok-number.number) ≡ c.in_ok-number.number = to_z-of_z w64 _ (search rules) in
    rw c.if-is_small.true (reads_next {k = 0} 2 _ (consulting_short c.in_ok-number.ensures.answer)
    (reads_end 0 (sym (tree-Truth _ ∙ ap (λ z. Truth (int_lt (pos 0) z)) id))) (omega arith))

pub returns : goal.returns
unfolding truth_by
returns g c =
    let id : to_z w64 (of_z w64 c.in_ok-number-2.number) ≡ c.in_ok-number-2.number = to_z-of_z w64 _ (search rules) in
    rw c.if-is_small.false (reads_next {k = 0} 2 _ (consulting_short c.in_ok-number-2.ensures.answer)
    (reads_end 0 (sym (tree-Truth _ ∙ ap (λ z. Truth (int_lt (pos 0) z)) id))) (omega arith))
