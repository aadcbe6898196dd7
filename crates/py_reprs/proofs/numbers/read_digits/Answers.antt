use Rattle.std.proofs.Common.{arith, sym, ap, ◌∙◌}
use Rattle.std.proofs.lemmas.Result.{err_from_is_err_and}
use Rattle.process_memory.proofs.Reading.{reading_short, reads_end, reads_halt, reads_known, reads_next}
use Rattle.py_builtins.specs.ObjectError.{object_fault}
use Rattle.std.specs.Int.{w32}
use Rattle.py_builtins.specs.TextKind.{numbers_of}
use Rattle.py_reprs.proofs.Views.{tree-Integer}
use Rattle.py_reprs.specs.Numbers.{digits_at, integer_form}
use Rattle.py_reprs.specs.Trees.Tree.{Integer}
use Rattle.py_reprs.proofs.numbers.read_digits.Goals as goal

pub returns-in_err-bytes : goal.returns-in_err-bytes
unfolding digits_at
returns-in_err-bytes g c =
    let p = err_from_is_err_and c.from_residual.result c.from_residual.ensures.1 in
    rw p.1 (reads_halt 1 p.0 _ (reading_short c.in_err-bytes.ensures.answer) p.2 (omega arith))

pub returns-in_err-numbers : goal.returns-in_err-numbers
unfolding digits_at
returns-in_err-numbers g c =
    let p = err_from_is_err_and c.from_residual-in_err-numbers.result c.from_residual-in_err-numbers.ensures.1 in
    rw p.1 (reads_next {k = 0} 1 _ (reading_short c.in_ok-bytes.ensures.answer)
    (reads_known 0 _ _ (λ m. record { is = rw (ap object_fault p.2) tt })) (omega arith))

pub returns : goal.returns
unfolding digits_at
returns g c =
    let bytes = c.in_ok-numbers.ensures ∙ ap (numbers_of w32 4) c.deref.ensures.value in
    reads_next {k = 0} 1 _ (reading_short c.in_ok-bytes.ensures.answer) (reads_end 0 (sym (tree-Integer _ _ _
    ∙ ap (λ f. Integer f c.args.digits.negative c.in_ok-numbers.numbers.items) c.integer_form.ensures
    ∙ ap (Integer (integer_form c.args.layout.now) c.args.digits.negative) bytes))) (omega arith)
