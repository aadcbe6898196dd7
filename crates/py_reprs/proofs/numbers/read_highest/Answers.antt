use Rattle.std.proofs.Common.{arith, sym, ap, ◌∙◌}
use Rattle.std.proofs.lemmas.Result.{err_from_is_err_and}
use Rattle.process_memory.proofs.Reading.{reading_short, reads_end, reads_halt, reads_next}
use Rattle.elf64_core.specs.Fields.{u32_in}
use Rattle.py_reprs.proofs.Views.{tree-HugeInteger}
use Rattle.py_reprs.specs.Numbers.{highest_at, integer_form}
use Rattle.py_reprs.specs.Trees.Tree.{HugeInteger}
use Rattle.py_reprs.proofs.numbers.read_highest.Goals as goal

pub returns-in_err-bytes : goal.returns-in_err-bytes
unfolding highest_at
returns-in_err-bytes g c =
    let p = err_from_is_err_and c.from_residual.result c.from_residual.ensures.1 in
    rw p.1 (reads_halt 1 p.0 _ (reading_short c.in_err-bytes.ensures.answer) p.2 (omega arith))

pub returns : goal.returns
unfolding highest_at
returns g c =
    let bytes = c.u32_in.ensures ∙ ap (λ b. u32_in b 0) c.deref.ensures.value in
    reads_next {k = 0} 1 _ (reading_short c.in_ok-bytes.ensures.answer) (reads_end 0 (sym (tree-HugeInteger _ _ _ _
    ∙ ap (λ f. HugeInteger f c.args.digits.negative c.args.digits.count c.u32_in.result) c.integer_form.ensures
    ∙ ap (HugeInteger (integer_form c.args.layout.now) c.args.digits.negative c.args.digits.count) bytes))) (omega arith)
