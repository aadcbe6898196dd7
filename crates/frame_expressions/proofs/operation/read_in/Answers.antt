use Rattle.std.proofs.Common.{◌≡◌, ◌≢◌, ◌∙◌, ap, sym, length, drop, get_or, arith, ◌+◌}
use Rattle.std.specs.Prelude.{Some, None, Ok, Err}
use Rattle.std.proofs.lemmas.Bool.Decides.{nat_tests}
use Rattle.std.proofs.lemmas.List.{take_rest}
use Rattle.std.proofs.lemmas.Result.{err_from_is_err_and}
use Rattle.frame_expressions.specs.Operations.{formed_in, form_of, operand_in}
use Rattle.frame_expressions.proofs.Grammar.{empty_is, operation_begins, operand_follows, read_is}
use Rattle.frame_expressions.proofs.operation.read_in.Goals as goal

pub returns-then-is_empty : goal.returns-then-is_empty
returns-then-is_empty c =
    let none : length c.args.bytes.now ≡ 0 = grind (arith, nat_tests) in
    sym (empty_is c.args.bytes.now none)

pub returns-in_default : goal.returns-in_default
returns-in_default c =
    let bytes = c.args.bytes.now in
    let some : length bytes ≢ 0 = grind (arith, nat_tests) in
    let form : form_of (get_or bytes 0 0) ≡ None = sym c.form_of.ensures ∙ c.in_default.is in
    sym (operation_begins bytes some ∙ ap (formed_in (get_or bytes 0 0) (drop 1 bytes)) form)

pub returns-in_err-operand : goal.returns-in_err-operand
returns-in_err-operand c =
    let bytes = c.args.bytes.now in
    let some : length bytes ≢ 0 = grind (arith, nat_tests) in
    let form : form_of (get_or bytes 0 0) ≡ Some c.in-Some.form = sym c.form_of.ensures ∙ c.in-Some.is in
    let rest = ap (operand_in c.in-Some.form) (sym (take_rest bytes 1)) ∙ sym c.operand_in.ensures.value
    ∙ c.in_err-operand.was in
    let p = err_from_is_err_and c.from_residual.result c.from_residual.ensures.1 in
    p.1 ∙ ap Err p.2 ∙ sym (operand_follows bytes c.in-Some.form (Err c.in_err-operand.field-0.0) some form rest)

pub returns : goal.returns
returns c =
    let bytes = c.args.bytes.now in
    let some : length bytes ≢ 0 = grind (arith, nat_tests) in
    let form : form_of (get_or bytes 0 0) ≡ Some c.in-Some.form = sym c.form_of.ensures ∙ c.in-Some.is in
    let rest = ap (operand_in c.in-Some.form) (sym (take_rest bytes 1)) ∙ sym c.operand_in.ensures.value
    ∙ c.in_ok-operand.was in
    read_is _ _ (1 + c.in_ok-operand.operand.size) c.operation_of.ensures
    ∙ sym (operand_follows bytes c.in-Some.form (Ok c.in_ok-operand.operand) some form rest)
