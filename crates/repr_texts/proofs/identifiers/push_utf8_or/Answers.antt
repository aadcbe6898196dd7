use Rattle.std.proofs.Common.{◌++◌, ◌∙◌, ap, string_bytes}
use Rattle.repr_texts.proofs.Attributing.{utf8_is, utf8_not}
use Rattle.repr_texts.proofs.identifiers.push_utf8_or.Goals as goal

pub returns-in_ok-push_str-in-Ok : goal.returns-in_ok-push_str-in-Ok
returns-in_ok-push_str-in-Ok c =
    c.in_ok-push_str-in-Ok.ensures.bytes ∙ ap (λ xs. string_bytes c.args.text.now ++ xs)
    (c.in-Ok.ensures.cases.0 ∙ utf8_is _ _ c.in-Ok.ensures.cases.1)

pub returns-in_ok-push_str-in-Err : goal.returns-in_ok-push_str-in-Err
returns-in_ok-push_str-in-Err c =
    c.in_ok-push_str-in-Err.ensures.bytes ∙ ap (λ xs. string_bytes c.args.text.now ++ xs)
    (utf8_not _ _ c.in-Err.ensures.cases.0)
