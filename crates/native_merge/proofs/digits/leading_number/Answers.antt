use Rattle.std.proofs.Common.{◌≡◌, ◌∙◌, sym, ap, subst, take}
use Rattle.std.specs.List.{prefix_len}
use Rattle.std.specs.Char.{is_ascii_digit}
use Rattle.std.specs.Str.{IsCharBoundary}
use Rattle.native_merge.specs.Digits.{leading_digits}
use Rattle.native_merge.proofs.Numbers.{digits_border, parse_fails}
use Rattle.native_merge.proofs.digits.leading_number.Goals as goal

pub split_at-requires : goal.split_at-requires
split_at-requires c =
    subst (IsCharBoundary c.args.text.now) (sym (c.digits_len.ensures.value ∙ ap (prefix_len is_ascii_digit) c.as_bytes.ensures.value))
    (digits_border c.args.text.now c.utf8.text)

pub returns-in_err-value : goal.returns-in_err-value
returns-in_err-value c =
    let len = c.digits_len.ensures.value ∙ ap (prefix_len is_ascii_digit) c.as_bytes.ensures.value in
    let digits : c.split_at.result.0.now ≡ leading_digits c.args.text.now =
    c.split_at.ensures.front ∙ ap (λ n. take n c.args.text.now) len in
    rw c.from_residual.ensures (parse_fails c.args.text.now c.split_at.result.0.now c.parse.result digits c.parse.ensures.value.0
    (sym c.ok.ensures.value ∙ c.in_err-value.was))
