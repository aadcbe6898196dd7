use Rattle.std.proofs.Common.{◌≡◌, ◌∙◌, ◌-◌, ◌≢◌, length, drop, get_or, arith, ap, sym}
use Rattle.std.specs.Prelude.{Some, None}
use Rattle.std.specs.Int.{bit_at}
use Rattle.std.proofs.lemmas.List.{take_rest}
use Rattle.std.proofs.lemmas.Bool.Decides.{nat_tests}
use Rattle.py_lines.proofs.Varints.{six_more, six_bits, at_most_36}
use Rattle.frame_lines.specs.Entries.{number_within}
use Rattle.frame_lines.proofs.Numbers.{number_is, number_more}
use Rattle.frame_lines.proofs.entry.+number_within.Goals as goal

pub returns-then-bytes-eq0-clause-small : goal.returns-then-bytes-eq0-clause-small
returns-then-bytes-eq0-clause-small t c = omega (arith, six_bits c.args.most c.if-most-eq0.false)

pub overflow_mul-result : goal.overflow_mul-result
overflow_mul-result t c = omega (
  arith,
  six_more c.args.most 0 c.in_ok-high.high c.if-most-eq0.false (omega arith)
      c.in_ok-high.ensures.small,
  at_most_36 c.args.most c.requires,
)

pub overflow_add-result : goal.overflow_add-result
overflow_add-result t c = omega (
  arith,
  six_more c.args.most c.from-low.result c.in_ok-high.high c.if-most-eq0.false
      (omega arith) c.in_ok-high.ensures.small,
  at_most_36 c.args.most c.requires,
)

pub returns-clause-small : goal.returns-clause-small
returns-clause-small t c = six_more c.args.most c.from-low.result c.in_ok-high.high c.if-most-eq0.false (omega arith)
    c.in_ok-high.ensures.small

pub returns-in_err-high-clause-value : goal.returns-in_err-high-clause-value
returns-in_err-high-clause-value t c =
    let bytes = c.args.bytes.now in
    let some : length bytes ≢ 0 = grind (arith, nat_tests) in
    let more : bit_at (get_or bytes 0 0) 6 ≢ 0 = grind (arith, c.if-bytes-eq0.false) in
    let rest : number_within (c.args.most - 1) (drop 1 bytes) ≡ None =
    ap (number_within (c.args.most - 1)) (sym (take_rest bytes 1)) ∙ sym c.number_within.ensures.value ∙
    c.in_err-high.was in
    c.from_residual.ensures ∙ sym (number_more c.args.most bytes None c.if-most-eq0.false some more rest)

pub returns-clause-value : goal.returns-clause-value
returns-clause-value t c =
    let bytes = c.args.bytes.now in
    let some : length bytes ≢ 0 = grind (arith, nat_tests) in
    let more : bit_at (get_or bytes 0 0) 6 ≢ 0 = grind (arith, c.if-bytes-eq0.false) in
    let rest : number_within (c.args.most - 1) (drop 1 bytes) ≡ Some c.in_ok-high.high =
    ap (number_within (c.args.most - 1)) (sym (take_rest bytes 1)) ∙ sym c.number_within.ensures.value ∙
    c.in_ok-high.was in
    number_is c.args.most bytes c.from-low.result c.in_ok-high.high c.if-most-eq0.false some more c.from-low.ensures
    rest
