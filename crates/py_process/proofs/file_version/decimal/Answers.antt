use Rattle.std.proofs.Common.{◌<◌, sym, ◌∙◌, arith, length}
use Rattle.std.proofs.lemmas.Bool.Decides.{nat_tests}
use Rattle.py_process.proofs.Decimals.{all_more, digit_more, is_decimal, too_large}
use Rattle.py_process.proofs.file_version.decimal.Goals as goal

pub returns-in_err-checked_mul : goal.returns-in_err-checked_mul
returns-in_err-checked_mul c =
    let more = digit_more c.args.digits.now c.loop-digit.digit-index c.loop-digit-test.true (sym c.is_ascii_digit.ensures.value ∙ c.if-not-is_ascii_digit.false) in
    c.from_residual.ensures ∙ sym (too_large c.args.digits.now c.loop-digit.digit-index (omega (arith, more, c.loop-digit.invariant.value, c.in_err-checked_mul.ensures)))

pub returns-in_err-number : goal.returns-in_err-number
returns-in_err-number c =
    let more = digit_more c.args.digits.now c.loop-digit.digit-index c.loop-digit-test.true (sym c.is_ascii_digit.ensures.value ∙ c.if-not-is_ascii_digit.false) in
    c.from_residual-in_err-number.ensures ∙ sym (too_large c.args.digits.now c.loop-digit.digit-index
    (omega (arith, more, c.loop-digit.invariant.value, c.in_ok-checked_mul.ensures.1, c.from.ensures, c.in_err-number.ensures)))

pub loop-digit-preserved : goal.loop-digit-preserved
loop-digit-preserved c =
    let digit = sym c.is_ascii_digit.ensures.value ∙ c.if-not-is_ascii_digit.false in
    let more = digit_more c.args.digits.now c.loop-digit.digit-index c.loop-digit-test.true digit in
    record {
      value = omega (arith, more, c.loop-digit.invariant.value, c.in_ok-checked_mul.ensures.1, c.from.ensures, c.in_ok-number.ensures.1);
      all = all_more c.args.digits.now c.loop-digit.digit-index c.loop-digit-test.true c.loop-digit.invariant.all digit;
      fits = omega (arith, c.in_ok-number.ensures.0, c.in_ok-number.ensures.1);
    }

pub returns : goal.returns
returns c =
    let some : 0 < length c.args.digits.now = grind (arith, nat_tests) in
    is_decimal c.args.digits.now c.loop-digit.digit-index c.loop-digit.number (omega (arith, c.loop-digit-test.false)) some c.loop-digit.invariant.value c.loop-digit.invariant.all c.loop-digit.invariant.fits
