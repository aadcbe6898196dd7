use Rattle.std.proofs.Common.{◌≡◌, ◌++◌, sym, ◌∙◌, arith}
use Rattle.std.specs.Prelude.{codes}
use Rattle.std.specs.Str.{trim_start}
use Rattle.native_merge.proofs.SourceNames.{never_open, no_number, read_longest, stripped, tells_no_name}
use Rattle.native_merge.proofs.SourceNames.{tells_no_number}
use Rattle.native_merge.proofs.source_line.line_mark.Goals as goal

pub returns-in_err-end : goal.returns-in_err-end
returns-in_err-end c =
    let begins : trim_start c.args.line.now ≡ codes "/* \"" ++ c.in_ok-text.text.now =
    sym c.trim_start.ensures.trim ∙ stripped (codes "/* \"") c.trim_start.result.now c.in_ok-text.text.now c.in_ok-text.ensures.cases in
    rw c.from_residual-in_err-end.ensures (tells_no_name c.args.line.now c.as_bytes.result.now c.in_ok-text.text.now begins c.as_bytes.ensures.value c.in_err-end.ensures)

pub returns-in_err-digits : goal.returns-in_err-digits
returns-in_err-digits c = absurd (never_open c.as_bytes.result.now c.in_ok-text.text.now c.split_at.result.1.now c.in_ok-end.end
    c.as_bytes.ensures.value c.in_ok-end.ensures c.split_at.ensures.back c.in_err-digits.ensures.cases)

pub returns-in_err-number : goal.returns-in_err-number
returns-in_err-number c =
    let begins : trim_start c.args.line.now ≡ codes "/* \"" ++ c.in_ok-text.text.now =
    sym c.trim_start.ensures.trim ∙ stripped (codes "/* \"") c.trim_start.result.now c.in_ok-text.text.now c.in_ok-text.ensures.cases in
    let longest = read_longest c.as_bytes.result.now c.in_ok-text.text.now c.split_at.result.1.now c.split_at.result.0.now c.in_ok-digits.digits.now c.in_ok-end.end
    c.as_bytes.ensures.value c.in_ok-end.ensures c.split_at.ensures.front c.split_at.ensures.back
    (stripped (codes "\":") c.split_at.result.1.now c.in_ok-digits.digits.now c.in_ok-digits.ensures.cases) in
    rw c.from_residual-in_err-number.ensures (tells_no_number c.args.line.now c.in_ok-text.text.now c.split_at.result.0.now c.in_ok-digits.digits.now begins longest
    (no_number c.in_ok-digits.digits.now c.in_err-number.ensures))

pub returns-then-number-from : goal.returns-then-number-from
returns-then-number-from c =
    let begins : trim_start c.args.line.now ≡ codes "/* \"" ++ c.in_ok-text.text.now =
    sym c.trim_start.ensures.trim ∙ stripped (codes "/* \"") c.trim_start.result.now c.in_ok-text.text.now c.in_ok-text.ensures.cases in
    let longest = read_longest c.as_bytes.result.now c.in_ok-text.text.now c.split_at.result.1.now c.split_at.result.0.now c.in_ok-digits.digits.now c.in_ok-end.end
    c.as_bytes.ensures.value c.in_ok-end.ensures c.split_at.ensures.front c.split_at.ensures.back
    (stripped (codes "\":") c.split_at.result.1.now c.in_ok-digits.digits.now c.in_ok-digits.ensures.cases) in
    tells_no_number c.args.line.now c.in_ok-text.text.now c.split_at.result.0.now c.in_ok-digits.digits.now begins longest
    (λ some fits. omega (arith, fits, c.in_ok-number.ensures.value, c.if-number-from.true, c.from.ensures))

pub returns : goal.returns
returns c = record {
  text = c.in_ok-text.text.now;
  rest = c.in_ok-digits.digits.now;
  begins = sym c.trim_start.ensures.trim ∙ stripped (codes "/* \"") c.trim_start.result.now c.in_ok-text.text.now c.in_ok-text.ensures.cases;
  names = read_longest c.as_bytes.result.now c.in_ok-text.text.now c.split_at.result.1.now c.split_at.result.0.now c.in_ok-digits.digits.now c.in_ok-end.end
      c.as_bytes.ensures.value c.in_ok-end.ensures c.split_at.ensures.front c.split_at.ensures.back
      (stripped (codes "\":") c.split_at.result.1.now c.in_ok-digits.digits.now c.in_ok-digits.ensures.cases);
  value = c.in_ok-number.ensures.value;
  fits = omega (arith, c.if-number-from.false, c.from.ensures);
}
