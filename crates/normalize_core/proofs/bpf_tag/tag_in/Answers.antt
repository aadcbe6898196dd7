use Rattle.std.proofs.Common.{◌≡◌, ◌<◌, ◌≤◌, ◌+◌, ◌*◌, ℕ, List, length, eqb, None, refl, sym, ap, ◌∙◌, arith}
use Rattle.std.proofs.Common.{length-set}
use Rattle.std.specs.Prelude.{option_map}
use Rattle.std.proofs.lemmas.Bool.{cond-true, eq-eqb}
use Rattle.normalize_core.specs.declared.bpf_tag.BpfTag.{BpfTag}
use Rattle.normalize_core.specs.Tags.{pairs_of, tag_of}
use Rattle.normalize_core.proofs.TagReading.{after-none, pair_read, pair_not_read, all_read}
use Rattle.normalize_core.proofs.TagTexts.{reads_back}
use Rattle.normalize_core.proofs.bpf_tag.tag_in.Goals as goal

whole : (text : List ℕ) → length text ≡ 16 → tag_of text ≡ pairs_of text
whole text h = cond-true (eqb (length text) 16) (pairs_of text) None (eq-eqb (length text) 16 h)

pub returns-then-text-ne16-clause-back : goal.returns-then-text-ne16-clause-back
returns-then-text-ne16-clause-back c = reads_back

pub returns-in_err-tag : goal.returns-in_err-tag
returns-in_err-tag c =
    let text = c.args.text.now in
    let within : 2 * c.loop-i.i + 1 < length text = omega (arith, c.if-text-ne16.false, c.loop-i-test.true) in
    record {
      reads = ap (option_map (λ (t : BpfTag). t.0)) c.from_residual.ensures
          ∙ sym (whole text c.if-text-ne16.false
          ∙ pair_not_read text c.loop-i.tag c.loop-i.i within c.loop-i.invariant.read c.in_err-tag.ensures);
      back = reads_back;
    }

pub loop-i-init : goal.loop-i-init
loop-i-init c = record { len = refl; read = after-none (pairs_of c.args.text.now) }

pub loop-i-preserved : goal.loop-i-preserved
loop-i-preserved c =
    let text = c.args.text.now in
    let within : 2 * c.loop-i.i + 1 < length text = omega (arith, c.if-text-ne16.false, c.loop-i-test.true) in
    let room : c.loop-i.i < length c.loop-i.tag = omega (arith, c.loop-i.invariant.len, c.loop-i-test.true) in
    record {
      len = length-set c.loop-i.tag c.loop-i.i c.in_ok-tag.field-0 ∙ c.loop-i.invariant.len;
      read = pair_read text c.loop-i.tag c.loop-i.i c.in_ok-tag.field-0 within room c.loop-i.invariant.read c.in_ok-tag.ensures;
    }

pub returns : goal.returns
returns c =
    let text = c.args.text.now in
    let ends : length text ≤ 2 * c.loop-i.i = omega (arith, c.if-text-ne16.false, c.loop-i-test.false) in
    let full : length c.loop-i.tag ≤ c.loop-i.i = omega (arith, c.loop-i.invariant.len, c.loop-i-test.false) in
    record {
      reads = sym (whole text c.if-text-ne16.false ∙ all_read text c.loop-i.tag c.loop-i.i ends full c.loop-i.invariant.read);
      back = reads_back;
    }
