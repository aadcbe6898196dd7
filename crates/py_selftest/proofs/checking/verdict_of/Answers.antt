use Rattle.std.proofs.Common.{◌≡◌, ◌∙◌, sym, refl, map, true, false}
use Rattle.std.specs.List.{list_any}
use Rattle.py_selftest.specs.Checking.{differs, key_shown, lacks}
use Rattle.py_selftest.specs.Questions.{has_no_right_frame}
use Rattle.py_selftest.proofs.Verdicts.{any_map}
use Rattle.py_selftest.proofs.checking.verdict_of.Goals as goal

pub returns-then-differing : goal.returns-then-differing
returns-then-differing c =
    let keys = c.args.keys.now in
    let other : list_any differs (map key_shown keys) ≡ true =
    sym (any_map key_shown differs keys) ∙ sym c.any_differs-differing.ensures ∙ c.if-differing.true in
    rw other refl

pub returns-then-no_right : goal.returns-then-no_right
returns-then-no_right c =
    let keys = c.args.keys.now in
    let same : list_any differs (map key_shown keys) ≡ false =
    sym (any_map key_shown differs keys) ∙ sym c.any_differs-differing.ensures ∙ c.if-differing.false in
    let no_right : has_no_right_frame c.args.frames c.args.known.now ≡ true =
    sym c.has_no_right_frame-no_right.ensures ∙ c.if-no_right.true in
    rw (same, no_right) refl

pub returns-then-lacking : goal.returns-then-lacking
returns-then-lacking c =
    let keys = c.args.keys.now in
    let same : list_any differs (map key_shown keys) ≡ false =
    sym (any_map key_shown differs keys) ∙ sym c.any_differs-differing.ensures ∙ c.if-differing.false in
    let right : has_no_right_frame c.args.frames c.args.known.now ≡ false =
    sym c.has_no_right_frame-no_right.ensures ∙ c.if-no_right.false in
    let some : list_any lacks (map key_shown keys) ≡ true =
    sym (any_map key_shown lacks keys) ∙ sym c.any_lacks-lacking.ensures ∙ c.if-lacking.true in
    rw (same, right, some) c.unconfirmed.ensures

pub returns : goal.returns
returns c =
    let keys = c.args.keys.now in
    let same : list_any differs (map key_shown keys) ≡ false =
    sym (any_map key_shown differs keys) ∙ sym c.any_differs-differing.ensures ∙ c.if-differing.false in
    let right : has_no_right_frame c.args.frames c.args.known.now ≡ false =
    sym c.has_no_right_frame-no_right.ensures ∙ c.if-no_right.false in
    let none : list_any lacks (map key_shown keys) ≡ false =
    sym (any_map key_shown lacks keys) ∙ sym c.any_lacks-lacking.ensures ∙ c.if-lacking.false in
    rw (same, right, none) refl
