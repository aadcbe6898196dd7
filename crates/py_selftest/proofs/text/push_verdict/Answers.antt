use Rattle.std.proofs.Common.{◌≡◌, ◌∙◌, ◌++◌, ℕ, List, ap, append_assoc}
use Rattle.std.specs.Prelude.{Result, Ok, Err, OnOk, codes, is_ok, if◌then◌else◌, string_bytes}
use Rattle.py_selftest.proofs.text.push_verdict.Goals as goal

pushed : {T E : Type 0} (r : Result T E) (before after part : List ℕ)
    → after ≡ (if is_ok r then before ++ part else before) → OnOk r (after ≡ before ++ part)
pushed (Ok x) before after part is = is
pushed (Err e) before after part is = tt

both : {T E : Type 0} (r : Result T E) (before middle after one two : List ℕ) → middle ≡ before ++ one
    → OnOk r (after ≡ middle ++ two) → OnOk r (after ≡ before ++ (one ++ two))
both (Ok x) before middle after one two first second =
    second ∙ ap (λ t. t ++ two) first ∙ append_assoc before one two
both (Err e) before middle after one two first second = tt

pub returns-in_ok-push_doubt-in-Doubtful : goal.returns-in_ok-push_doubt-in-Doubtful
returns-in_ok-push_doubt-in-Doubtful c = rw c.in-Doubtful.is (both c.push_counts-in-Doubtful.result _ _ _ _ _
    (rw c.has_no_right_frame.ensures at c.in_ok-push_doubt-in-Doubtful.ensures) c.push_counts-in-Doubtful.ensures)

pub returns-in-NotDescribed : goal.returns-in-NotDescribed
returns-in-NotDescribed c =
    rw c.in-NotDescribed.is (pushed c.push_str-in-NotDescribed.result (string_bytes c.args.text.now) _
    (codes "Layout not confirmed: this version's types are not known\n") c.push_str-in-NotDescribed.ensures.bytes)
