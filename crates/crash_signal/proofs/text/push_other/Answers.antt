use Rattle.std.proofs.Common.{◌≡◌, ◌++◌, ◌∙◌, List, ℕ, ap, append_assoc, rules, string_bytes}
use Rattle.std.specs.Prelude.{Result, Ok, Err, OnOk, codes, if◌then◌else◌, is_ok}
use Rattle.crash_signal.specs.Text.{name_text}
use Rattle.crash_signal.proofs.text.push_other.Goals as goal

-- three parts, one after another
three : {T E : Type 0} (r : Result T E) (new third second first a b d : List ℕ)
    → new ≡ (if is_ok r then third ++ d else third)
    → third ≡ second ++ b → second ≡ first ++ a → OnOk r (new ≡ first ++ (a ++ (b ++ d)))
three (Ok x) new third second first a b d last middle front =
    last ∙ ap (λ t. t ++ d) (middle ∙ ap (λ t. t ++ b) front) ∙ append_assoc (first ++ a) b d
    ∙ append_assoc first a (b ++ d)
three (Err e) new third second first a b d last middle front = tt

pub returns : goal.returns
returns c =
    let middle : string_bytes c.push_name.new.text ≡ string_bytes c.push_str.new.self ++ name_text c.args.signal
    = search rules in
    three c.push_str-2.result _ _ _ _ (codes "The note is of ") (name_text c.args.signal)
    (codes ", another signal\n") c.push_str-2.ensures.bytes middle c.in_ok-push_str.ensures.bytes
