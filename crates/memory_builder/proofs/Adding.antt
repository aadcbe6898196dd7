-- What is added in turn.
use Rattle.std.proofs.Common.{◌≡◌, ◌∙◌, ◌++◌, ℕ, List, ap, subst, append_assoc}
use Rattle.std.specs.Prelude.{IfOk, Result}

pub two_added : {T E : Type 0} (r : Result T E) (new old one a b : List ℕ) → one ≡ old ++ a
    → IfOk r (λ _. new ≡ one ++ b) → IfOk r (λ _. new ≡ old ++ (a ++ b))
two_added r new old one a b e h = subst (λ ys. IfOk r (λ _. new ≡ ys)) (ap (λ o. o ++ b) e ∙ append_assoc old a b) h

pub three_added : {T E : Type 0} (r : Result T E) (new old one two a b c : List ℕ) → one ≡ old ++ a → two ≡ one ++ b
    → IfOk r (λ _. new ≡ two ++ c)
    → IfOk r (λ _. new ≡ old ++ (a ++ (b ++ c)))
three_added r new old one two a b c e d h = two_added r new old one a (b ++ c) e (two_added r new one two b c d h)

pub four_added : {T E : Type 0} (r : Result T E) (new old one two three a b c d : List ℕ) → one ≡ old ++ a
    → two ≡ one ++ b → three ≡ two ++ c → IfOk r (λ _. new ≡ three ++ d)
    → IfOk r (λ _. new ≡ old ++ (a ++ (b ++ (c ++ d))))
four_added r new old one two three a b c d e1 e2 e3 h = two_added r new old one a (b
    ++ (c ++ d)) e1 (three_added r new one two three b c d e2 e3 h)
