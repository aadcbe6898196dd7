-- What is said of a list that a call may give.
use Rattle.std.proofs.Common.{◌≡◌, ◌∙◌, List, Ok, Err, Result, Vec, Global}
use Rattle.std.specs.Prelude.{IfOk}

-- the same of an equal one
pub said : {T E : Type 0} (r : Result (Vec T Global) E) (xs ys : List T) → xs ≡ ys → IfOk r (λ v. v.items ≡ xs)
    → IfOk r (λ v. v.items ≡ ys)
said (Ok v) xs ys e h = h ∙ e
said (Err error) xs ys e h = h
