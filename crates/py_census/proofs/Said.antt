-- What is said of the value that a call may give.
use Rattle.std.proofs.Common.{◌≡◌, ◌∙◌, Ok, Err, Result}
use Rattle.std.specs.Prelude.{IfOk}

-- the same of an equal one
pub said : {T E : Type 0} (r : Result T E) (u v : T) → u ≡ v → IfOk r (λ x. x ≡ u) → IfOk r (λ x. x ≡ v)
said (Ok x) u v e h = h ∙ e
said (Err error) u v e h = h
