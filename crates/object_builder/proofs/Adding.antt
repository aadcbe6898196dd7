-- What is added by the code, in other words for the same.
use Rattle.std.proofs.Common.{◌≡◌, ◌++◌, ℕ, List, map, subst, sym}
use Rattle.std.specs.Prelude.{IfOk, Result}
use Rattle.py_fields.specs.Places.{EndBy}
use Rattle.object_builder.specs.Objects.{Write, aligned, object, write_place}

pub inside_of : (n m : ℕ) (ws vs : List Write) → n ≡ m → ws ≡ vs → EndBy m (map write_place vs)
    → EndBy n (map write_place ws)
inside_of n m ws vs size are h =
    subst (λ k. EndBy k (map write_place ws)) (sym size) (subst (λ us. EndBy m (map write_place us)) (sym are) h)

pub added_of : {T E : Type 0} (r : Result T E) (new old : List ℕ) (n m : ℕ) (ws vs : List Write) → n ≡ m → ws ≡ vs
    → IfOk r (λ _. new ≡ old ++ aligned (object n ws)) → IfOk r (λ _. new ≡ old ++ aligned (object m vs))
added_of r new old n m ws vs size are h =
    subst (λ us. IfOk r (λ _. new ≡ old ++ aligned (object m us))) are
    (subst (λ k. IfOk r (λ _. new ≡ old ++ aligned (object k ws))) size h)
