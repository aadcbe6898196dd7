-- What is kept for an address.
use Rattle.std.proofs.Common.{◌≡◌, ◌<◌, ◌∙◌, ap, sym, Bool, true, false, ℕ, nat_cmp, is_eq, cond, if◌then◌else◌, List, Option, Some, None}
use Rattle.std.proofs.Common.{option_map, refl, arith, ne_eqb, Less, Equal, Greater, ⊎_elim, ◌⊎◌}
use Rattle.std.specs.Prelude.{nat_eq}
use Rattle.std.specs.Cmp.{nat_cmp_is}
use Rattle.repr_json.specs.Shown.{known_type}
use Rattle.std.proofs.lemmas.Bool.{cases_order, eq-eqb}

below : (a b : ℕ) → a < b → is_eq (nat_cmp a b) ≡ nat_eq a b
below a b h = ap is_eq (sym (nat_cmp_is a b Less h)) ∙ sym (ne_eqb a b (λ e. absurd (omega (arith, h, e))))

above : (a b : ℕ) → b < a → is_eq (nat_cmp a b) ≡ nat_eq a b
above a b h = ap is_eq (sym (nat_cmp_is a b Greater h)) ∙ sym (ne_eqb a b (λ e. absurd (omega (arith, h, e))))

same : (a b : ℕ) → a ≡ b → is_eq (nat_cmp a b) ≡ nat_eq a b
same a b e = ap is_eq (sym (nat_cmp_is a b Equal e)) ∙ sym (eq-eqb a b e)

-- numbers are the same by both tests
pub same_test : (a b : ℕ) → is_eq (nat_cmp a b) ≡ nat_eq a b
same_test a b = ⊎_elim (same a b) (λ rest. ⊎_elim (below a b) (above a b) rest) (cases_order a b)

pub mapped : {X Y : Type 0} (f : X → Y) (b d : Bool) (x : X) (o : Option X) → b ≡ d
    → option_map f (cond b (Some x) o) ≡ (if d then Some (f x) else option_map f o)
mapped f true true x o e = refl
mapped f false false x o e = refl
mapped f true false x o e = absurd (cc)
mapped f false true x o e = absurd (cc)

pub joined : (b d : Bool) (x : Option (List ℕ)) (o : Option (Option (List ℕ))) → b ≡ d
    → known_type (cond b (Some x) o) ≡ (if d then x else known_type o)
joined true true x o e = refl
joined false false x o e = refl
joined true false x o e = absurd (cc)
joined false true x o e = absurd (cc)
