-- Shares of the nodes.
use Rattle.std.proofs.Common.{◌≡◌, ℕ, zero, suc, ◌+◌, ◌-◌, ◌*◌, ◌/◌, ◌≤◌, ◌∙◌, false, eqb, List, [], ◌∷◌}
use Rattle.std.proofs.Common.{length, length-append, refl, sym, ap, arith}
use Rattle.std.proofs.lemmas.Bool.Decides.{nat_tests}
use Rattle.std.proofs.Math.Nat.{mul-div-le, mul-le-mul_right}
use Rattle.process_memory.specs.Memory.{Memory}
use Rattle.py_reprs.specs.declared.limits.Limits.{Limits}
use Rattle.py_reprs.specs.declared.places.Place.{Place}
use Rattle.py_reprs.specs.declared.repr.ItemsForm.{ItemsForm}
use Rattle.py_reprs.specs.Levels.{row_at, row_by}
use Rattle.py_reprs.specs.LevelForms.{Row}
use Rattle.py_reprs.specs.Limits.{share, shown_count}
use Rattle.py_reprs.specs.Places.{firsts, places_at}

firsts_length : {T : Type 0} (f : ℕ → T) (n : ℕ) → length (firsts f n) ≡ n
unfolding firsts
firsts_length f zero = refl
firsts_length f (suc n) = length-append (firsts f n) (f n ∷ []) ∙ omega (arith, firsts_length f n)

pub places_count : (m : Memory) (base count : ℕ) (places : List Place) → places ≡ places_at m base count
    → length places ≡ count
places_count m base count places e = ap length e ∙ firsts_length _ count

-- a row that was read
pub row_is : (b : Limits) (m : Memory) (form : ItemsForm) (nodes count base shown s : ℕ) (places : List Place)
    → shown ≡ shown_count b.items nodes count → places ≡ places_at m base shown → s ≡ share nodes shown
    → row_at b m form nodes count base ≡ Row form places s (count - shown)
unfolding row_at
row_is b m form nodes count base shown s places e p q =
    ap (λ k. row_by m form nodes count base k) (sym e) ∙ ap (λ ps. Row form ps (share nodes shown) (count - shown)) (sym p)
    ∙ ap (λ x. Row form places x (count - shown)) (sym q)

share_some : (nodes k : ℕ) → share nodes (suc k) ≡ (nodes - suc k) / suc k
unfolding share
share_some nodes k = let no : eqb (suc k) 0 ≡ false = grind (arith, nat_tests) in rw no refl

fits : (s x rest nodes : ℕ) → s * x ≤ rest → s + rest ≡ nodes → s * (1 + x) ≤ nodes
fits s x rest nodes h e = omega (arith, h, e)

-- so many shares are within the nodes
pub share_fits : (nodes shown : ℕ) → shown ≤ nodes → shown * (1 + share nodes shown) ≤ nodes
share_fits nodes zero le = grind arith
share_fits nodes (suc k) le =
    rw (share_some nodes k) (fits (suc k) ((nodes - suc k) / suc k) (nodes - suc k) nodes
    (mul-div-le (nodes - suc k) (suc k)) (omega arith))

-- what values cost that have their shares
pub cost_within : (c n share nodes : ℕ) → n * (1 + share) ≤ nodes → c + n * ((1 + share) * c) ≤ (1 + nodes) * c
cost_within c n share nodes h = grind (arith, times c (n * (1 + share)) nodes h)
  where
    times : (c x y : ℕ) → x ≤ y → x * c ≤ y * c
    times c x y h = mul-le-mul_right c h

pub cost_both : (c n k share nodes : ℕ) → (n + k) * (1 + share) ≤ nodes
    → c + (n * ((1 + share) * c) + k * ((1 + share) * c)) ≤ (1 + nodes) * c
cost_both c n k share nodes h =
    let one = cost_within c (n + k) share nodes h in
    let sum : (n + k) * ((1 + share) * c) ≡ n * ((1 + share) * c) + k * ((1 + share) * c) = omega arith in
    omega (arith, one, sum)
