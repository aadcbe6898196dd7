-- Values that stand in a list, one after another.
use Rattle.std.proofs.Common.{◌≡◌, ◌∙◌, ℕ, ◌+◌, ◌<◌, ◌≢◌, List, length, get_or, set, sym, ap, arith, below_more}
use Rattle.std.proofs.lemmas.List.{get_or-set_other, get_or-set_same}
use Rattle.std.proofs.Math.ListN.{length-set}
use Rattle.std.specs.Prelude.{Option, None}
use Rattle.core_unwind.specs.Values.{listed}
use Rattle.core_unwind.proofs.Filling.{listed_is}

-- the values before a number stand in a list of 32
pub record Listing (value : ℕ → Option ℕ) (values : List (Option ℕ)) (number : ℕ) : Type 0 where
  pub long : length values ≡ 32
  pub are : (k : ℕ) → k < number → get_or values k None ≡ value k

pub listing_init : (value : ℕ → Option ℕ) (values : List (Option ℕ)) → length values ≡ 32 → Listing value values 0
listing_init value values long = record { long = long; are = λ k lt. absurd (omega (arith, lt)) }

pub listing_more : {value : ℕ → Option ℕ} {values : List (Option ℕ)} {number : ℕ} (x : Option ℕ)
    → Listing value values number → number < 32 → x ≡ value number → Listing value (set values number x) (number + 1)
listing_more {value} {values} {number} x l below is =
    let room : number < length values = omega (arith, l.long, below) in
    record {
      long = length-set values number x ∙ l.long;
      are = below_more (λ k. get_or (set values number x) k None ≡ value k) number
          (λ k lt. let other : k ≢ number = omega (arith, lt) in get_or-set_other values number k x None other
          ∙ l.are k lt) (get_or-set_same values number x None room ∙ is);
    }

pub listing_done : {value : ℕ → Option ℕ} {values : List (Option ℕ)} {number : ℕ} → Listing value values number
    → number ≡ 32 → values ≡ listed value 0 32
listing_done {value} {values} {number} l all = listed_is value 0 32 values l.long (λ k lt.
    let here : 0 + k ≡ k = omega arith in l.are k (omega (arith, lt, all)) ∙ ap value (sym here))
