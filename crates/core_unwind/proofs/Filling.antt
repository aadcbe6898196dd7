-- The values of registers, one after another.
use Rattle.std.proofs.Common.{◌≡◌, ◌∙◌, ℕ, zero, suc, ◌+◌, ◌*◌, ◌<◌, ◌≢◌, List, [], ◌∷◌, length, get_or, set, refl}
use Rattle.std.proofs.Common.{sym, ap}
use Rattle.std.proofs.Common.{◌≤◌, arith, below_more}
use Rattle.std.proofs.Math.Nat.{mul-le-mul_left}
use Rattle.std.proofs.lemmas.List.{get_or-set_other, get_or-set_same}
use Rattle.std.proofs.Math.ListN.{length-set}
use Rattle.std.specs.Prelude.{Option, None}
use Rattle.process_memory.specs.Memory.{Memory}
use Rattle.process_memory.specs.Seen.{Reading, Seen}
use Rattle.process_memory.proofs.Reading.{reading_gives, reading_none, reading_then}
use Rattle.core_unwind.specs.Values.{listed}

-- the values before a number are known
pub record Filling (most : ℕ) (value : Memory → ℕ → Option ℕ) (old new : Seen) (values : List (Option ℕ)) (number : ℕ)
    : Type 0 where
  pub long : length values ≡ 32
  pub reading : Reading (most * number) old new (λ m. (k : ℕ) → k < number → get_or values k None ≡ value m k)

-- a list by its elements
pub listed_is : (value : ℕ → Option ℕ) (at n : ℕ) (xs : List (Option ℕ)) → length xs ≡ n
    → ((k : ℕ) → k < n → get_or xs k None ≡ value (at + k)) → xs ≡ listed value at n
unfolding listed
listed_is value at zero [] long are = refl
listed_is value at zero (x ∷ xs) long are = absurd (omega (arith, long))
listed_is value at (suc n) [] long are = absurd (omega (arith, long))
listed_is value at (suc n) (x ∷ xs) long are =
    let here : at + 0 ≡ at = omega arith in
    let first : x ≡ value at = are 0 (omega arith) ∙ ap value here in
    let rest : xs ≡ listed value (at + 1) n = listed_is value (at + 1) n xs (omega (arith, long)) (λ k lt.
    let there : at + suc k ≡ (at + 1) + k = omega arith in
    are (suc k) (omega (arith, lt)) ∙ ap value there) in
    ap (λ (y : Option ℕ). y ∷ xs) first ∙ ap (λ (ys : List (Option ℕ)). value at ∷ ys) rest

-- one more of 32 is within 32
enough : (most number : ℕ) → number < 32 → most * number + most ≤ most * 32
enough most number below =
    let one : number + 1 ≤ 32 = omega (arith, below) in omega (arith, mul-le-mul_left most one)

pub filling_init : (most : ℕ) (value : Memory → ℕ → Option ℕ) (seen : Seen) (values : List (Option ℕ)) → length values ≡ 32
    → Filling most value seen seen values 0
filling_init most value seen values long = record {
  long = long;
  reading = reading_none _ seen _ (λ m k lt. absurd (omega (arith, lt)));
}

module _ {most : ℕ} {value : Memory → ℕ → Option ℕ} {s0 s1 : Seen} {values : List (Option ℕ)} {number : ℕ} where
  pub filling_more : {s2 : Seen} (x : Option ℕ) → Filling most value s0 s1 values number → number < 32
      → Reading most s1 s2 (λ m. x ≡ value m number) → Filling most value s0 s2 (set values number x) (number + 1)
  filling_more x f below r =
      let room : number < length values = omega (arith, f.long, below) in
      record {
        long = length-set values number x ∙ f.long;
        reading = reading_gives (most * (number + 1)) _
            (reading_then (λ m. (k : ℕ) → k < number + 1 → get_or (set values number x) k None ≡ value m k) f.reading r
            (λ m p q. below_more (λ k. get_or (set values number x) k None ≡ value m k) number
            (λ k lt. let other : k ≢ number = omega (arith, lt) in get_or-set_other values number k x None other ∙
            p k lt)
            (get_or-set_same values number x None room ∙ q)))
            (omega arith) (λ m h. h);
      }

  pub filling_done : Filling most value s0 s1 values number → number ≡ 32
      → Reading (most * 32) s0 s1 (λ m. values ≡ listed (value m) 0 32)
  filling_done f all = reading_gives (most * 32) _ f.reading (rw all (omega arith)) (λ m p.
      listed_is (value m) 0 32 values f.long (λ k lt.
      let here : 0 + k ≡ k = omega arith in p k (omega (arith, lt, all)) ∙ ap (value m) (sym here)))

  pub filling_lost : {s2 : Seen} {P : Memory → Type 0} (Q : Memory → Type 0) → Filling most value s0 s1 values number
      → number < 32 → Reading most s1 s2 P → ((m : Memory) → Q m) → Reading (most * 32) s0 s2 Q
  filling_lost Q f below r q = reading_gives (most * 32) _ (reading_then Q f.reading r (λ m a b. q m))
      (enough most number below) (λ m h. h)
