-- Whether a type leads to another one, base by base.
use Rattle.std.proofs.Common.{◌≡◌, ◌≢◌, ℕ, zero, suc, ◌+◌, ◌-◌, Bool, true, false, nat_eq, refl, arith}
use Rattle.std.specs.Prelude.{Ok}
use Rattle.std.proofs.lemmas.Bool.Decides.{nat_tests}
use Rattle.process_memory.specs.Memory.{Memory, Found, ◌>>=◌, word_at}
use Rattle.py_tasks.specs.Bases.{leads_at, unless_known}

module _ (base : ℕ) (m : Memory) (class sought : ℕ) where
  known_none : (rest : Found Bool) → class ≡ 0 → unless_known class sought rest ≡ Ok false
  known_none rest e = let a : nat_eq class 0 ≡ true = grind (arith, nat_tests) in rw a refl

  known_unsought : (rest : Found Bool) → class ≢ 0 → sought ≡ 0 → unless_known class sought rest ≡ Ok false
  known_unsought rest n e =
      let a : nat_eq class 0 ≡ false = grind (arith, nat_tests) in
      let b : nat_eq sought 0 ≡ true = grind (arith, nat_tests) in
      rw (a, b) refl

  known_same : (rest : Found Bool) → class ≢ 0 → sought ≢ 0 → class ≡ sought → unless_known class sought rest ≡ Ok true
  known_same rest n s e =
      let a : nat_eq class 0 ≡ false = grind (arith, nat_tests) in
      let b : nat_eq sought 0 ≡ false = grind (arith, nat_tests) in
      let d : nat_eq class sought ≡ true = grind (arith, nat_tests) in
      rw (a, b, d) refl

  known_not : (rest : Found Bool) → class ≢ 0 → sought ≢ 0 → class ≢ sought → unless_known class sought rest ≡ rest
  known_not rest n s e =
      let a : nat_eq class 0 ≡ false = grind (arith, nat_tests) in
      let b : nat_eq sought 0 ≡ false = grind (arith, nat_tests) in
      let d : nat_eq class sought ≡ false = grind (arith, nat_tests) in
      rw (a, b, d) refl

  pub leads_none : (left : ℕ) → class ≡ 0 → leads_at base m class sought left ≡ Ok false
  unfolding leads_at
  leads_none zero e = known_none (Ok false) e
  leads_none (suc left) e = known_none _ e

  pub leads_unsought : (left : ℕ) → class ≢ 0 → sought ≡ 0 → leads_at base m class sought left ≡ Ok false
  unfolding leads_at
  leads_unsought zero n e = known_unsought (Ok false) n e
  leads_unsought (suc left) n e = known_unsought _ n e

  pub leads_same : (left : ℕ) → class ≢ 0 → sought ≢ 0 → class ≡ sought → leads_at base m class sought left ≡ Ok true
  unfolding leads_at
  leads_same zero n s e = known_same (Ok false) n s e
  leads_same (suc left) n s e = known_same _ n s e

  pub leads_out : (left : ℕ) → left ≡ 0 → class ≢ 0 → sought ≢ 0 → class ≢ sought
      → leads_at base m class sought left ≡ Ok false
  unfolding leads_at
  leads_out zero z n s e = known_not (Ok false) n s e
  leads_out (suc left) z n s e = absurd (omega (arith, z))

  pub leads_on : (left : ℕ) → left ≢ 0 → class ≢ 0 → sought ≢ 0 → class ≢ sought → leads_at base m class sought left
      ≡ (word_at m (class + base) >>= (λ next. leads_at base m next sought (left - 1)))
  unfolding leads_at
  leads_on zero z n s e = absurd (z refl)
  leads_on (suc left) z n s e =
      let less : suc left - 1 ≡ left = omega arith in
      rw less (known_not _ n s e)
