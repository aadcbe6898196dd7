-- Whether a class leads to one of those of sets, base by base.
use Rattle.std.proofs.Common.{◌≡◌, ◌≢◌, ℕ, zero, suc, ◌+◌, ◌-◌, Bool, true, false, nat_eq, refl, arith, Option}
use Rattle.std.specs.Prelude.{None, Some}
use Rattle.std.proofs.lemmas.Bool.Decides.{nat_tests}
use Rattle.process_memory.specs.Memory.{Memory, word_at}
use Rattle.py_census.specs.Bases.{base_says, is_one, known, leads_at, unless_told}
use Rattle.py_census.specs.declared.places.SetClasses.{SetClasses}

module _ (base : ℕ) (s : SetClasses) (m : Memory) (class : ℕ) where
  told_not : (rest : Option Bool) → is_one s class ≡ false → class ≢ 0 → unless_told s class rest ≡ rest
  told_not rest o n = let a : nat_eq class 0 ≡ false = grind (arith, nat_tests) in rw (o, a) refl

  told_none : (rest : Option Bool) → is_one s class ≡ false → class ≡ 0 → unless_told s class rest ≡ Some false
  told_none rest o e = let a : nat_eq class 0 ≡ true = grind (arith, nat_tests) in rw (o, a) refl

  pub leads_one : (left : ℕ) → is_one s class ≡ true → leads_at base s m class left ≡ Some true
  unfolding leads_at
  leads_one zero o = rw o refl
  leads_one (suc left) o = rw o refl

  pub leads_none : (left : ℕ) → is_one s class ≡ false → class ≡ 0 → leads_at base s m class left ≡ Some false
  unfolding leads_at
  leads_none zero o e = told_none None o e
  leads_none (suc left) o e = told_none _ o e

  pub leads_out : (left : ℕ) → left ≡ 0 → is_one s class ≡ false → class ≢ 0 → leads_at base s m class left ≡ None
  unfolding leads_at
  leads_out zero z o n = told_not None o n
  leads_out (suc left) z o n = absurd (omega (arith, z))

  pub leads_on : (left : ℕ) → left ≢ 0 → is_one s class ≡ false → class ≢ 0 → leads_at base s m class left
      ≡ base_says (known (word_at m (class + base))) (λ next. leads_at base s m next (left - 1))
  unfolding leads_at
  leads_on zero z o n = absurd (z refl)
  leads_on (suc left) z o n =
      let less : suc left - 1 ≡ left = omega arith in
      rw less (told_not _ o n)
