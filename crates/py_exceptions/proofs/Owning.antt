-- The owner of a rule, class by class.
use Rattle.std.proofs.Common.{◌≡◌, ◌≢◌, ℕ, zero, suc, ◌+◌, ◌-◌, refl, arith}
use Rattle.std.specs.Prelude.{Ok, Some}
use Rattle.process_memory.specs.Memory.{Memory, ◌>>=◌, word_at}
use Rattle.py_exceptions.specs.declared.name.ClassPlaces.{ClassPlaces}
use Rattle.py_exceptions.specs.Owners.{owner_by_base, owner_from}

module _ (p : ClassPlaces) (m : Memory) (class own : ℕ) where
  pub owner_out : (left : ℕ) → left ≡ 0 → owner_from p m class own left ≡ Ok (Some class)
  unfolding owner_from
  owner_out zero z = refl
  owner_out (suc left) z = absurd (omega (arith, z))

  pub owner_on : (left : ℕ) → left ≢ 0 → owner_from p m class own left ≡ (word_at m (class + p.base)
      >>= (λ next. owner_by_base p m class own next (owner_from p m next own (left - 1))))
  unfolding owner_from
  owner_on zero z = absurd (z refl)
  owner_on (suc left) z =
      let less : suc left - 1 ≡ left = omega arith in
      rw less refl
