-- The steps of telling what holds an object.
use Rattle.std.proofs.Common.{◌≡◌, ◌≢◌, ℕ, zero, suc, nat_eq, false, refl}
use Rattle.std.specs.Prelude.{Ok}
use Rattle.process_memory.specs.Memory.{Memory, ◌>>=◌}
use Rattle.py_fields.specs.declared.layout.Layout.{Layout}
use Rattle.type_places.specs.Classes.{class_address_at}
use Rattle.type_places.specs.Holders.{is_object_of}

module _ (l : Layout) (m : Memory) (class : ℕ) where
  pub object_none : (a : ℕ) → a ≡ 0 → is_object_of l m class a ≡ Ok false
  unfolding is_object_of
  object_none a e = rw e refl

  pub object_some : (a : ℕ) → a ≢ 0 → is_object_of l m class a ≡ (class_address_at l m a >>= (λ own. Ok
      (nat_eq own class)))
  unfolding is_object_of
  object_some zero some = absurd (some refl)
  object_some (suc a) some = refl
