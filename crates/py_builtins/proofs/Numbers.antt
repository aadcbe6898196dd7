-- The magnitude of an integer, by how many digits it has.
use Rattle.std.proofs.Common.{◌≡◌, ℕ, zero, suc, ◌+◌, ◌<◌, List, refl, arith}
use Rattle.std.specs.Prelude.{Ok}
use Rattle.elf64_core.specs.Fields.{u32_in}
use Rattle.process_memory.specs.Memory.{Memory, ◌>>=◌, word_at}
use Rattle.py_fields.specs.declared.layout.Layout.{Layout}
use Rattle.py_builtins.specs.Integers.{magnitude_at, two_big_digits}

module _ (l : Layout) (m : Memory) (a : ℕ) (object : List ℕ) where
  pub magnitude_none : (count : ℕ) → count ≡ 0 → magnitude_at l m a object count ≡ Ok 0
  unfolding magnitude_at
  magnitude_none count e = rw e refl

  pub magnitude_one : (count : ℕ) → count ≡ 1 → magnitude_at l m a object count ≡ Ok (u32_in object l.long.digits)
  unfolding magnitude_at
  magnitude_one count e = rw e refl

  pub magnitude_two : (count : ℕ) → count ≡ 2 → magnitude_at l m a object count ≡ (word_at m (a + l.long.digits) >>= (λ word. Ok (two_big_digits word)))
  unfolding magnitude_at
  magnitude_two count e = rw e refl

  pub magnitude_more : (count : ℕ) → 2 < count → magnitude_at l m a object count ≡ Ok count
  unfolding magnitude_at
  magnitude_more zero lt = absurd (omega arith)
  magnitude_more (suc zero) lt = absurd (omega arith)
  magnitude_more (suc (suc zero)) lt = absurd (omega arith)
  magnitude_more (suc (suc (suc n))) lt = refl
