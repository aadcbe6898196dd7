-- Parts of frames, and the cursor over them, as steps from a place on.
use Rattle.std.proofs.Common.{◌≡◌, ℕ, zero, suc, ◌+◌, Bool, true, false, not, cond, List, [], ◌∷◌, ◌++◌, take, drop}
use Rattle.std.proofs.Common.{refl, sym, ◌∙◌, ap, arith}
use Rattle.std.specs.List.{position_or_len}
use Rattle.native_merge.specs.StackParts.{part, cursor, step_len}

module _ {F : Type 0} (m : F → Bool) where
  pub cursor-zero : (fs : List F) → cursor m 0 fs ≡ 0
  unfolding cursor
  cursor-zero [] = refl
  cursor-zero (f ∷ fs) = refl

  pub cursor-nil : (k : ℕ) → cursor m k [] ≡ k
  unfolding cursor
  cursor-nil zero = refl
  cursor-nil (suc k) = refl

  -- one more step goes on by the step_len of what is left
  pub cursor-suc : (k : ℕ) (fs : List F) → cursor m (suc k) fs ≡ cursor m k fs + step_len m (drop (cursor m k fs) fs)
  unfolding cursor
  cursor-suc zero [] = refl
  cursor-suc (suc k) [] = omega arith
  cursor-suc zero (f ∷ fs) = (elim (m f) as (λ b. suc (cursor m (cond b 0 1) fs) ≡ 0 + (cond (not b) (1 + position_or_len m fs) 0 + 1)) [
    | true ↦ ap suc (cursor-zero fs)
    | false ↦ let e : cursor m 1 fs ≡ 0 + step_len m (drop 0 fs) = cursor-suc zero fs ∙ ap (λ c. c + step_len m (drop c fs)) (cursor-zero fs) in omega arith
  ])
  cursor-suc (suc k) (f ∷ fs) = (elim (m f) as (λ b. suc (cursor m (cond b (suc k) (suc (suc k))) fs) ≡ suc (cursor m (cond b k (suc k)) fs) + step_len m (drop (cursor m (cond b k (suc k)) fs) fs)) [
    | true ↦ let e = cursor-suc k fs in omega arith
    | false ↦ let e = cursor-suc (suc k) fs in omega arith
  ])

  -- the part of a step is what stands from the cursor on, as far as it goes on
  pub part_is : (k : ℕ) (fs : List F) → part m k fs ≡ take (step_len m (drop (cursor m k fs) fs)) (drop (cursor m k fs) fs)
  unfolding cursor part
  part_is zero [] = refl
  part_is (suc k) [] = refl
  part_is zero (f ∷ fs) = (elim (m f) as (λ b. f ∷ cond b [] (part m 0 fs) ≡ take (cond (not b) (1 + position_or_len m fs) 0 + 1) (f ∷ fs)) [
    | true ↦ refl
    | false ↦ let e : part m 0 fs ≡ take (step_len m fs) fs = part_is zero fs ∙ ap (λ c. take (step_len m (drop c fs)) (drop c fs)) (cursor-zero fs) in
        let n : 1 + position_or_len m fs + 1 ≡ suc (step_len m fs) = omega arith in rw n (ap (λ l. f ∷ l) e)
  ])
  part_is (suc k) (f ∷ fs) = (elim (m f) as (λ b. part m (cond b k (suc k)) fs ≡ take (step_len m (drop (cursor m (cond b k (suc k)) fs) fs)) (drop (cursor m (cond b k (suc k)) fs) fs)) [
    | true ↦ part_is k fs
    | false ↦ part_is (suc k) fs
  ])

  -- what stands before the cursor, and the part of a step, is what stands before the cursor after it
  pub take-cursor-suc : (k : ℕ) (fs : List F) → take (cursor m k fs) fs ++ part m k fs ≡ take (cursor m (suc k) fs) fs
  unfolding cursor part
  take-cursor-suc zero [] = refl
  take-cursor-suc (suc k) [] = refl
  take-cursor-suc zero (f ∷ fs) = (elim (m f) as (λ b. f ∷ cond b [] (part m 0 fs) ≡ f ∷ take (cursor m (cond b 0 1) fs) fs) [
    | true ↦ ap (λ c. f ∷ take c fs) (sym (cursor-zero fs))
    | false ↦ ap (λ l. f ∷ l) (sym (ap (λ c. take c fs ++ part m 0 fs) (cursor-zero fs)) ∙ take-cursor-suc zero fs)
  ])
  take-cursor-suc (suc k) (f ∷ fs) = (elim (m f) as (λ b. f ∷ (take (cursor m (cond b k (suc k)) fs) fs ++ part m (cond b k (suc k)) fs) ≡ f ∷ take (cursor m (cond b (suc k) (suc (suc k))) fs) fs) [
    | true ↦ ap (λ l. f ∷ l) (take-cursor-suc k fs)
    | false ↦ ap (λ l. f ∷ l) (take-cursor-suc (suc k) fs)
  ])
