-- Frames cut behind each marked one, and a cursor over the cuts. Where frames are cut is py-spy's rule.
use Rattle.std.specs.Prelude.{ℕ, zero, suc, ◌+◌, Bool, if◌then◌else◌, List, [], ◌∷◌}
use Rattle.std.specs.List.{position_or_len}

module _ {F : Type 0} (is_marked : F → Bool) where
  -- the k-th part of these, from 0 on: those before which exactly k marked ones stand
  unfoldable pub part : ℕ → List F → List F
  part k [] = []
  part zero (f ∷ fs) = f ∷ (if is_marked f then [] else part zero fs)
  part (suc k) (f ∷ fs) = part (if is_marked f then k else suc k) fs

  -- how many stand up to and with the k-th marked one, where marked ones go on behind the last, without end
  unfoldable pub cursor : ℕ → List F → ℕ
  cursor k [] = k
  cursor zero (f ∷ fs) = 0
  cursor (suc k) (f ∷ fs) = suc (cursor (if is_marked f then k else suc k) fs)

  -- how many stand up to and with the next marked one; one past the end where there is none
  abbrev pub step_len : List F → ℕ
  step_len fs = position_or_len is_marked fs + 1
