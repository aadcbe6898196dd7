-- A step over frames, by what they say of their calls.
use Rattle.std.proofs.Common.{◌≡◌, ℕ, zero, suc, ◌+◌, ◌-◌, ◌≤◌, min, true, false, not, cond, List, [], ◌∷◌, length}
use Rattle.std.proofs.Common.{take, drop, refl, sym, ◌∙◌, ap, arith, length-drop}
use Rattle.std.specs.List.{position_or_len}
use Rattle.py_stacks.specs.declared.trace.Frame.{Frame}
use Rattle.py_stacks.specs.Frames.{call_of}
use Rattle.native_merge.specs.StackParts.{step_len}
use Rattle.native_merge.specs.PythonFrames.{calls, is_marked, ends_part}
use Rattle.native_merge.specs.Gathered.{width_at, taken_at}

pub step_len-calls : (fs : List Frame) → step_len ends_part (calls fs) ≡ step_len is_marked fs
step_len-calls [] = refl
step_len-calls (f ∷ fs) = let e = step_len-calls fs in (elim (is_marked f) as (λ b. cond (not b) (1 + position_or_len ends_part (calls fs)) 0 + 1 ≡ cond (not b) (1 + position_or_len is_marked fs) 0 + 1) [
  | true ↦ refl
  | false ↦ omega arith
])

pub drop-calls : (n : ℕ) (fs : List Frame) → drop n (calls fs) ≡ calls (drop n fs)
drop-calls zero fs = refl
drop-calls (suc n) [] = refl
drop-calls (suc n) (f ∷ fs) = drop-calls n fs

pub take-calls : (n : ℕ) (fs : List Frame) → take n (calls fs) ≡ calls (take n fs)
take-calls zero fs = refl
take-calls (suc n) [] = refl
take-calls (suc n) (f ∷ fs) = ap (λ l. call_of f ∷ l) (take-calls n fs)

pub width_at_is : (fs : List Frame) (at : ℕ) → width_at fs at ≡ step_len is_marked (drop at fs)
width_at_is fs at = ap (step_len ends_part) (drop-calls at fs) ∙ step_len-calls (drop at fs)

-- no more can be taken than there is
take_capped : {X : Type 0} (n k : ℕ) (xs : List X) → k ≡ min n (length xs) → take k xs ≡ take n xs
take_capped zero k xs e = let z : k ≡ 0 = omega arith in rw z refl
take_capped (suc n) k [] e = let z : k ≡ 0 = omega arith in rw z refl
take_capped (suc n) zero (x ∷ xs) e = absurd (omega arith)
take_capped (suc n) (suc k) (x ∷ xs) e = ap (λ l. x ∷ l) (take_capped n k xs (omega arith))

-- what a step takes is the slice from its place to its end, or to that of all frames
pub taken_at_is : (fs : List Frame) (at end : ℕ) → at ≤ length fs → end ≡ min (at + step_len is_marked (drop at fs)) (length fs)
    → calls (take (end - at) (drop at fs)) ≡ taken_at fs at
taken_at_is fs at end h e =
    let short : end - at ≡ min (step_len is_marked (drop at fs)) (length (drop at fs)) = omega (arith, length-drop at fs) in
    ap calls (take_capped (step_len is_marked (drop at fs)) (end - at) (drop at fs) short)
    ∙ sym (take-calls (step_len is_marked (drop at fs)) (drop at fs))
    ∙ ap (λ w. take w (calls (drop at fs))) (sym (width_at_is fs at))
    ∙ ap (take (width_at fs at)) (sym (drop-calls at fs))
