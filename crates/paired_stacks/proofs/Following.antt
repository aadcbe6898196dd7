-- The stacks of the threads so far, and that the rest follows.
use Rattle.std.proofs.Common.{◌≡◌, ◌≤◌, ◌<◌, ◌+◌, ℕ, drop, get_or, length, List, [], ◌∷◌, ◌++◌, Option, refl}
use Rattle.std.proofs.Common.{sym, ap, ◌∙◌, subst, append_assoc, append-nil}
use Rattle.std.proofs.lemmas.List.{drop_all}
use Rattle.process_memory.specs.Memory.{Memory}
use Rattle.native_frames.specs.declared.stacks.NativeFrame.{NativeFrame}
use Rattle.native_stacks.proofs.Rest.{next}
use Rattle.paired_stacks.specs.Frames.{part_of, parts_from}
use Rattle.py_fields.specs.declared.layout.Layout.{Layout}
use Rattle.native_stacks.specs.Threads.{NativeShown}
use Rattle.py_runs.specs.declared.run_rule.RunEnd.{RunEnd}
use Rattle.paired_stacks.specs.Stacks.{ArePaired, IsPairedIf, first_start, other_starts, walked_by}
use Rattle.paired_stacks.specs.declared.code.OwnCode.{OwnCode}
use Rattle.paired_stacks.specs.declared.stack.PairedStack.{PairedStack}
use Rattle.paired_stacks.specs.declared.walked.Walked.{Walked}

-- a part is added to a list, and the rest of the parts follows
pub part_more : {D : Type 0} (before after part rest whole total : List D) → whole ≡ part ++ rest
    → before ++ whole ≡ total → after ≡ before ++ part → after ++ rest ≡ total
part_more before after part rest whole total step inv pushed =
    ap (λ t. t ++ rest) pushed ∙ append_assoc before part rest ∙ ap (λ t. before ++ t) (sym step) ∙ inv

-- ---- the parts of frames

pub parts_next : (own : OwnCode) (from : Option ℕ) (fs : List NativeFrame) (i : ℕ) (f : NativeFrame) → i < length fs
    → f ≡ get_or fs i f
    → parts_from own from (drop i fs) ≡ part_of own from f ∷ parts_from own f.frame.cfa (drop (i + 1) fs)
unfolding parts_from
parts_next own from fs i f within is = ap (parts_from own from) (next fs i f f within is)

pub parts_end : (own : OwnCode) (from : Option ℕ) (fs : List NativeFrame) (i : ℕ) → length fs ≤ i
    → parts_from own from (drop i fs) ≡ []
unfolding parts_from
parts_end own from fs i behind = ap (parts_from own from) (drop_all i fs behind)

-- ---- stacks

module _ (end : Option RunEnd) (l : Layout) (own : OwnCode) (threads : List Walked) where
  -- where stacks are those of the rest, all are those so far and then these
  abbrev pub SoFar : Memory → (starts left : List (Option ℕ)) → (all rest : List NativeShown)
      → List (Option PairedStack) → Type 0
  SoFar m starts left all rest told = (more : List (Option PairedStack))
      → ArePaired end l m own threads left rest more → ArePaired end l m own threads starts all (told ++ more)

  far_more : (m : Memory) (starts left : List (Option ℕ)) (all behind : List NativeShown) (t : NativeShown)
      (x : Option PairedStack) (told : List (Option PairedStack))
      → IsPairedIf end l m own (first_start left) t (walked_by threads t.whose) x
      → SoFar m starts left all (t ∷ behind) told → SoFar m starts (other_starts left) all behind (told ++ x ∷ [])
  unfolding ArePaired
  far_more m starts left all behind t x told here inv = λ more h.
      subst (ArePaired end l m own threads starts all) (sym (append_assoc told (x ∷ []) more))
      (inv (x ∷ more) (here, h))

  pub far_next : (m : Memory) (starts left : List (Option ℕ)) (all rest behind : List NativeShown) (t : NativeShown)
      (x : Option PairedStack) (told after : List (Option PairedStack)) → rest ≡ t ∷ behind
      → IsPairedIf end l m own (first_start left) t (walked_by threads t.whose) x → after ≡ told ++ x ∷ []
      → SoFar m starts left all rest told → SoFar m starts (other_starts left) all behind after
  far_next m starts left all rest behind t x told after is here added inv =
      subst (λ (xs : List (Option PairedStack)). SoFar m starts (other_starts left) all behind xs) (sym added)
      (far_more m starts left all behind t x told here
      (subst (λ (ts : List NativeShown). SoFar m starts left all ts told) is inv))

  pub far_end : (m : Memory) (starts left : List (Option ℕ)) (all rest : List NativeShown)
      (told : List (Option PairedStack)) → rest ≡ [] → SoFar m starts left all rest told
      → ArePaired end l m own threads starts all told
  unfolding ArePaired
  far_end m starts left all rest told is inv =
      subst (ArePaired end l m own threads starts all) (append-nil told) (inv [] (rw is refl))
