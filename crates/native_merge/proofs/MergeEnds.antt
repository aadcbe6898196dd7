-- How a merge ends, by the cursor.
use Rattle.std.proofs.Common.{◌≡◌, ◌⊎◌, inl, inr, ℕ, ◌+◌, ◌^◌, ◌<◌, Bool, true, false, nat_eq, ◌||◌, List, ◌++◌, length}
use Rattle.std.proofs.Common.{map, Ok, Err, refl, sym, ◌∙◌, ap, arith}
use Rattle.std.proofs.lemmas.List.{length-map}
use Rattle.std.proofs.lemmas.Bool.Decides.{nat_tests}
use Rattle.py_stacks.specs.declared.trace.Frame.{Frame}
use Rattle.py_stacks.specs.Frames.{Call, call_of}
use Rattle.native_merge.specs.StackParts.{cursor}
use Rattle.native_merge.specs.PythonFrames.{calls, ends_part}
use Rattle.native_merge.specs.MergedStacks.{StackItem, misfit, interleaved, step_count, merged}
use Rattle.native_merge.specs.MergedStacks.MergedFrame.{Python}
use Rattle.native_merge.specs.NativesShown.{NativeItem, ShowsFrame}
use Rattle.native_merge.specs.Gathered.{Gathered, capped}
use Rattle.native_merge.specs.Merges.{ShowsMerged}
use Rattle.native_merge.specs.declared.merge_error.MergeError.TheVariants.{Mismatch}
use Rattle.native_merge.proofs.Gathers.{AllZip-append, pythons_shown}

is_0 : (c : ℕ) → c ≡ 0 → nat_eq c 0 ≡ true
is_0 c e = grind (arith, nat_tests)

not_0 : (c : ℕ) → 0 < c → nat_eq c 0 ≡ false
not_0 c e = grind (arith, nat_tests)

is_end : (c n : ℕ) → (c ≡ n) ⊎ (c ≡ n + 1) → (nat_eq c n || nat_eq c (n + 1)) ≡ true
is_end c n h = elim h [ inl e ↦ grind (arith, nat_tests) | inr e ↦ grind (arith, nat_tests) ]

not_end : (c n : ℕ) → (c ≡ n → ⊥) → (c ≡ n + 1 → ⊥) → (nat_eq c n || nat_eq c (n + 1)) ≡ false
not_end c n a b = grind (arith, nat_tests)

module _ (fs : List Call) (is : List (StackItem NativeItem)) where
  abbrev there : ℕ
  there = cursor ends_part (step_count is) fs

  merged_zero : there ≡ 0 → merged ends_part fs is ≡ Ok (interleaved ends_part fs 0 is ++ map Python fs)
  unfolding merged
  merged_zero e = rw (is_0 there e) refl

  merged_end : 0 < there → (there ≡ length fs) ⊎ (there ≡ length fs + 1) → merged ends_part fs is ≡ Ok (interleaved ends_part fs 0 is)
  unfolding merged
  merged_end a b = rw (not_0 there a) (rw (is_end there (length fs) b) refl)

  merged_not : 0 < there → (there ≡ length fs → ⊥) → (there ≡ length fs + 1 → ⊥) → merged ends_part fs is ≡ Err (misfit there (length fs))
  unfolding merged
  merged_not a b d = rw (not_0 there a) (rw (not_end there (length fs) b d) refl)

module _ {exists : List ℕ → Bool} {fs made : List Frame} {is : List (StackItem NativeItem)} {at : ℕ} (g : Gathered exists fs is made at) where
  abbrev gone : ℕ
  gone = cursor ends_part (step_count is) (calls fs)

  pub ends_zero : (new : List Frame) → at ≡ 0 → calls new ≡ calls made ++ calls fs
      → ShowsMerged exists (merged ends_part (calls fs) is) (Ok (calls new))
  ends_zero new z e = let s = g.stands in let n : gone ≡ 0 = omega arith in
      rw (merged_zero (calls fs) is n) (rw e (AllZip-append (ShowsFrame exists) (interleaved ends_part (calls fs) 0 is) (map Python (calls fs))
      (calls made) (calls fs) g.shown (pythons_shown exists (calls fs))))

  pub ends_well : length fs < 2 ^ 63 → 0 < at → (at ≡ length fs) ⊎ (at ≡ length fs + 1)
      → ShowsMerged exists (merged ends_part (calls fs) is) (Ok (calls made))
  ends_well h p w = let s = g.stands in let l = length-map fs call_of in
      let some : 0 < gone = omega arith in
      let end : (gone ≡ length (calls fs)) ⊎ (gone ≡ length (calls fs) + 1) = elim w [ inl e ↦ inl (omega arith) | inr e ↦ inr (omega arith) ] in
      rw (merged_end (calls fs) is some end) g.shown

  pub ends_badly : length fs < 2 ^ 63 → 0 < at → (at ≡ length fs → ⊥) → (at ≡ length fs + 1 → ⊥)
      → ShowsMerged exists (merged ends_part (calls fs) is) (Err (Mismatch at (length fs)))
  ends_badly h p a b = let s = g.stands in let l = length-map fs call_of in
      let some : 0 < gone = omega arith in
      let no : gone ≡ length (calls fs) → ⊥ = λ e. a (omega arith) in
      let nor : gone ≡ length (calls fs) + 1 → ⊥ = λ e. b (omega arith) in
      rw (merged_not (calls fs) is some no nor)
      (ap (λ n. Mismatch n (length fs)) g.stands ∙ ap (λ n. Mismatch (capped gone) n) (sym l))
