-- The first mapping that holds an address, by its range.
use Rattle.std.proofs.Common.{◌≡◌, ℕ, zero, suc, ◌+◌, not, Bool, true, false, cond, List, [], ◌∷◌, refl}
use Rattle.std.proofs.Common.{sym, ◌∙◌, ap, arith}
use Rattle.std.specs.Prelude.{Option, Some, None, option_map, slice_get}
use Rattle.std.specs.List.{find}
use Rattle.std.proofs.lemmas.Bool.Decides.{nat_tests}
use Rattle.piece_table.specs.declared.table.FileRange.{FileRange}
use Rattle.piece_table.specs.Overlays.{owner_of, spans}
use Rattle.piece_table.specs.Places.{IsFilePiece, addresses_of, file_of_range, place_by, stands_at}
use Rattle.piece_table.proofs.Overlays.{spans_from}
use Rattle.core_unwind.specs.declared.place.Mapping.{Mapping}
use Rattle.core_unwind.specs.CodeMaps.{range_of, ranges_from}
use Rattle.core_unwind.specs.Places.{holds}

-- a mapping holds an address where its range does
holds_spans : (addr k : ℕ) (m : Mapping) → spans addr (range_of k m).range ≡ holds addr m
holds_spans addr k m = grind (arith, nat_tests)

one_plus : (n : ℕ) → 1 + n ≡ suc n
one_plus n = omega arith

-- ---- the number of the first range is that of the first mapping

abbrev IsFirst : (k : ℕ) → List Mapping → ℕ → Type 0
IsFirst k ms addr = slice_get ms (owner_of (addresses_of (ranges_from k ms)) addr) ≡ find (holds addr) ms

first_more : (k : ℕ) (m : Mapping) (ms : List Mapping) (addr : ℕ) → IsFirst (k + 1) ms addr → (b : Bool)
    → holds addr m ≡ b → IsFirst k (m ∷ ms) addr
first_more k m ms addr rest true is =
    let n : ℕ = owner_of (addresses_of (ranges_from (k + 1) ms)) addr in
    ap (λ b. slice_get (m ∷ ms) (cond (not b) (1 + n) 0)) (holds_spans addr k m ∙ is)
    ∙ sym (ap (λ b. cond b (Some m) (find (holds addr) ms)) is)
first_more k m ms addr rest false is =
    let n : ℕ = owner_of (addresses_of (ranges_from (k + 1) ms)) addr in
    ap (λ b. slice_get (m ∷ ms) (cond (not b) (1 + n) 0)) (holds_spans addr k m ∙ is)
    ∙ ap (λ j. slice_get (m ∷ ms) j) (one_plus n) ∙ rest
    ∙ sym (ap (λ b. cond b (Some m) (find (holds addr) ms)) is)

first_is : (k : ℕ) (ms : List Mapping) (addr : ℕ) → IsFirst k ms addr
first_is k [] addr = refl
first_is k (m ∷ ms) addr = first_more k m ms addr (first_is (k + 1) ms addr) (holds addr m) refl

-- ---- and its file is that number

numbered : (k j f : ℕ) (ms : List Mapping) → option_map file_of_range (slice_get (ranges_from k ms) j) ≡ Some f
    → f ≡ k + j
numbered k j f [] h = absurd cc
numbered k zero f (m ∷ ms) h = let is : k ≡ f = cc in omega (arith, is)
numbered k (suc j) f (m ∷ ms) h = let is = numbered (k + 1) j f ms h in omega (arith, is)

behind : (k j : ℕ) (ms : List Mapping) (addr : ℕ)
    → option_map (place_by addr) (slice_get (ranges_from k ms) j) ≡ None → slice_get ms j ≡ None
behind k j [] addr h = refl
behind k zero (m ∷ ms) addr h = absurd cc
behind k (suc j) (m ∷ ms) addr h = behind (k + 1) j ms addr h

module _ (table : List FileRange) (ms : List Mapping) (e : table ≡ ranges_from 0 ms) (addr : ℕ) where
  pub found_none : stands_at table addr ≡ None → ◌≡◌ {A = Option Mapping} None (find (holds addr) ms)
  found_none n =
      sym (behind 0 (owner_of (addresses_of (ranges_from 0 ms)) addr) ms addr (rw e at n)) ∙ first_is 0 ms addr

  pub found_some : (piece : FileRange) → IsFilePiece table piece → spans addr piece.range ≡ true
      → slice_get ms piece.file ≡ find (holds addr) ms
  found_some piece is holding =
      let from = spans_from addr piece.range holding in
      let whose : owner_of (addresses_of table) addr ≡ is.owner = is.is.each addr from.0 from.1 in
      let counted = numbered 0 is.owner piece.file ms (rw e at is.file_is) in
      let number : piece.file ≡ is.owner = omega (arith, counted) in
      ap (slice_get ms) (number ∙ sym whose) ∙ ap (λ t. slice_get ms (owner_of (addresses_of t) addr)) e
      ∙ first_is 0 ms addr

-- ---- what is found holds the address

pub found_holds : (ms : List Mapping) (addr : ℕ) (m : Mapping) → find (holds addr) ms ≡ Some m → holds addr m ≡ true
found_holds [] addr m h = absurd cc
found_holds (n ∷ ms) addr m h = by (λ rest. found_holds ms addr m rest) (holds addr n) refl
  where
    by : (find (holds addr) ms ≡ Some m → holds addr m ≡ true) → (b : Bool) → holds addr n ≡ b → holds addr m ≡ true
    by behind true is = let same : ◌≡◌ {A = Option Mapping} (Some n) (Some m) = rw is at h in let one : n ≡ m = cc in
        rw one at is
    by behind false is = behind (rw is at h)
