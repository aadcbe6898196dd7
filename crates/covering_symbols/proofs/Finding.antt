-- The first of some keys that covers an address, by the table of their ranges.
use Rattle.std.proofs.Common.{◌≡◌, ℕ, suc, ◌+◌, not, Bool, true, false, cond, List, [], ◌∷◌, map, refl}
use Rattle.std.proofs.Common.{sym, ◌∙◌, ap, arith, Option, Some, None}
use Rattle.std.specs.Prelude.{option_map, slice_get}
use Rattle.std.specs.List.{find}
use Rattle.piece_table.specs.declared.table.FileRange.{FileRange}
use Rattle.piece_table.specs.Overlays.{owner_of, spans}
use Rattle.piece_table.specs.Places.{IsFilePiece, addresses_of, file_of_range, place_by, stands_at}
use Rattle.piece_table.proofs.Overlays.{spans_from}

one_plus : (n : ℕ) → 1 + n ≡ suc n
one_plus n = omega arith

none_mapped : {X Y Z : Type 0} (f : X → Y) (g : X → Z) (o : Option X) → option_map f o ≡ None → option_map g o ≡ None
none_mapped f g None h = refl
none_mapped f g (Some x) h = cc

-- keys with their ranges, of which each holds the address where the key covers it
module _ {K : Type 0} (range_of : K → FileRange) (covers : K → Bool) (addr : ℕ)
    (same : (key : K) → spans addr (range_of key).range ≡ covers key) where
  abbrev file_of : K → ℕ
  file_of key = (range_of key).file

  abbrev FirstFile : List K → Type 0
  FirstFile keys =
      option_map file_of_range (slice_get (map range_of keys) (owner_of (addresses_of (map range_of keys)) addr))
      ≡ option_map file_of (find covers keys)

  first_more : (key : K) (keys : List K) → FirstFile keys → (b : Bool) → covers key ≡ b → FirstFile (key ∷ keys)
  first_more key keys rest true is =
      let n : ℕ = owner_of (addresses_of (map range_of keys)) addr in
      ap (λ b. option_map file_of_range (slice_get (range_of key ∷ map range_of keys) (cond (not b) (1 + n) 0))) (same key ∙ is)
      ∙ sym (ap (λ b. option_map file_of (cond b (Some key) (find covers keys))) is)
  first_more key keys rest false is =
      let n : ℕ = owner_of (addresses_of (map range_of keys)) addr in
      ap (λ b. option_map file_of_range (slice_get (range_of key ∷ map range_of keys) (cond (not b) (1 + n) 0))) (same key ∙ is)
      ∙ ap (λ k. option_map file_of_range (slice_get (range_of key ∷ map range_of keys) k)) (one_plus n)
      ∙ rest
      ∙ sym (ap (λ b. option_map file_of (cond b (Some key) (find covers keys))) is)

  -- the file of the first range that holds the address is that of the first key that covers it
  first_file : (keys : List K) → FirstFile keys
  first_file [] = refl
  first_file (key ∷ keys) = first_more key keys (first_file keys) (covers key) refl

  module _ (table : List FileRange) (keys : List K) (e : table ≡ map range_of keys) where
    by_table : option_map file_of_range (slice_get table (owner_of (addresses_of table) addr)) ≡ option_map file_of (find covers keys)
    by_table = ap (λ t. option_map file_of_range (slice_get t (owner_of (addresses_of t) addr))) e ∙ first_file keys

    pub found_none : stands_at table addr ≡ None → None ≡ option_map file_of (find covers keys)
    found_none n = sym (none_mapped (place_by addr) file_of_range (slice_get table (owner_of (addresses_of table) addr)) n) ∙ by_table

    pub found_some : (piece : FileRange) → IsFilePiece table piece → spans addr piece.range ≡ true
        → Some piece.file ≡ option_map file_of (find covers keys)
    found_some piece is holds =
        let from = spans_from addr piece.range holds in
        let whose = is.is.each addr from.0 from.1 in
        sym (ap (λ k. option_map file_of_range (slice_get table k)) whose ∙ is.file_is) ∙ by_table
