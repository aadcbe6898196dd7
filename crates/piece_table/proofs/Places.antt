-- Where what stands at the addresses of a piece is found.
use Rattle.std.proofs.Common.{◌≡◌, ◌⊎◌, ℕ, ◌+◌, ◌-◌, ◌<◌, ◌≤◌, ◌^◌, min, true, false, List, length, get_or, refl, sym}
use Rattle.std.proofs.Common.{ap, subst, ◌∙◌, arith, inl, inr, ⊎_elim}
use Rattle.std.specs.Prelude.{IfSome, Option, Some, None, option_map, slice_get}
use Rattle.std.specs.Option.{is_some}
use Rattle.std.specs.List.{list_any}
use Rattle.std.proofs.lemmas.Bool.{cases_lt}
use Rattle.std.proofs.lemmas.List.{get_or-map, length-map}
use Rattle.std.proofs.lemmas.List.Folds.{list_any_at, list_any_none}
use Rattle.std.proofs.lemmas.List.Sums.{fails_before_first}
use Rattle.std.proofs.lemmas.Option.{same_Some, slice_get-get_or, slice_get_past}
use Rattle.elf64_core.specs.declared.span_table.TableEntry.{TableEntry}
use Rattle.piece_table.specs.declared.table.FileRange.{FileRange}
use Rattle.piece_table.specs.Overlays.{ArePieces, found_by, owner_of, spans}
use Rattle.piece_table.specs.Places.{IsFilePiece, IsStretch, addresses_of, file_of_range, place_by, range_of_file}
use Rattle.piece_table.specs.Places.{stands_at}
use Rattle.piece_table.proofs.Overlays.{IsWithin, owner_spans, piece_within, spans_from}

pub no_file : FileRange
no_file = record { range = record { start = 0; len = 0; offset = 0 }; file = 0 }

pub piece_stands : (ranges : List FileRange) (piece : FileRange) (addr : ℕ) → IsFilePiece ranges piece → piece.range.start ≤ addr
    → addr < piece.range.start + piece.range.len → stands_at ranges addr ≡ Some (piece.file, found_by addr piece.range)
piece_stands ranges piece addr h le less =
    let whose = h.is.each addr le less in
    let inside : h.owner < length ranges = omega (arith, h.is.owned, length-map ranges range_of_file) in
    let f = get_or ranges h.owner no_file in
    let own : slice_get ranges h.owner ≡ Some f = slice_get-get_or ranges h.owner no_file inside in
    let same : get_or (addresses_of ranges) h.owner piece.range ≡ f.range = get_or-map range_of_file ranges h.owner no_file piece.range inside in
    let within = subst (IsWithin (addresses_of ranges) h.owner piece.range) same (piece_within (addresses_of ranges) h.owner piece.range piece.range h.is) in
    let at : found_by addr f.range ≡ found_by addr piece.range = omega (arith, within.starts, within.found) in
    let file : f.file ≡ piece.file = same_Some _ _ (sym (ap (option_map file_of_range) own) ∙ h.file_is) in
    let found : stands_at ranges addr ≡ Some (f.file, found_by addr f.range) =
    ap (option_map (place_by addr)) (ap (slice_get ranges) whose ∙ own) in
    found ∙ ap (λ n. Some (n, found_by addr f.range)) file ∙ ap (λ n. Some (piece.file, n)) at

-- an address that no piece holds
pub stands_none : (ranges : List FileRange) (pieces : List TableEntry) (addr : ℕ) → ArePieces (addresses_of ranges) pieces
    → list_any (spans addr) pieces ≡ false → stands_at ranges addr ≡ None
stands_none ranges pieces addr are none =
    let past = free (cases_lt (owner_of (addresses_of ranges) addr) (length (addresses_of ranges))) in
    ap (option_map (place_by addr)) (slice_get_past ranges (owner_of (addresses_of ranges) addr) (omega (arith, past, length-map ranges range_of_file)))
  where
    free : (owner_of (addresses_of ranges) addr < length (addresses_of ranges)) ⊎ (length (addresses_of ranges) ≤ owner_of (addresses_of ranges) addr)
        → length (addresses_of ranges) ≤ owner_of (addresses_of ranges) addr
    free (inl taken) = let some = are.whole addr taken in absurd (cc)
    free (inr le) = le

-- where what stands at a piece is found doesn't pass 2^64 - 1
pub piece_ends : (ranges : List FileRange) (piece : FileRange) → IsFilePiece ranges piece → piece.range.offset + piece.range.len ≤ 2 ^ 64 - 1
piece_ends ranges piece h =
    ⊎_elim (λ (empty : piece.range.len ≡ 0). absurd (omega (arith, h.is.some)))
    (λ (ends : piece.range.offset + piece.range.len ≤ 2 ^ 64 - 1). ends) h.fits.found_ends

pub piece_stretch : (ranges : List FileRange) (piece : FileRange) (addr most size : ℕ) → IsFilePiece ranges piece → spans addr piece.range ≡ true
    → 0 < most → size ≡ min (piece.range.len - (addr - piece.range.start)) most
    → IsStretch ranges addr most piece.file (found_by addr piece.range) size
piece_stretch ranges piece addr most size h holds some count =
    let from = spans_from addr piece.range holds in
    let ends = piece_ends ranges piece h in
    record {
      some = omega (arith, from.0, from.1);
      short = omega arith;
      each = λ k less. piece_stands ranges piece (addr + k) h (omega (arith, from.0)) (omega (arith, from.0, from.1))
          ∙ ap (λ n. Some (piece.file, n)) (omega (arith, from.0));
      ends = omega (arith, h.fits.ends, from.0, from.1);
      found_ends = omega (arith, ends, from.0, from.1);
    }

-- a run and the one that follows it
pub stretch_joined : (ranges : List FileRange) (addr most file start size more : ℕ) → IsStretch ranges addr most file start size
    → IsStretch ranges (addr + size) (most - size) file (start + size) more → size < most
    → IsStretch ranges addr most file start (size + more)
stretch_joined ranges addr most file start size more one next less = record {
  some = omega (arith, one.some);
  short = omega (arith, next.short, one.short);
  each = λ k under. ⊎_elim
      (λ (front : k < size). one.each k front)
      (λ (back : size ≤ k).
      let e : addr + size + (k - size) ≡ addr + k = omega (arith, back) in
      let f : start + size + (k - size) ≡ start + k = omega (arith, back) in
      sym (ap (stands_at ranges) e) ∙ next.each (k - size) (omega (arith, under, back)) ∙ ap (λ n. Some (file, n)) f)
      (cases_lt k size);
  ends = omega (arith, next.ends);
  found_ends = omega (arith, next.found_ends);
}

-- what stands at the first address of a run is found
pub some_stands : (ranges : List FileRange) (addr size file start : ℕ) → 0 < size
    → ((k : ℕ) → k < size → stands_at ranges (addr + k) ≡ Some (file, start + k)) → stands_at ranges addr ≡ None → ⊥
some_stands ranges addr size file start some each none =
    let here : addr + 0 ≡ addr = omega arith in
    let there = sym (ap (stands_at ranges) here) ∙ each 0 some in
    absurd (cc)

-- an address that is found nowhere is in no range
none_any : (ranges : List FileRange) (addr : ℕ) → stands_at ranges addr ≡ None → list_any (spans addr) (addresses_of ranges) ≡ false
none_any ranges addr none =
    list_any_none (spans addr) (addresses_of ranges) (λ k d less.
    fails_before_first (spans addr) (addresses_of ranges) k d (omega (arith, past (cases_lt owner (length ranges)), length-map ranges range_of_file)))
  where
    owner : ℕ
    owner = owner_of (addresses_of ranges) addr

    past : (owner < length ranges) ⊎ (length ranges ≤ owner) → length ranges ≤ owner
    past (inl less) =
        let some = sym (ap (option_map (place_by addr)) (slice_get-get_or ranges owner no_file less)) ∙ none in
        absurd (cc)
    past (inr le) = le

-- whether a piece was found is whether a range holds the address
pub found_any : (ranges : List FileRange) (addr : ℕ) (found : Option FileRange) → (found ≡ None → stands_at ranges addr ≡ None)
    → IfSome found (IsFilePiece ranges) → IfSome found (λ piece. spans addr piece.range ≡ true)
    → is_some found ≡ list_any (spans addr) (addresses_of ranges)
found_any ranges addr None none is holds = sym (none_any ranges addr (none refl))
found_any ranges addr (Some piece) none is holds =
    let from = spans_from addr piece.range holds in
    let whose = is.is.each addr from.0 from.1 in
    sym (list_any_at (spans addr) (addresses_of ranges) is.owner piece.range is.is.owned
    (owner_spans (addresses_of ranges) addr is.owner piece.range whose is.is.owned))
