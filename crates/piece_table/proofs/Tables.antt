-- What a table keeps of ranges: their pieces, and the number of the range of each.
use Rattle.std.proofs.Common.{◌≡◌, ℕ, zero, suc, ◌+◌, ◌-◌, ◌<◌, ◌≤◌, ◌^◌, List, [], ◌∷◌, ◌++◌, length, drop, get_or}
use Rattle.std.proofs.Common.{map, refl, sym, ap, subst, ◌∙◌, arith, inr, ⊎_elim, append_assoc}
use Rattle.std.specs.Prelude.{All, Some, option_map, slice_get}
use Rattle.std.proofs.lemmas.List.{append-nil, drop_all, drop_more, length-map}
use Rattle.std.proofs.lemmas.List.Elements.{All-from_recursion, All-map}
use Rattle.std.proofs.lemmas.Option.{get_or_from_slice_get, slice_get-get_or, slice_get_within}
use Rattle.elf64_core.specs.declared.span_table.TableEntry.{TableEntry}
use Rattle.piece_table.specs.declared.overlay.Owned.{Owned}
use Rattle.piece_table.specs.declared.table.FileRange.{FileRange}
use Rattle.piece_table.specs.Laid.{AreLaid, table_entry_of}
use Rattle.piece_table.specs.Lookups.{IsHit}
use Rattle.piece_table.specs.Overlays.{ArePieces, IsPieceOf, IsBoundedRange}
use Rattle.piece_table.specs.Places.{IsBounded, IsFilePiece, IsKept, addresses_of, file_of_range, owned_by}
use Rattle.piece_table.specs.Places.{range_of_file}
use Rattle.piece_table.proofs.Boundaries.{ArePieces-laid}
use Rattle.piece_table.proofs.Overlays.{IsPieceAt, piece_within}

pub addresses_fit : (ranges : List FileRange) → All IsBounded ranges → All IsBoundedRange (addresses_of ranges)
addresses_fit ranges fit = All-map IsBoundedRange range_of_file ranges fit

-- pieces with their owners, taken apart and put together
pub owned_whole : (ps : List Owned) → owned_by (map table_entry_of ps) (map (λ p. p.owner) ps) ≡ ps
owned_whole [] = refl
owned_whole (p ∷ ps) = ap (λ qs. p ∷ qs) (owned_whole ps)

entries_owned : (pieces : List TableEntry) (owners : List ℕ) → length owners ≡ length pieces → map table_entry_of (owned_by pieces owners) ≡ pieces
entries_owned [] owners same = refl
entries_owned (e ∷ es) [] same = absurd (omega arith)
entries_owned (e ∷ es) (o ∷ os) same = ap (λ xs. e ∷ xs) (entries_owned es os (omega arith))

owned_at : (pieces : List TableEntry) (owners : List ℕ) (k : ℕ) (d : Owned) → k < length pieces → k < length owners
    → get_or (owned_by pieces owners) k d ≡ record { entry = get_or pieces k d.entry; owner = get_or owners k 0 }
owned_at [] owners k d less few = absurd (omega arith)
owned_at (e ∷ es) [] k d less few = absurd (omega arith)
owned_at (e ∷ es) (o ∷ os) zero d less few = refl
owned_at (e ∷ es) (o ∷ os) (suc k) d less few = owned_at es os k d (omega arith) (omega arith)

owned_counted : (pieces : List TableEntry) (owners : List ℕ) → length owners ≡ length pieces → length (owned_by pieces owners) ≡ length pieces
owned_counted pieces owners same =
    sym (length-map (owned_by pieces owners) table_entry_of) ∙ ap length (entries_owned pieces owners same)

-- a piece more
pub owned_more : (made : List Owned) (pieces : List TableEntry) (owners : List ℕ) (k : ℕ) (e : TableEntry) (whole : List Owned)
    → length owners ≡ length pieces → slice_get pieces k ≡ Some e
    → made ++ owned_by (drop k pieces) (drop k owners) ≡ whole
    → (made ++ (record { entry = e; owner = get_or owners k 0 }) ∷ []) ++ owned_by (drop (k + 1) pieces) (drop (k + 1) owners) ≡ whole
owned_more made pieces owners k e whole same is was =
    let less = slice_get_within pieces k e is in
    let piece = get_or_from_slice_get pieces k e e is in
    let owned : Owned = record { entry = e; owner = get_or owners k 0 } in
    append_assoc made (owned ∷ []) (owned_by (drop (k + 1) pieces) (drop (k + 1) owners))
    ∙ ap (λ x. made ++ (record { entry = x; owner = get_or owners k 0 }) ∷ owned_by (drop (k + 1) pieces) (drop (k + 1) owners)) (sym piece)
    ∙ ap (λ os. made ++ owned_by (get_or pieces k e ∷ drop (k + 1) pieces) os) (sym (drop_more owners k 0 (omega (arith, less, same))))
    ∙ ap (λ es. made ++ owned_by es (drop k owners)) (sym (drop_more pieces k e less)) ∙ was

pub owned_all : (made : List Owned) (pieces : List TableEntry) (owners : List ℕ) (k : ℕ) (whole : List Owned) → length pieces ≤ k
    → made ++ owned_by (drop k pieces) (drop k owners) ≡ whole → made ≡ whole
owned_all made pieces owners k whole le is =
    sym (append-nil made) ∙ ap (λ es. made ++ owned_by es (drop k owners)) (sym (drop_all k pieces le)) ∙ is

-- what is kept of ranges that are laid
pub IsKept-of : (ranges : List FileRange) (laid : List Owned) (pieces : List TableEntry) (owners : List ℕ) → All IsBounded ranges
    → AreLaid (addresses_of ranges) laid → pieces ≡ map table_entry_of laid → owners ≡ map (λ p. p.owner) laid → IsKept ranges pieces owners
IsKept-of ranges laid pieces owners fit are es os = record {
  fit = fit;
  counted = omega (arith, ap length es, ap length os, length-map laid table_entry_of, length-map laid (λ p. p.owner));
  laid = subst (AreLaid (addresses_of ranges)) (sym (ap (λ xs. owned_by xs owners) es ∙ ap (owned_by (map table_entry_of laid)) os ∙ owned_whole laid)) are;
}

pub kept_pieces : (ranges : List FileRange) (pieces : List TableEntry) (owners : List ℕ) → IsKept ranges pieces owners → ArePieces (addresses_of ranges) pieces
kept_pieces ranges pieces owners h =
    subst (ArePieces (addresses_of ranges)) (entries_owned pieces owners h.counted) (ArePieces-laid (addresses_of ranges) (owned_by pieces owners) h.laid)

-- a piece that is hit is the piece of its range
pub hit_owner : (ranges : List FileRange) (pieces : List TableEntry) (owners : List ℕ) (addr number : ℕ) (entry : TableEntry)
    → IsKept ranges pieces owners → IsHit pieces addr number entry → IsPieceOf (addresses_of ranges) (get_or owners number 0) entry
hit_owner ranges pieces owners addr number entry h hit =
    let d : Owned = record { entry = entry; owner = 0 } in
    let less = slice_get_within pieces number entry hit.is in
    let at : get_or (owned_by pieces owners) number d ≡ record { entry = entry; owner = get_or owners number 0 } =
    owned_at pieces owners number d less (omega (arith, less, h.counted))
    ∙ ap (λ e. record { entry = e; owner = get_or owners number 0 }) (get_or_from_slice_get pieces number entry entry hit.is) in
    subst (IsPieceAt (addresses_of ranges)) at
    (All-from_recursion (IsPieceAt (addresses_of ranges)) (owned_by pieces owners) h.laid.each number d (omega (arith, less, owned_counted pieces owners h.counted)))

-- no sum over a piece passes 2^64 - 1
piece_bounded : (ranges : List TableEntry) (owner : ℕ) (piece : TableEntry) → All IsBoundedRange ranges → IsPieceOf ranges owner piece → IsBoundedRange piece
piece_bounded ranges owner piece fits h =
    let within = piece_within ranges owner piece piece h in
    let range = get_or ranges owner piece in
    let bounded : IsBoundedRange range = fits owner piece h.owned in
    record {
      ends = omega (arith, bounded.ends, within.ends);
      found_ends = ⊎_elim
          (λ (empty : range.len ≡ 0). absurd (omega (arith, h.some, within.ends, within.starts)))
          (λ (ends : range.offset + range.len ≤ 2 ^ 64 - 1). inr (omega (arith, within.ends, within.starts, within.found)))
          bounded.found_ends;
    }

pub hit_piece : (ranges : List FileRange) (pieces : List TableEntry) (owners : List ℕ) (addr number : ℕ) (entry : TableEntry) (file : ℕ)
    → IsKept ranges pieces owners → IsHit pieces addr number entry
    → ((d : FileRange) → file ≡ (get_or ranges (get_or owners number 0) d).file)
    → IsFilePiece ranges (record { range = entry; file = file })
hit_piece ranges pieces owners addr number entry file h hit file_is =
    let owner = get_or owners number 0 in
    let is = hit_owner ranges pieces owners addr number entry h hit in
    let d : FileRange = record { range = entry; file = file } in
    let inside : owner < length ranges = omega (arith, is.owned, length-map ranges range_of_file) in
    record {
      owner = owner;
      is = is;
      file_is = ap (option_map file_of_range) (slice_get-get_or ranges owner d inside) ∙ ap (λ n. Some n) (sym (file_is d));
      fits = piece_bounded (addresses_of ranges) owner entry (addresses_fit ranges h.fit) is;
    }
