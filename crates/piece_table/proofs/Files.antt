-- The bytes of memory that stand in files.
use Rattle.std.proofs.Common.{◌≡◌, ◌⊎◌, ℕ, ◌+◌, ◌-◌, ◌<◌, ◌≤◌, ◌^◌, leb, Bool, true, false, not, cond, List, [], ◌∷◌}
use Rattle.std.proofs.Common.{length, take, drop, get_or, map, refl, sym, ap, subst, ◌∙◌, arith, inl, inr, ⊎_elim}
use Rattle.std.proofs.Common.{length-drop, length-take, get_or-drop, get_or-take}
use Rattle.std.specs.Prelude.{All, Option, Some, None, find, option_map, slice_get, slice_range}
use Rattle.std.specs.List.{position_or_len}
use Rattle.std.proofs.lemmas.Bool.{cases_lt, le-leb, lt-leb}
use Rattle.std.proofs.lemmas.Bool.Decides.{nat_tests}
use Rattle.std.proofs.lemmas.List.{get_or-map, length-map}
use Rattle.std.proofs.lemmas.List.Elements.{All-head, All-tail}
use Rattle.std.proofs.lemmas.List.Folds.{find_at}
use Rattle.std.proofs.lemmas.Option.{same_Some, slice_get-get_or, slice_get_past}
use Rattle.elf64_core.specs.declared.span_table.TableEntry.{TableEntry}
use Rattle.process_memory.specs.Memory.{byte_at, first_byte, first_of, region_byte}
use Rattle.process_memory.proofs.Stretch.{byte_below}
use Rattle.process_memory.proofs.Records.{byte_at-above}
use Rattle.piece_table.specs.declared.table.FileRange.{FileRange}
use Rattle.piece_table.specs.Overlays.{found_by, owner_of, spans}
use Rattle.piece_table.specs.Places.{IsFilePiece, IsRun, addresses_of, place_by, range_of_file, stands_at}
use Rattle.piece_table.specs.Files.{IsInFile, file_bytes, regions_in}
use Rattle.piece_table.proofs.Overlays.{owner_spans, spans_from, spans_within}
use Rattle.piece_table.proofs.Places.{no_file, piece_stands}

-- the byte at a place of a file
abbrev pub byte_in : List (List ℕ) → ℕ × ℕ → ℕ
byte_in files place = get_or (file_bytes files place.0) place.1 0

-- the byte that a range of a file has at an address
span_region : (bytes : List ℕ) (r : TableEntry) (addr : ℕ) → (r.len ≡ 0) ⊎ (r.offset + r.len ≤ length bytes)
    → region_byte (r.start, take r.len (drop r.offset bytes)) addr ≡ cond (spans addr r) (Some (get_or bytes (found_by addr r) 0)) None
span_region bytes r addr held =
    elim (cases_lt addr r.start) [
      | inl before ↦
          let no : leb r.start addr ≡ false = lt-leb r.start addr before in
          rw no refl
      | inr from ↦ elim (cases_lt (addr - r.start) r.len) [
        | inl within ↦
            let yes : leb r.start addr ≡ true = le-leb r.start addr from in
            let holds = spans_within addr r from (omega arith) in
            let whole : r.offset + r.len ≤ length bytes = ⊎_elim (λ (empty : r.len ≡ 0). absurd (omega arith))
            (λ (inside : r.offset + r.len ≤ length bytes). inside) held in
            let count : length (take r.len (drop r.offset bytes)) ≡ r.len = omega (arith, length-take r.len (drop r.offset bytes), length-drop r.offset bytes) in
            let get : slice_get (take r.len (drop r.offset bytes)) (addr - r.start) ≡ Some (get_or bytes (found_by addr r) 0) =
            slice_get-get_or (take r.len (drop r.offset bytes)) (addr - r.start) 0 (omega (arith, count))
            ∙ ap (λ n. Some n) (get_or-take r.len (drop r.offset bytes) (addr - r.start) 0 within ∙ get_or-drop r.offset bytes (addr - r.start) 0) in
            ap (λ b. cond b (slice_get (take r.len (drop r.offset bytes)) (addr - r.start)) None) yes ∙ get
            ∙ ap (λ b. cond b (Some (get_or bytes (found_by addr r) 0)) None) (sym holds)
        | inr past ↦
            let none : slice_get (take r.len (drop r.offset bytes)) (addr - r.start) ≡ None =
            slice_get_past (take r.len (drop r.offset bytes)) (addr - r.start) (omega (arith, length-take r.len (drop r.offset bytes))) in
            let yes : leb r.start addr ≡ true = le-leb r.start addr from in
            ap (λ b. cond b (slice_get (take r.len (drop r.offset bytes)) (addr - r.start)) None) yes ∙ none
            ∙ ap (λ b. cond b (Some (get_or bytes (found_by addr r) 0)) None) (sym (beyond r past))
      ]
    ]
  where
    beyond : (r : TableEntry) → r.len ≤ addr - r.start → spans addr r ≡ false
    beyond r past = grind (arith, nat_tests)

abbrev spans_file : ℕ → FileRange → Bool
spans_file addr f = spans addr f.range

first_stands : (files : List (List ℕ)) (fs : List FileRange) (addr : ℕ) → All (IsInFile files) fs
    → first_byte (regions_in files fs) addr ≡ option_map (byte_in files) (option_map (place_by addr) (find (spans_file addr) fs))
first_stands files [] addr held = refl
first_stands files (f ∷ fs) addr held =
    let here : IsInFile files f = All-head (IsInFile files) f fs held in
    let byte = get_or (file_bytes files f.file) (found_by addr f.range) 0 in
    ap (λ o. first_of o (first_byte (regions_in files fs) addr)) (span_region (file_bytes files f.file) f.range addr here.inside)
    ∙ ap (first_of (cond (spans_file addr f) (Some byte) None)) (first_stands files fs addr (All-tail (IsInFile files) f fs held))
    ∙ elim (spans_file addr f) as (λ b. first_of (cond b (Some byte) None) (option_map (byte_in files) (option_map (place_by addr) (find (spans_file addr) fs)))
    ≡ option_map (byte_in files) (option_map (place_by addr) (cond b (Some f) (find (spans_file addr) fs)))) [ true ↦ refl | false ↦ refl ]

first-map : {A B : Type 0} (p : B → Bool) (f : A → B) (xs : List A) → position_or_len p (map f xs) ≡ position_or_len (λ x. p (f x)) xs
first-map p f [] = refl
first-map p f (x ∷ xs) = ap (λ n. cond (not (p (f x))) (1 + n) 0) (first-map p f xs)

-- the first range that holds an address
stands_found : (fs : List FileRange) (addr : ℕ) → stands_at fs addr ≡ option_map (place_by addr) (find (spans_file addr) fs)
stands_found fs addr =
    ap (option_map (place_by addr)) (ap (slice_get fs) (first-map (spans addr) range_of_file fs) ∙ sym (find_at (spans_file addr) fs))

-- none holds an address from 2^64 - 1 on
found_below : (files : List (List ℕ)) (fs : List FileRange) (addr : ℕ) → All (IsInFile files) fs → 2 ^ 64 - 1 ≤ addr → find (spans_file addr) fs ≡ None
found_below files [] addr held high = refl
found_below files (f ∷ fs) addr held high =
    let here : IsInFile files f = All-head (IsInFile files) f fs held in
    let no = past f.range here.fits.ends in
    ap (λ b. cond b (Some f) (find (spans_file addr) fs)) no ∙ found_below files fs addr (All-tail (IsInFile files) f fs held) high
  where
    past : (r : TableEntry) → r.start + r.len ≤ 2 ^ 64 - 1 → spans addr r ≡ false
    past r ends = grind (arith, nat_tests)

-- the byte at an address is the one at the place at which it is found
pub byte_stands : (files : List (List ℕ)) (ranges : List FileRange) (addr : ℕ) → All (IsInFile files) ranges
    → byte_at (regions_in files ranges) addr ≡ option_map (byte_in files) (stands_at ranges addr)
byte_stands files ranges addr held =
    elim (cases_lt addr (2 ^ 64 - 1)) [
      | inl below ↦
          byte_below (regions_in files ranges) addr below ∙ first_stands files ranges addr held
          ∙ ap (option_map (byte_in files)) (sym (stands_found ranges addr))
      | inr over ↦
          byte_at-above (regions_in files ranges) addr over
          ∙ ap (λ o. option_map (byte_in files) (option_map (place_by addr) o)) (sym (found_below files ranges addr held over))
          ∙ ap (option_map (byte_in files)) (sym (stands_found ranges addr))
    ]

-- an address without a place has no byte
pub byte_none : (files : List (List ℕ)) (ranges : List FileRange) (addr : ℕ) → All (IsInFile files) ranges → stands_at ranges addr ≡ None
    → byte_at (regions_in files ranges) addr ≡ None
byte_none files ranges addr held none = byte_stands files ranges addr held ∙ ap (option_map (byte_in files)) none

-- a place is one of a file
record IsPlace (files : List (List ℕ)) (file place : ℕ) : Type 0 where
  pub known : file < length files
  pub inside : place < length (file_bytes files file)

place_inside : (files : List (List ℕ)) (ranges : List FileRange) (addr file place : ℕ) → All (IsInFile files) ranges
    → stands_at ranges addr ≡ Some (file, place) → IsPlace files file place
place_inside files ranges addr file place held is =
    elim (cases_lt k (length ranges)) [
      | inl less ↦
          let f = get_or ranges k no_file in
          let same : (f.file, found_by addr f.range) ≡ (file, place) =
          same_Some _ _ (sym (ap (option_map (place_by addr)) (slice_get-get_or ranges k no_file less)) ∙ is) in
          let range : get_or (addresses_of ranges) k f.range ≡ f.range = get_or-map range_of_file ranges k no_file f.range less in
          let counted : k < length (addresses_of ranges) = omega (arith, less, length-map ranges range_of_file) in
          let holds : spans addr f.range ≡ true =
          subst (λ r. spans addr r ≡ true) range (owner_spans (addresses_of ranges) addr k f.range refl counted) in
          subst (λ p. IsPlace files p.0 p.1) same (there f (held k no_file less) holds)
      | inr le ↦
          let none = ap (option_map (place_by addr)) (slice_get_past ranges k le) in
          absurd (never (sym none ∙ is))
    ]
  where
    k : ℕ
    k = owner_of (addresses_of ranges) addr

    never : ◌≡◌ {A = Option (ℕ × ℕ)} None (Some (file, place)) → ⊥
    never e = absurd (cc)

    there : (f : FileRange) → IsInFile files f → spans addr f.range ≡ true → IsPlace files f.file (found_by addr f.range)
    there f h holds =
        let from = spans_from addr f.range holds in
        record {
          known = h.known;
          inside = ⊎_elim (λ (empty : f.range.len ≡ 0). absurd (omega (arith, from.0, from.1)))
              (λ (inside : f.range.offset + f.range.len ≤ length (file_bytes files f.file)). omega (arith, from.0, from.1)) h.inside;
        }

-- a run lies in its file
pub record IsInside (files : List (List ℕ)) (file start size : ℕ) : Type 0 where
  pub known : file < length files
  pub inside : start + size ≤ length (file_bytes files file)

pub run_inside : (files : List (List ℕ)) (ranges : List FileRange) (addr file start size : ℕ) → All (IsInFile files) ranges → 0 < size
    → ((k : ℕ) → k < size → stands_at ranges (addr + k) ≡ Some (file, start + k)) → IsInside files file start size
run_inside files ranges addr file start size held some each =
    let last = place_inside files ranges (addr + (size - 1)) file (start + (size - 1)) held (each (size - 1) (omega (arith, some))) in
    record { known = last.known; inside = omega (arith, some, last.inside) }

-- the bytes of a run are those of the memory
pub run_bytes : (files : List (List ℕ)) (ranges : List FileRange) (addr file start size : ℕ) (run : List ℕ) → All (IsInFile files) ranges
    → 0 < size → ((k : ℕ) → k < size → stands_at ranges (addr + k) ≡ Some (file, start + k))
    → run ≡ slice_range (file_bytes files file) start (start + size)
    → (length run ≡ size) × ((k : ℕ) → k < length run → byte_at (regions_in files ranges) (addr + k) ≡ Some (get_or run k 0))
run_bytes files ranges addr file start size run held some each is =
    let bytes = file_bytes files file in
    let part = start + size - start in
    let inside = (run_inside files ranges addr file start size held some each).inside in
    let count : length run ≡ size = ap length is ∙ omega (arith, length-take part (drop start bytes), length-drop start bytes) in (
      count,
      λ k less.
          byte_stands files ranges (addr + k) held ∙ ap (option_map (byte_in files)) (each k (omega arith))
          ∙ ap (λ n. Some n) (sym (ap (λ r. get_or r k 0) is ∙ get_or-take part (drop start bytes) k 0 (omega arith) ∙ get_or-drop start bytes k 0)),
    )

-- a run that was read
pub run_read : (files : List (List ℕ)) (ranges : List FileRange) (addr len file start size : ℕ) (run : List ℕ)
    → IsRun ranges addr len file start size → run ≡ slice_range (file_bytes files file) start (start + size) → length run ≡ size
    → (name from : ℕ) × IsRun ranges addr len name from (length run)
    × (run ≡ slice_range (file_bytes files name) from (from + length run))
run_read files ranges addr len file start size run h is count = (
  file,
  start,
  subst (IsRun ranges addr len file start) (sym count) h,
  is ∙ ap (λ n. slice_range (file_bytes files file) start (start + n)) (sym count),
)

-- a piece lies in its file, and the rest of it are bytes of the memory
pub piece_inside : (files : List (List ℕ)) (ranges : List FileRange) (piece : FileRange) → All (IsInFile files) ranges → IsFilePiece ranges piece
    → IsInside files piece.file piece.range.offset piece.range.len
piece_inside files ranges piece held h =
    run_inside files ranges piece.range.start piece.file piece.range.offset piece.range.len held h.is.some
    (λ k less. piece_stands ranges piece (piece.range.start + k) h (omega arith) (omega arith)
    ∙ ap (λ n. Some (piece.file, n)) (omega arith))

pub piece_bytes : (files : List (List ℕ)) (ranges : List FileRange) (piece : FileRange) (addr : ℕ) (rest : List ℕ) → All (IsInFile files) ranges
    → IsFilePiece ranges piece → spans addr piece.range ≡ true
    → rest ≡ slice_range (file_bytes files piece.file) (found_by addr piece.range) (found_by addr piece.range + (piece.range.len - (addr - piece.range.start)))
    → (addr + length rest ≡ piece.range.start + piece.range.len)
    × ((k : ℕ) → k < length rest → byte_at (regions_in files ranges) (addr + k) ≡ Some (get_or rest k 0))
piece_bytes files ranges piece addr rest held h holds is =
    let from = spans_from addr piece.range holds in
    let size = piece.range.len - (addr - piece.range.start) in
    let read = run_bytes files ranges addr piece.file (found_by addr piece.range) size rest held (omega (arith, from.0, from.1))
    (λ k less. piece_stands ranges piece (addr + k) h (omega (arith, from.0)) (omega (arith, from.0, from.1))
    ∙ ap (λ n. Some (piece.file, n)) (omega (arith, from.0)))
    is in
    (omega (arith, from.0, from.1, read.0), read.1)
