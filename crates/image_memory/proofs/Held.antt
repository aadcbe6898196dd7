-- The load segments of a core lie in its file, and are its memory.
use Rattle.std.proofs.Common.{◌≡◌, ℕ, ◌+◌, ◌-◌, ◌<◌, ◌≤◌, ◌^◌, List, ◌∷◌, length, true, get_or, subst, sym, arith, inl}
use Rattle.std.proofs.Common.{inr, ⊎_elim}
use Rattle.std.specs.Prelude.{All}
use Rattle.std.proofs.lemmas.Bool.{eqb-true}
use Rattle.std.proofs.lemmas.List.Elements.{All-filter, All-map, filter_passes}
use Rattle.elf64_core.specs.Header.{FitsFile, HasSegments, IsInside, load_kind, note_kind, segments_of}
use Rattle.elf64_core.specs.declared.segment.Segment.{Segment}
use Rattle.piece_table.specs.Files.{IsInFile, region_in, regions_in}
use Rattle.piece_table.specs.Places.{IsBounded}
use Rattle.image_memory.specs.Notes.{is_note, note_segments}
use Rattle.image_memory.proofs.Lists.{map_twice}
use Rattle.image_memory.specs.Pieces.{IsHeld, core_range, core_ranges, is_load, loads_of, memory_of}

held : (bytes : List ℕ) (s : Segment) → FitsFile bytes s → is_load s ≡ true → IsHeld bytes s
held bytes s fits load =
    let kind : s.kind ≡ load_kind = eqb-true s.kind load_kind load in
    record { inside = fits.loaded kind; ends = fits.mapped kind }

pub held_loads : (bytes : List ℕ) → HasSegments bytes → All (IsHeld bytes) (loads_of bytes)
held_loads bytes h = λ k d less.
    held bytes (get_or (loads_of bytes) k d) (All-filter is_load (FitsFile bytes) (segments_of bytes) h.segments k d less)
    (filter_passes is_load (segments_of bytes) k d less)

-- the note segments of a core lie in its file
pub held_notes : (bytes : List ℕ) → HasSegments bytes → All (λ s. IsInside bytes s.offset s.file_size) (note_segments bytes)
held_notes bytes h = λ k d less.
    let kind = eqb-true (get_or (note_segments bytes) k d).kind note_kind (filter_passes is_note (segments_of bytes) k d less) in
    (All-filter is_note (FitsFile bytes) (segments_of bytes) h.segments k d less).noted kind

pub held_note : (bytes : List ℕ) → HasSegments bytes → (i : ℕ) (s : Segment) → i < length (note_segments bytes)
    → s ≡ get_or (note_segments bytes) i s → IsInside bytes s.offset s.file_size
held_note bytes h i s lt is = subst (λ x. IsInside bytes x.offset x.file_size) (sym is) (held_notes bytes h i s lt)

core_bounded : (bytes : List ℕ) (s : Segment) → length bytes ≤ 2 ^ 64 - 1 → IsHeld bytes s → IsBounded (core_range s)
core_bounded bytes s few h = record {
  ends = omega (arith, h.ends);
  found_ends = ⊎_elim (λ (empty : s.file_size ≡ 0). inl (omega arith))
      (λ (inside : s.offset + s.file_size ≤ length bytes). inr (omega arith)) h.inside;
}

core_in_file : (bytes : List ℕ) (others : List (List ℕ)) (s : Segment) → length bytes ≤ 2 ^ 64 - 1 → IsHeld bytes s → IsInFile (bytes ∷ others) (core_range s)
core_in_file bytes others s few h = record {
  known = omega arith;
  inside = ⊎_elim (λ (empty : s.file_size ≡ 0). inl (omega arith))
      (λ (inside : s.offset + s.file_size ≤ length bytes). inr (omega arith)) h.inside;
  fits = core_bounded bytes s few h;
}

pub core_fits : (bytes : List ℕ) → length bytes ≤ 2 ^ 64 - 1 → HasSegments bytes → All IsBounded (core_ranges bytes)
core_fits bytes few h =
    All-map IsBounded core_range (loads_of bytes) (λ k d less. core_bounded bytes (get_or (loads_of bytes) k d) few (held_loads bytes h k d less))

-- the ranges of a core lie in its file, whatever other files there are
pub core_held : (bytes : List ℕ) (others : List (List ℕ)) → length bytes ≤ 2 ^ 64 - 1 → HasSegments bytes → All (IsInFile (bytes ∷ others)) (core_ranges bytes)
core_held bytes others few h =
    All-map (IsInFile (bytes ∷ others)) core_range (loads_of bytes)
    (λ k d less. core_in_file bytes others (get_or (loads_of bytes) k d) few (held_loads bytes h k d less))

-- and are the core's memory
pub core_regions : (bytes : List ℕ) (others : List (List ℕ)) → regions_in (bytes ∷ others) (core_ranges bytes) ≡ memory_of bytes
core_regions bytes others = map_twice (region_in (bytes ∷ others)) core_range (loads_of bytes)
