-- What is read of a slim core.
use Rattle.std.proofs.Common.{◌≡◌, ℕ, cond, ◌+◌, ◌-◌, ◌<◌, ◌≤◌, ◌^◌, List, [], ◌∷◌, ◌++◌, length, take, drop, map, refl}
use Rattle.std.proofs.Common.{sym, ap, ap₂, subst, ◌∙◌, arith}
use Rattle.std.specs.Prelude.{All, Option, filter, filter_map, None}
use Rattle.std.specs.List.{flat_map}
use Rattle.std.proofs.lemmas.List.{take_all}
use Rattle.elf64_core.specs.Header.{FitsFile, IsAccepted, machine_of, segments_of}
use Rattle.elf64_core.specs.Notes.{Noted}
use Rattle.elf64_core.specs.declared.segment.Segment.{Segment}
use Rattle.process_memory.specs.Memory.{Memory, Region, byte_at}
use Rattle.process_memory.specs.Seen.{HoldsSpan}
use Rattle.process_memory.specs.declared.memory.Span.{Span}
use Rattle.image_memory.specs.Cores.{IsCore}
use Rattle.image_memory.specs.FileTables.{Entry}
use Rattle.image_memory.specs.Notes.{AreCoreNotes, AreStatuses, IsProcess, is_note, last_process, note_bytes}
use Rattle.image_memory.specs.Notes.{note_segments, segment_bytes, status_noted}
use Rattle.image_memory.specs.Pieces.{is_load, memory_of, segment_region}
use Rattle.image_memory.specs.declared.records.elf_prstatus.{elf_prstatus}
use Rattle.image_memory.specs.declared.records.elf_prpsinfo.{elf_prpsinfo}
use Rattle.image_memory.proofs.Noted.{AreStatuses-once, IsProcess-once}
use Rattle.core_slim.specs.Files.{contents_start, file_of}
use Rattle.core_slim.specs.Joined.{AreJoined}
use Rattle.core_slim.specs.Slim.{Keeps, filled, notes_segment, part_of, piece_bytes, slim_core, slim_segments}
use Rattle.core_slim.proofs.Joining.{pieces_held}
use Rattle.core_slim.proofs.NotesBack.{notes_kept}
use Rattle.core_slim.proofs.Pieces.{length-slim_segments}
use Rattle.core_slim.proofs.ReadBack.{file_contents, file_header_is, file_length, file_machine, file_segments}
use Rattle.core_slim.proofs.ReadBack.{file_table}
use Rattle.core_slim.proofs.Regions.{Follows, bytes_back, fits_back, notes_back, piece_region, regions_back, room_back}

le_self : (n : ℕ) → n ≤ n
le_self n = omega arith

is_not_none : (s : Segment) → ◌≡◌ {A = List Segment} [] (s ∷ []) → ⊥
is_not_none s e = cc

-- what is read of a slim core of some ranges beside what its notes say, and that these are the core's
pub record IsKept (core : List ℕ) (m : Memory) (ranges : List Span) (bytes : List ℕ) : Type 0 where
  pub accepted : IsAccepted bytes
  pub machine : machine_of bytes ≡ machine_of core
  pub memory : (addr : ℕ) → byte_at (memory_of bytes) addr ≡ part_of ranges m addr
  pub notes_segment : Segment
  pub noted : note_segments bytes ≡ notes_segment ∷ []
  pub notes : (notes : List Noted) (entries : List Entry) → AreCoreNotes core notes entries
      → AreCoreNotes bytes notes entries

module _ (core : List ℕ) (rs : List Region) (ranges pieces : List Span) (held : All (HoldsSpan (byte_at rs)) ranges)
    (are : AreJoined ranges pieces) (few : length pieces ≤ 65533) where
  abbrev m : Memory
  m = byte_at rs

  abbrev notes : List ℕ
  notes = flat_map filled (note_bytes core)

  abbrev start : ℕ
  start = contents_start (length pieces + 1)

  abbrev segments : List Segment
  segments = slim_segments start (length notes) pieces

  abbrev contents : List ℕ
  contents = flat_map (piece_bytes m) pieces ++ notes

  abbrev file : List ℕ
  file = file_of (machine_of core) segments contents

  count : length segments ≡ length pieces + 1
  count = length-slim_segments start (length notes) pieces

  module _ (short : length file < 2 ^ 63) where
    all_held : All (HoldsSpan m) pieces
    all_held = pieces_held m ranges pieces held are

    follows : Follows file notes (length notes) rs refl short start pieces
    follows = record {
      bytes = ap (λ n. drop (contents_start n) file) (sym count) ∙ file_contents (machine_of core) segments contents;
      within = omega (arith, count, file_length (machine_of core) segments contents);
      some = are.some;
      held = all_held;
    }

    segments_are : segments_of file ≡ segments
    segments_are =
        file_segments (machine_of core) segments contents
        (room_back file notes (length notes) rs refl short start pieces follows) (omega (arith, count))

    file_accepted : IsAccepted file
    file_accepted = record {
      header = file_header_is (machine_of core) segments contents;
      readable = record {
        table = file_table (machine_of core) segments contents (omega (arith, count));
        segments =
            subst (All (FitsFile file)) (sym segments_are)
            (fits_back file notes (length notes) rs refl short start pieces follows);
      };
    }

    regions_are : memory_of file ≡ map (piece_region m) pieces
    regions_are =
        ap (λ ss. map (segment_region file) (filter is_load ss)) segments_are
        ∙ regions_back file notes (length notes) rs refl short start pieces follows

    file_memory : (addr : ℕ) → byte_at (memory_of file) addr ≡ part_of ranges m addr
    file_memory addr =
        ap (λ rs. byte_at rs addr) regions_are ∙ bytes_back rs pieces addr all_held
        ∙ ap (λ t. cond t (m addr) None) (are.same addr)

    notes_bytes : (end : ℕ) → drop end file ≡ notes → segment_bytes file (notes_segment end (length notes)) ≡ notes
    notes_bytes end is =
        let size : end + length notes - end ≡ length notes = omega arith in
        ap₂ take size is ∙ take_all (length notes) notes (le_self (length notes))

    file_kept : IsKept core m ranges file
    file_kept =
        let at = notes_back file notes (length notes) rs refl short start pieces follows in
        let one : note_segments file ≡ notes_segment at.0 (length notes) ∷ [] =
        ap (filter is_note) segments_are ∙ at.1 in
        record {
          accepted = file_accepted;
          machine = file_machine (machine_of core) segments contents;
          memory = file_memory;
          notes_segment = notes_segment at.0 (length notes);
          noted = one;
          notes = λ ns es. notes_kept core file (notes_segment at.0 (length notes)) ns es one (notes_bytes at.0 at.2);
        }

slim_kept : (core : List ℕ) (rs : List Region) (ranges pieces : List Span) (bytes : List ℕ)
    → All (HoldsSpan (byte_at rs)) ranges → AreJoined ranges pieces → length pieces ≤ 65533
    → bytes ≡ slim_core core (byte_at rs) pieces → length bytes < 2 ^ 63 → IsKept core (byte_at rs) ranges bytes
unfolding slim_core
slim_kept core rs ranges pieces bytes held are few is short =
    subst (IsKept core (byte_at rs) ranges) (sym is)
    (file_kept core rs ranges pieces held are few (omega (arith, short, ap length is)))

-- ---- what its notes say

module _ (core : List ℕ) (m : Memory) (ranges : List Span) (bytes : List ℕ) (is : IsCore core)
    (kept : IsKept core m ranges bytes) where
  kept_core : IsCore bytes
  kept_core = record {
    accepted = kept.accepted;
    noted = λ e. is_not_none kept.notes_segment (sym e ∙ kept.noted);
    notes = is.notes;
    entries = is.entries;
    found = kept.notes is.notes is.entries is.found;
  }

  statuses_kept : (statuses : List elf_prstatus) → AreStatuses core statuses → AreStatuses bytes statuses
  statuses_kept statuses h =
      record { notes = h.notes; entries = h.entries; found = kept.notes h.notes h.entries h.found; says = h.says }

  statuses_were : (statuses : List elf_prstatus) → AreStatuses bytes statuses → AreStatuses core statuses
  statuses_were statuses h =
      let own : AreStatuses core (filter_map status_noted is.notes) =
      record { notes = is.notes; entries = is.entries; found = is.found; says = refl } in
      let found = statuses_kept (filter_map status_noted is.notes) own in
      subst (AreStatuses core) (AreStatuses-once bytes (filter_map status_noted is.notes) statuses found h) own

  process_kept : (process : Option elf_prpsinfo) → IsProcess core process → IsProcess bytes process
  process_kept process h =
      record { notes = h.notes; entries = h.entries; found = kept.notes h.notes h.entries h.found; says = h.says }

  process_was : (process : Option elf_prpsinfo) → IsProcess bytes process → IsProcess core process
  process_was process h =
      let own : IsProcess core (last_process is.notes) =
      record { notes = is.notes; entries = is.entries; found = is.found; says = refl } in
      let found = process_kept (last_process is.notes) own in
      subst (IsProcess core) (IsProcess-once bytes (last_process is.notes) process found h) own

  all_kept : Keeps core m ranges bytes
  all_kept = record {
    is_core = kept_core;
    machine = kept.machine;
    memory = kept.memory;
    statuses = λ statuses. (statuses_were statuses, statuses_kept statuses);
    process = λ process. (process_was process, process_kept process);
  }

-- ---- together

pub slim_keeps : (core : List ℕ) (rs : List Region) (ranges pieces : List Span) (bytes : List ℕ) → IsCore core
    → All (HoldsSpan (byte_at rs)) ranges → AreJoined ranges pieces → length pieces ≤ 65533
    → bytes ≡ slim_core core (byte_at rs) pieces → length bytes < 2 ^ 63 → Keeps core (byte_at rs) ranges bytes
slim_keeps core rs ranges pieces bytes is held are few same short =
    all_kept core (byte_at rs) ranges bytes is (slim_kept core rs ranges pieces bytes held are few same short)
