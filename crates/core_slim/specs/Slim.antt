-- A slim core: a core of some ranges of the memory of another one alone, with all that its notes say. That ranges which
-- touch are one segment, that it can be written, and that nothing else is taken over, is this project's own rule.
use Rattle.std.specs.Prelude.{◌≡◌, ◌↔◌, ℕ, ◌+◌, ◌-◌, ◌<◌, ◌≤◌, List, [], ◌∷◌, ◌++◌, length, unwrap_or, Option, None}
use Rattle.std.specs.Prelude.{Result, Ok, Err, ⊤, if◌then◌else◌}
use Rattle.std.specs.List.{flat_map}
use Rattle.elf64_core.specs.Header.{load_kind, machine_of, note_kind}
use Rattle.elf64_core.specs.Notes.{padded}
use Rattle.elf64_core.specs.Outcomes.{IsUnless}
use Rattle.elf64_core.specs.declared.segment.Segment.{Segment}
use Rattle.process_memory.specs.Memory.{Memory, byte_at, bytes_at}
use Rattle.process_memory.specs.declared.memory.Span.{Span}
use Rattle.image_memory.specs.Cores.{IsCore}
use Rattle.image_memory.specs.Notes.{AreStatuses, IsProcess, note_bytes}
use Rattle.image_memory.specs.Pieces.{memory_of}
use Rattle.image_memory.specs.declared.records.elf_prstatus.{elf_prstatus}
use Rattle.image_memory.specs.declared.records.elf_prpsinfo.{elf_prpsinfo}
use Rattle.core_slim.specs.Files.{contents_start, file_of, zeros}
use Rattle.core_slim.specs.Joined.{AreJoined, lies_in}
use Rattle.core_slim.specs.declared.error.SlimError.{SlimError}
use Rattle.core_slim.specs.declared.error.SlimError.TheVariants.{TooManyPieces, OutOfMemory}

-- the bytes of a piece that is wholly in memory
abbrev pub piece_bytes : Memory → Span → List ℕ
piece_bytes m p = unwrap_or (bytes_at m p.start p.len) []

-- notes, filled with zero bytes to a multiple of 4
abbrev pub filled : List ℕ → List ℕ
filled notes = notes ++ zeros (padded (length notes) - length notes)

-- the segment of a piece whose bytes begin at an offset: it is loaded, and can be read and written
abbrev pub piece_segment : ℕ → Span → Segment
piece_segment offset p = record {
  kind = load_kind;
  flags = 6;
  offset = offset;
  addr = p.start;
  file_size = p.len;
  mem_size = p.len;
}

-- the segment of so many bytes of notes
abbrev pub notes_segment : (offset size : ℕ) → Segment
notes_segment offset size = record {
  kind = note_kind;
  flags = 0;
  offset = offset;
  addr = 0;
  file_size = size;
  mem_size = 0;
}

-- the segments of pieces whose bytes follow each other from an offset on, and then that of notes
abbrev pub slim_segments : (offset size : ℕ) → List Span → List Segment
slim_segments offset size [] = notes_segment offset size ∷ []
slim_segments offset size (p ∷ ps) = piece_segment offset p ∷ slim_segments (offset + p.len) size ps

-- the slim core of some pieces of a core's memory: one load segment for each, in order, and one note segment; then the
-- pieces' bytes, and the core's own note segments, in order
unfoldable pub slim_core : List ℕ → Memory → List Span → List ℕ
slim_core core m pieces =
    let notes = flat_map filled (note_bytes core) in
    file_of (machine_of core) (slim_segments (contents_start (length pieces + 1)) (length notes) pieces)
    (flat_map (piece_bytes m) pieces ++ notes)

-- the slim core of some ranges, or that they have more pieces than a header can count beside the notes; out of memory
-- may always be answered
abbrev pub IsSlimmed : List ℕ → Memory → List Span → Result (List ℕ) SlimError → Type 0
IsSlimmed core m ranges (Ok bytes) =
    (pieces : List Span) × AreJoined ranges pieces × (length pieces ≤ 65533) × (bytes ≡ slim_core core m pieces)
IsSlimmed core m ranges (Err (TooManyPieces count)) =
    (pieces : List Span) × AreJoined ranges pieces × (65533 < length pieces) × (count ≡ length pieces)
IsSlimmed core m ranges (Err OutOfMemory) = ⊤

-- a right answer is the answer, out of memory aside
abbrev pub IsSoleSlim : List ℕ → Memory → List Span → Result (List ℕ) SlimError → Type 0
IsSoleSlim core m ranges result = (answer : Result (List ℕ) SlimError) → IsSlimmed core m ranges answer
    → ¬ (answer ≡ Err OutOfMemory) → IsUnless OutOfMemory answer result

-- a memory at the addresses of some ranges alone
abbrev pub part_of : List Span → Memory → Memory
part_of ranges m addr = if lies_in ranges addr then m addr else None

-- what is read of a slim core of some ranges: it is a core, of the same machine, with a byte at exactly the addresses
-- of the ranges, and its notes say the same of the threads and of the process
pub record Keeps (core : List ℕ) (m : Memory) (ranges : List Span) (bytes : List ℕ) : Type 0 where
  pub is_core : IsCore bytes
  pub machine : machine_of bytes ≡ machine_of core
  pub memory : (addr : ℕ) → byte_at (memory_of bytes) addr ≡ part_of ranges m addr
  pub statuses : (statuses : List elf_prstatus) → AreStatuses bytes statuses ↔ AreStatuses core statuses
  pub process : (process : Option elf_prpsinfo) → IsProcess bytes process ↔ IsProcess core process
