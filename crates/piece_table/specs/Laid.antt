-- Pieces of ranges, each with the number of the range whose it is, and how those of some ranges are laid over
-- those of others.
use Rattle.std.specs.Prelude.{◌⊎◌, ℕ, ◌+◌, ◌-◌, ◌<◌, ◌≤◌, ◌^◌, nat_le, min, max, if◌then◌else◌, List, [], ◌∷◌, ◌++◌}
use Rattle.std.specs.Prelude.{length, Option, Some, None, filter_map, take, ⊤}
use Rattle.std.specs.List.{AllByRecursion}
use Rattle.elf64_core.specs.declared.span_table.TableEntry.{TableEntry}
use Rattle.piece_table.specs.Overlays.{IsPieceOf, found_by, owner_of}
use Rattle.piece_table.specs.declared.overlay.Owned.{Owned}

-- the addresses of a piece
abbrev pub table_entry_of : Owned → TableEntry
table_entry_of p = p.entry

-- the address at which a piece ends
abbrev pub piece_end : Owned → ℕ
piece_end p = p.entry.start + p.entry.len

-- the part of a piece from one address on up to another, if there is any; its owner's number is so much higher
unfoldable pub part_between : (low high shift : ℕ) → Owned → Option Owned
part_between low high shift p =
    if nat_le (min (piece_end p) high) (max p.entry.start low) then None else Some (record {
      entry = record {
        start = max p.entry.start low;
        len = min (piece_end p) high - max p.entry.start low;
        offset = found_by (max p.entry.start low) p.entry;
      };
      owner = p.owner + shift;
    })

-- the parts of pieces that lie there
abbrev pub parts_between : (low high shift : ℕ) → List Owned → List Owned
parts_between low high shift pieces = filter_map (part_between low high shift) pieces

-- the first pieces from an address on, and between them what the second ones have there
abbrev pub overlaid : (shift low : ℕ) → List Owned → List Owned → List Owned
overlaid shift low [] under = parts_between low (2 ^ 64 - 1) shift under
overlaid shift low (top ∷ over) under =
    parts_between low top.entry.start shift under ++ (top ∷ overlaid shift (piece_end top) over under)

-- pieces that ascend from an address on
abbrev pub Rises : ℕ → List Owned → Type 0
Rises low [] = ⊤
Rises low (p ∷ ps) = (low ≤ p.entry.start) × Rises (piece_end p) ps

-- a piece holds an address
abbrev pub Holds : ℕ → Owned → Type 0
Holds addr p = (p.entry.start ≤ addr) × (addr < piece_end p)

-- one of some pieces does
abbrev pub AnyHolds : ℕ → List Owned → Type 0
AnyHolds addr [] = ⊥
AnyHolds addr (p ∷ ps) = Holds addr p ⊎ AnyHolds addr ps

-- a piece over which no sum passes 2^64 - 1, so much added to its owner's number
pub record HasPieceRoom (shift : ℕ) (p : Owned) : Type 0 where
  pub ends : piece_end p ≤ 2 ^ 64 - 1
  pub found_ends : p.entry.offset + p.entry.len ≤ 2 ^ 64 - 1
  pub owner_fits : p.owner + shift ≤ 2 ^ 64 - 1

-- each piece stays below 2^64 where it is moved by so much
abbrev pub HaveRoom : ℕ → List Owned → Type 0
HaveRoom shift ps = AllByRecursion (HasPieceRoom shift) ps

-- the first pieces, so many, end at an address or before it
abbrev pub AreBelow : (high number : ℕ) → List Owned → Type 0
AreBelow high number ps = AllByRecursion (λ p. piece_end p ≤ high) (take number ps)

-- pieces that are those of some ranges
pub record AreLaid (ranges : List TableEntry) (pieces : List Owned) : Type 0 where
  pub each : AllByRecursion (λ p. IsPieceOf ranges p.owner p.entry) pieces
  pub rise : Rises 0 pieces
  pub whole : (addr : ℕ) → owner_of ranges addr < length ranges → AnyHolds addr pieces
