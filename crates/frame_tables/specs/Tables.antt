-- Which entry a table names for an address. What an unruly table may do is this project's rule.
use Rattle.std.specs.Prelude.{◌≡◌, ◌⊎◌, ℕ, ◌+◌, ◌-◌, ◌<◌, ◌≤◌, nat_le, nat_lt, ◌&&◌, Bool, List, length}
use Rattle.std.specs.Prelude.{if◌then◌else◌}
use Rattle.std.specs.Prelude.{Option, Some, None, Result, Ok, Err, ◌==◌}
use Rattle.elf64_core.specs.Header.{IsElf64, HasSegments, IsAccepted}
use Rattle.frame_tables.specs.declared.flaw.RecordError.{RecordError}
use Rattle.frame_tables.specs.declared.flaw.TableError.{TableError}
use Rattle.frame_tables.specs.declared.flaw.TableError.TheVariants.{NotElf, BadHeaders}
use Rattle.frame_tables.specs.declared.header.Heading.{Heading}
use Rattle.frame_tables.specs.declared.record.Entry.{Entry}
use Rattle.frame_tables.specs.Headers.{heading_of, pair_at, HasPairs}
use Rattle.frame_tables.specs.Pairs.{IsBehind}
use Rattle.frame_tables.specs.Records.{entry_at}

-- ---- what a table holds

-- a file of which this is the table's header, and that has all of its pairs
pub record IsTable (file elf : List ℕ) (h : Heading) : Type 0 where
  pub same : elf ≡ file
  pub heading : heading_of file ≡ Ok h
  pub pairs : HasPairs (length file) h

-- a file as ELF, or why it is none
abbrev pub Parses : List ℕ → Result (List ℕ) TableError → Type 0
Parses file result =
    ((¬ IsElf64 file) × (result ≡ Err NotElf))
    ⊎ ((IsElf64 file × (¬ HasSegments file) × (result ≡ Err BadHeaders)) ⊎ (IsAccepted file × (result ≡ Ok file)))

-- ---- entries

-- an address lies in an entry
pub record Covers (address : ℕ) (entry : Entry) : Type 0 where
  pub begins : entry.begin ≤ address
  pub ends : address < entry.begin + entry.size

-- whether an address lies in an entry
abbrev pub covers : ℕ → Entry → Bool
covers address entry = nat_le entry.begin address && nat_lt (address - entry.begin) entry.size

-- the entry, if it covers an address
abbrev pub covering : ℕ → Entry → Option Entry
covering address entry = if covers address entry then Some entry else None

-- the entry of a pair, by its number
abbrev pub entry_of : List ℕ → Heading → ℕ → Result Entry RecordError
entry_of file h number = entry_at file h.machine (pair_at file h number).place

-- an entry that was read is there; a flawed one is the error
abbrev pub there : Result Entry RecordError → Result (Option Entry) RecordError
there (Ok entry) = Ok (Some entry)
there (Err error) = Err error

-- that of a number, where there are so many
abbrev pub numbered : List ℕ → Heading → ℕ → Result (Option Entry) RecordError
numbered file h number = if nat_le h.count number then Ok None else there (entry_of file h number)

-- ---- the answer

-- the entry that was read, if it covers the address
abbrev pub covered : ℕ → Result Entry RecordError → Result (Option Entry) RecordError
covered address (Ok entry) = Ok (covering address entry)
covered address (Err error) = Err error

-- that of the last of so many pairs
abbrev pub answer_of : List ℕ → Heading → (address count : ℕ) → Result (Option Entry) RecordError
answer_of file h address count = if count == 0 then Ok None else covered address (entry_of file h (count - 1))

-- that of the last pair whose first address is at most the address
pub record Finds (file : List ℕ) (address : ℕ) (answer : Result (Option Entry) RecordError) : Type 0 where
  pub heading : Heading
  pub is_heading : heading_of file ≡ Ok heading
  pub count : ℕ
  pub behind : IsBehind file heading address count
  pub is : answer ≡ answer_of file heading address count

-- first addresses ascend
abbrev pub Ascends : List ℕ → Type 0
Ascends file = (h : Heading) → heading_of file ≡ Ok h
    → (j k : ℕ) → j < k → k < h.count → (pair_at file h j).first ≤ (pair_at file h k).first

-- ---- what it says

-- a pair of the table has this entry
pub record IsNamed (file : List ℕ) (entry : Entry) : Type 0 where
  pub heading : Heading
  pub is_heading : heading_of file ≡ Ok heading
  pub number : ℕ
  pub within : number < heading.count
  pub is : entry_of file heading number ≡ Ok entry

-- first addresses ascend, and the entry of a pair begins at its first address and ends at the next one's or before
-- it. (That no address lies in two entries would be too little: an empty entry within another hides it.)
pub record IsTidyBy (file : List ℕ) (h : Heading) : Type 0 where
  pub ascends : (j k : ℕ) → j < k → k < h.count → (pair_at file h j).first ≤ (pair_at file h k).first
  pub begins : (k : ℕ) (entry : Entry) → k < h.count → entry_of file h k ≡ Ok entry
      → entry.begin ≡ (pair_at file h k).first
  pub ends : (j k : ℕ) (entry : Entry) → j < k → k < h.count → entry_of file h j ≡ Ok entry
      → entry.begin + entry.size ≤ (pair_at file h k).first

-- a table whose first addresses ascend and whose entries don't overlap
abbrev pub IsTidy : List ℕ → Type 0
IsTidy file = (h : Heading) → heading_of file ≡ Ok h → IsTidyBy file h

-- no entry of the table covers an address
abbrev pub CoversNone : List ℕ → ℕ → Type 0
CoversNone file address = (entry : Entry) → IsNamed file entry → ¬ Covers address entry
