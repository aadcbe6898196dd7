-- Which ranges of a memory were asked for and refused, by blocks of 64 KiB. That reads are kept by blocks is this
-- project's own rule.
use Rattle.std.specs.Prelude.{◌≡◌, ℕ, ◌+◌, ◌-◌, ◌*◌, ◌^◌, ◌<◌, ◌≤◌, ◌⊎◌, true, Result, Ok, Err}
use Rattle.std.specs.BTreeSet.{BTreeSet, contains}
use Rattle.std.specs.Ordering.{nat_cmp}
use Rattle.process_memory.specs.declared.memory.ReadFault.{ReadFault}
use Rattle.process_memory.specs.declared.memory.ReadFault.TheVariants.{Unreadable, OutOfMemory}

-- the blocks of some ranges, by their numbers, and how many ranges there were besides that don't lie in them
pub record Refused : Type 0 where
  pub blocks : BTreeSet ℕ
  pub above : ℕ

-- a block is among them
abbrev pub Has : BTreeSet ℕ → ℕ → Type 0
Has blocks n = contains nat_cmp blocks n ≡ true

-- each block from one to another is
abbrev pub HasBlocks : BTreeSet ℕ → (first last : ℕ) → Type 0
HasBlocks blocks first last = (n : ℕ) → first ≤ n → n ≤ last → Has blocks n

-- those that were stay, and no other comes than one
pub record AddsOne (old new : BTreeSet ℕ) (number : ℕ) : Type 0 where
  pub stay : (n : ℕ) → Has old n → Has new n
  pub only : (n : ℕ) → Has new n → Has old n ⊎ (n ≡ number)

-- those that were stay, and no others come than those from one to another
pub record AddsThese (old new : BTreeSet ℕ) (first last : ℕ) : Type 0 where
  pub stay : (n : ℕ) → Has old n → Has new n
  pub only : (n : ℕ) → Has new n → Has old n ⊎ ((first ≤ n) × (n ≤ last))

-- a byte of a range lies in a block: the range has one, and the block starts before its end and ends behind its start.
-- No address is past 2^64 - 1
pub record IsBlockOf (addr len n : ℕ) : Type 0 where
  pub some : 0 < len
  pub behind : addr < (n + 1) * 2 ^ 16
  pub before : n * 2 ^ 16 < addr + len
  pub inside : n < 2 ^ 48

-- each block of a range is among them
abbrev pub LiesIn : (addr len : ℕ) → BTreeSet ℕ → Type 0
LiesIn addr len blocks = (n : ℕ) → IsBlockOf addr len n → Has blocks n

-- one more was counted; the count ends at 2^64 - 1
abbrev pub CountsOne : (old new : ℕ) → Type 0
CountsOne old new = (new ≡ old + 1) ⊎ ((old ≡ 2 ^ 64 - 1) × (new ≡ old))

-- a range was added: what was there stays, no blocks come but those of the range, and all of them are there, or the
-- range is counted
pub record Adds (old new : Refused) (addr len : ℕ) : Type 0 where
  pub stay : (n : ℕ) → Has old.blocks n → Has new.blocks n
  pub only : (n : ℕ) → Has new.blocks n → Has old.blocks n ⊎ IsBlockOf addr len n
  pub lies : ((new.above ≡ old.above) × LiesIn addr len new.blocks) ⊎ CountsOne old.above new.above

-- one read of a range: where it was refused, the range was added; else all is as it was
abbrev pub Keeps : {T : Type 0} → (old new : Refused) → (addr len : ℕ) → Result T ReadFault → Type 0
Keeps old new addr len (Ok x) = new ≡ old
Keeps old new addr len (Err (Unreadable a n)) = Adds old new addr len
Keeps old new addr len (Err OutOfMemory) = new ≡ old
