-- What an object that reads a process's memory means, and what each reader of it owes.
use Rattle.std.specs.Prelude.{◌≡◌, ℕ, ◌+◌, ◌<◌, ◌≤◌, ◌^◌, ◌⊎◌, Bool, Option, Some, None, IsSome, List, [], ◌∷◌, ◌++◌}
use Rattle.std.specs.Prelude.{length, slice_get, Result, Ok, Err, ⊤}
use Rattle.std.specs.Borrow.{GName}
use Rattle.std.specs.Global.{Vec}
use Rattle.process_memory.specs.declared.memory.Span.{Span}
use Rattle.process_memory.specs.declared.memory.ReadFault.{ReadFault}
use Rattle.process_memory.specs.declared.memory.ReadFault.TheVariants.{Unreadable, OutOfMemory}
use Rattle.process_memory.specs.Memory.{Memory, Region, byte_at, Found, Fault, record_at}
use Rattle.process_memory.specs.Memory.Fault.{Missing}

-- what an object that reads a process's memory means
pub record Seen : Type 0 where
  -- its memory
  pub pieces : List Region
  -- how many reads were counted
  pub reads : ℕ
  -- the ranges that were read, where they are kept
  pub ranges : Option (List Span)
  -- the counter that it counts on
  pub counter : Option GName
  -- whether a read may want memory
  pub may_want_memory : Bool

-- the ranges after one more was read
abbrev pub with_range : Option (List Span) → Span → Option (List Span)
with_range None s = None
with_range (Some xs) s = Some (xs ++ s ∷ [])

-- the ranges after a read: one more exactly where it was read with Ok
abbrev pub ranges_after : {T E : Type 0} → Result T E → Option (List Span) → Span → Option (List Span)
ranges_after (Ok x) rs s = with_range rs s
ranges_after (Err e) rs s = rs

-- the fault that an error names; out of memory names none
abbrev pub read_fault : ReadFault → Option Fault
read_fault (Unreadable a n) = Some (Missing a n)
read_fault OutOfMemory = None

-- a definition fails with this fault, where one is named
abbrev pub FaultIs : {T : Type 0} → Found T → Option Fault → Type 0
FaultIs d None = ⊤
FaultIs d (Some f) = d ≡ Err f

-- a result is the definition's value, or names the definition's fault
abbrev pub AnswerIs : {T E : Type 0} → (E → Option Fault) → Found T → Result T E → Type 0
AnswerIs fault d (Ok x) = d ≡ Ok x
AnswerIs fault d (Err e) = FaultIs d (fault e)

-- a result is what the definition says, or a out of memory
pub record Answers {T E : Type 0} (fault : E → Option Fault) (definition : Found T) (result : Result T E) : Type 0 where
  pub is : AnswerIs fault definition result

-- one call that reads a range
pub record OneRead (old new : Seen) (addr len : ℕ) (result : Result (List ℕ) ReadFault) : Type 0 where
  pub pieces : new.pieces ≡ old.pieces
  pub counter : new.counter ≡ old.counter
  pub memory : new.may_want_memory ≡ old.may_want_memory
  pub cost : new.reads ≤ old.reads + 1
  pub ranges : new.ranges ≡ ranges_after result old.ranges (record { start = addr; len = len })
  pub answer : Answers read_fault (record_at (byte_at old.pieces) addr len) result

-- the bytes of the buffer, where the read was Ok
abbrev pub with_bytes : {E : Type 0} → List ℕ → Result Unit E → Result (List ℕ) E
with_bytes bytes (Ok u) = Ok bytes
with_bytes bytes (Err e) = Err e

-- a result with the items of its vector
abbrev pub items_of : {T E : Type 0} → Result (Vec T) E → Result (List T) E
items_of (Ok v) = Ok v.items
items_of (Err e) = Err e

-- the later list goes on from the earlier one
abbrev pub Extends : Option (List Span) → Option (List Span) → Type 0
Extends None None = ⊤
Extends None (Some ys) = ⊥
Extends (Some xs) None = ⊥
Extends (Some xs) (Some ys) = (zs : List Span) × (ys ≡ xs ++ zs)

-- all bytes of a range are in a memory
abbrev pub HoldsSpan : Memory → Span → Type 0
HoldsSpan m s = (k : ℕ) → k < s.len → IsSome (m (s.start + k))

-- all bytes of a range are in memory
abbrev pub HoldsRange : Seen → (addr len : ℕ) → Type 0
HoldsRange seen addr len = HoldsSpan (byte_at seen.pieces) (record { start = addr; len = len })

-- the memory holds what was read: the added ranges where they are kept, and else all of the memory
abbrev pub HoldsRead : Option (List Span) → Option (List Span) → Memory → Memory → Type 0
HoldsRead None new whole m = (a : ℕ) → IsSome (whole a) → IsSome (m a)
HoldsRead (Some xs) None whole m = ⊤
HoldsRead (Some xs) (Some ys) whole m = (k : ℕ) (s : Span) → length xs ≤ k → slice_get ys k ≡ Some s → HoldsSpan m s

-- a memory that has no byte that this one lacks or has otherwise, and holds what was read in between
pub record Suffices (old new : Seen) (m : Memory) : Type 0 where
  pub agrees : (a b : ℕ) → m a ≡ Some b → byte_at old.pieces a ≡ Some b
  pub holds : HoldsRead old.ranges new.ranges (byte_at old.pieces) m

-- each of the added ranges is one that may be read
abbrev pub AddsOnly : (Span → Type 0) → Option (List Span) → Option (List Span) → Type 0
AddsOnly allowed None new = ⊤
AddsOnly allowed (Some xs) None = ⊤
AddsOnly allowed (Some xs) (Some ys) = (k : ℕ) (s : Span) → length xs ≤ k → slice_get ys k ≡ Some s → allowed s

-- a range shorter than 65536 bytes, in whatever memory
abbrev pub IsShort : Memory → Span → Type 0
IsShort m s = s.len < 2 ^ 16

-- exactly the `len` bytes from `addr` on
abbrev pub IsRange : (addr len : ℕ) → Memory → Span → Type 0
IsRange addr len m s = s ≡ record { start = addr; len = len }

-- exactly the `len` bytes from `addr` on, which are fewer than 65536
pub record IsRead (addr len : ℕ) (m : Memory) (s : Span) : Type 0 where
  pub is : IsRange addr len m s
  pub short : len < 2 ^ 16

-- a range shorter than 65536 bytes, or one of some others
abbrev pub IsShortOr : (Memory → Span → Type 0) → Memory → Span → Type 0
IsShortOr others m s = IsShort m s ⊎ others m s

-- `new` comes of `old` by at most `n` reads, each of a range that this memory allows, and `Q` holds of every memory
-- that covers them, of which this one is one
pub record ReadingOf (allowed : Memory → Span → Type 0) (n : ℕ) (old new : Seen) (Q : Memory → Type 0) : Type 0 where
  pub pieces : new.pieces ≡ old.pieces
  pub counter : new.counter ≡ old.counter
  pub memory : new.may_want_memory ≡ old.may_want_memory
  pub ranges : Extends old.ranges new.ranges
  pub here : HoldsRead old.ranges new.ranges (byte_at old.pieces) (byte_at old.pieces)
  pub only : AddsOnly (allowed (byte_at old.pieces)) old.ranges new.ranges
  pub cost : new.reads ≤ old.reads + n
  pub holds : (m : Memory) → Suffices old new m → Q m

-- the same, where each range is shorter than 65536 bytes: what readers of fronts and of what is reached owe
abbrev pub Reading : ℕ → Seen → Seen → (Memory → Type 0) → Type 0
Reading n old new Q = ReadingOf IsShort n old new Q

-- the same, where the memory itself says how many reads there are at most
abbrev pub ReadingBy : (Memory → ℕ) → Seen → Seen → (Memory → Type 0) → Type 0
ReadingBy cost old new Q = Reading (cost (byte_at old.pieces)) old new Q

-- `new` comes of `old` by at most `n` reads, each of a range that this memory allows, and the result is what the
-- definition says over every memory that covers them
abbrev pub ReadsOf : {T E : Type 0} → (Memory → Span → Type 0) → (E → Option Fault) → ℕ → Seen → Seen
    → (Memory → Found T) → Result T E → Type 0
ReadsOf allowed fault n old new definition result =
    ReadingOf allowed n old new (λ m. Answers fault (definition m) result)

-- the same, where each range is shorter than 65536 bytes
abbrev pub Reads : {T E : Type 0} → (E → Option Fault) → ℕ → Seen → Seen → (Memory → Found T) → Result T E → Type 0
Reads fault n old new definition result = ReadsOf IsShort fault n old new definition result

-- the same of a reader that looks at one range alone: at most one read, of exactly these bytes
abbrev pub ReadsRange : {T E : Type 0} → (E → Option Fault) → (addr len : ℕ) → Seen → Seen → (Memory → Found T)
    → Result T E → Type 0
ReadsRange fault addr len old new definition result = ReadsOf (IsRead addr len) fault 1 old new definition result

-- a part of a memory that holds all of some ranges
pub record IsPartWith (whole : Memory) (ranges : List Span) (m : Memory) : Type 0 where
  pub agrees : (a b : ℕ) → m a ≡ Some b → whole a ≡ Some b
  pub holds : (k : ℕ) (s : Span) → slice_get ranges k ≡ Some s → HoldsSpan m s
