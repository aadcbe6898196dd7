-- The memory of a process: which byte stands at which address, and what a record or a word there is.
-- The rules of missing bytes are this project's own.
use Rattle.std.specs.Prelude.{ℕ, zero, suc, ◌+◌, ◌-◌, ◌^◌, nat_lt, nat_le, Option, Some, None, List, [], ◌∷◌, slice_get}
use Rattle.std.specs.Prelude.{if◌then◌else◌, Result, Ok, Err, ℤ}
use Rattle.std.specs.Int.{w64, from_le_bytes}

-- the byte at each address, if there is one
abbrev pub Memory : Type 0
Memory = ℕ → Option ℕ

-- a piece of memory: where it starts, and its bytes
abbrev pub Region : Type 0
Region = ℕ × List ℕ

-- the byte that one piece has at an address
abbrev pub region_byte : Region → Memory
region_byte p a = if nat_le p.0 a then slice_get p.1 (a - p.0) else None

-- the first byte where there is one, else the second
abbrev pub first_of : Option ℕ → Option ℕ → Option ℕ
first_of None o = o
first_of (Some b) o = Some b

-- the byte at an address of the first piece that holds it
abbrev pub first_byte : List Region → Memory
first_byte [] a = None
first_byte (p ∷ ps) a = first_of (region_byte p a) (first_byte ps a)

-- the byte at an address is that of the first piece that holds it. A piece ends at 2^64 - 1 at most, so
-- that from there on no address has a byte
unfoldable pub byte_at : List Region → Memory
byte_at ps a = if nat_lt a (2 ^ 64 - 1) then first_byte ps a else None

-- a byte in front of others, where both are there
abbrev pub in_front : Option ℕ → Option (List ℕ) → Option (List ℕ)
in_front None o = None
in_front (Some b) None = None
in_front (Some b) (Some bs) = Some (b ∷ bs)

-- the `n` bytes from `a` on, where all of them are there
unfoldable pub bytes_at : Memory → ℕ → ℕ → Option (List ℕ)
bytes_at m a zero = Some []
bytes_at m a (suc n) = in_front (m a) (bytes_at m (a + 1) n)

-- why a definition has no value: the one list of faults of all readers
pub data Fault : Type 0 where
  -- a range that isn't in memory
  Missing : (addr len : ℕ) → Fault
  -- more threads than are walked
  ThreadLimit : Fault
  -- more frames of a thread than are kept
  FrameLimit : Fault
  -- more frames of a thread than are met
  ChainLimit : Fault
  -- the name of a variable, or the count of variables, can't be
  BadValue : (frame : ℕ) → Fault
  -- more variables of a frame than are read
  LocalsLimit : (count : ℤ) → Fault
  -- the characters of a text are none
  NoText : Fault
  -- a stated length that is too long, or negative
  TooLong : (len : ℤ) → Fault
  -- a dict whose numbers can't be
  BadDict : Fault
  -- the name of a type is no text
  BadType : Fault
  -- a value has more parts than are shown
  Visits : Fault
  -- a value has more levels than are shown
  Depth : Fault
  -- a negative count
  BadCount : (count : ℤ) → Fault
  -- a truth value that is neither 0 nor 1
  BadBool : (byte : ℕ) → Fault
  -- the layout has no dicts
  NoDicts : Fault
  -- more slots than are looked at for names
  Entries : Fault

-- a value, or a fault
abbrev pub Found : Type 0 → Type 0
Found T = Result T Fault

-- the value, where there is one, else this fault
abbrev pub found_or : {T : Type 0} → Option T → Fault → Found T
found_or None r = Err r
found_or (Some x) r = Ok x

-- the bytes of an address that is none
abbrev pub outside : ℕ → Found (List ℕ)
outside zero = Ok []
outside (suc n) = Err (Missing (2 ^ 64 - 1) (suc n))

-- the list of the `n` bytes at `a`, or the range that isn't in memory. A sum that passes the last address is
-- in no memory
unfoldable pub record_at : Memory → ℕ → ℕ → Found (List ℕ)
record_at m a n = if nat_lt a (2 ^ 64) then found_or (bytes_at m a n) (Missing a n) else outside n

-- the address that stands so far before another; one before address 0 is in no memory
unfoldable pub address_before : ℕ → ℕ → ℕ
address_before a k = if nat_le k a then a - k else 2 ^ 64

-- goes on with a value, or stops at a fault
infixl 10 ◌>>=◌
abbrev pub ◌>>=◌ : {T U : Type 0} → Found T → (T → Found U) → Found U
Ok x >>= f = f x
Err e >>= f = Err e

-- the number of the 8 bytes at `a`, or the range that isn't in memory
unfoldable pub word_at : Memory → ℕ → Found ℕ
word_at m a = do
  bytes ← record_at m a 8
  Ok (from_le_bytes w64 bytes)
