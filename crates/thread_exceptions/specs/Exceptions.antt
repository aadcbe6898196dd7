-- What stands at an address: an exception or another object. Which fields an exception has is CPython's
-- (`PyBaseExceptionObject`, Include/cpython/pyerrors.h), and that a type's flags say whether its objects are exceptions
-- (bit 30, `Py_TPFLAGS_BASE_EXC_SUBCLASS`, Include/object.h).
use Rattle.std.specs.Prelude.{ℕ, ◌+◌, ◌/◌, ◌%◌, ◌^◌, nat_eq, Bool, true, false, not, List, [], ◌∷◌, Option, Some, None}
use Rattle.std.specs.Prelude.{Ok, Err, ◌++◌, if◌then◌else◌}
use Rattle.elf64_core.specs.Fields.{u64_in, u8_in}
use Rattle.process_memory.specs.Memory.{Fault, Found, Memory, ◌>>=◌, record_at, word_at}
use Rattle.process_memory.specs.Memory.Fault.{Missing}
use Rattle.thread_exceptions.specs.declared.exception.Parts.{Parts}
use Rattle.thread_exceptions.specs.declared.exception.What as read
use Rattle.thread_exceptions.specs.declared.exception.What.TheVariants as reads
use Rattle.thread_exceptions.specs.declared.places.ExceptionPlaces.{ExceptionPlaces}
use Rattle.thread_exceptions.specs.declared.places.Places.{Places}
use Rattle.thread_exceptions.specs.Groups.{Members, members_at, members_of}

-- what stands at an address: an exception with its members; another object; or what it is is not in memory
pub data What : Type 0 where
  Exception : Parts → Members → What
  Other : What
  Lost : Fault → What

-- whether the flags of a type say that its objects are exceptions (bit 30, `Py_TPFLAGS_BASE_EXC_SUBCLASS`)
unfoldable pub is_exception : ℕ → Bool
is_exception flags = nat_eq (flags / 2 ^ 30 % 2) 1

-- what the record of an exception of a type says
unfoldable pub parts_in : ExceptionPlaces → ℕ → List ℕ → Parts
parts_in at class bytes = record {
  class = class;
  dict = u64_in bytes at.dict;
  args = u64_in bytes at.args;
  traceback = u64_in bytes at.traceback;
  context = u64_in bytes at.context;
  cause = u64_in bytes at.cause;
  suppress_context = not (nat_eq (u8_in bytes at.suppress_context) 0);
}

-- what the record at an address says, if its type is one of exceptions
abbrev pub parts_if : Places → Memory → ℕ → ℕ → Bool → Found (Option Parts)
parts_if p m a class false = Ok None
parts_if p m a class true = do
  bytes ← record_at m a p.exception.size
  Ok (Some (parts_in p.exception class bytes))

-- what the record of the exception at an address says; none of another object
unfoldable pub parts_at : Places → Memory → ℕ → Found (Option Parts)
parts_at p m a = do
  class ← word_at m (a + p.klass)
  flags ← word_at m (class + p.flags)
  parts_if p m a class (is_exception flags)

-- what stands at an address, by its record: an exception with its members, another object, or a lost one
abbrev pub what_by : Places → Memory → ℕ → Found (Option Parts) → What
what_by p m a (Ok (Some parts)) = Exception parts (members_at p m a parts.class)
what_by p m a (Ok None) = Other
what_by p m a (Err f) = Lost f

-- what stands at an address
unfoldable pub what_at : Places → Memory → ℕ → What
what_at p m a = what_by p m a (parts_at p m a)

-- ---- what it leads to

-- the context, where it is to be shown
abbrev pub context_of : Parts → List ℕ
context_of parts = if parts.suppress_context then [] else parts.context ∷ []

-- the addresses of a group's members that are told; none of what is no group or is lost
abbrev pub members_in : Members → List ℕ
members_in Members.NoGroup = []
members_in (Members.Group members left_out) = members
members_in (Members.Lost f) = []

-- what an exception leads to: its cause, its context unless that is suppressed, and its members
abbrev pub parts_leads : Parts → Members → List ℕ
parts_leads parts members = parts.cause ∷ (context_of parts ++ members_in members)

-- the objects that an object leads to
abbrev pub leads : What → List ℕ
leads (Exception parts members) = parts_leads parts members
leads Other = []
leads (Lost f) = []

-- ---- as they are read

-- what stands at an address, as the code has it
abbrev pub what_of : read.What → What
what_of (reads.Exception parts members) = Exception parts (members_of members)
what_of reads.Other = Other
what_of (reads.Unreadable l) = Lost (Missing l.addr l.len)
