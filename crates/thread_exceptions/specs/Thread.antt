-- What a thread raises and handles (`PyThreadState`: `curexc_type` and `curexc_value` up to 3.11, `current_exception`
-- from 3.12 on; `exc_info` and `exc_state`; `_PyErr_StackItem`: Include/cpython/pystate.h).
use Rattle.std.specs.Prelude.{ℕ, ◌≡◌, ◌+◌, ◌-◌, nat_eq, List, [], ◌∷◌, map, Result, Ok, Err, Bool, true, false, not}
use Rattle.std.specs.Prelude.{if◌then◌else◌}
use Rattle.process_memory.specs.Memory.{Fault, Found, Memory, ◌>>=◌, word_at}
use Rattle.process_memory.specs.Memory.Fault.{Missing}
use Rattle.thread_exceptions.specs.declared.places.Places.{Places}
use Rattle.thread_exceptions.specs.declared.places.RaisedPlaces.{RaisedPlaces}
use Rattle.thread_exceptions.specs.declared.places.RaisedPlaces.TheVariants as places
use Rattle.thread_exceptions.specs.declared.thread.Handled as read_handled
use Rattle.thread_exceptions.specs.declared.thread.Owner.{Owner}
use Rattle.thread_exceptions.specs.declared.thread.Owner.TheVariants as owner
use Rattle.thread_exceptions.specs.declared.thread.Raised as read_raised
use Rattle.thread_exceptions.specs.declared.thread.Raised.TheVariants as reads
use Rattle.thread_exceptions.specs.declared.thread.ThreadExceptions.{ThreadExceptions}
use Rattle.thread_exceptions.specs.declared.thread.Value as read_value
use Rattle.thread_exceptions.specs.declared.thread.Value.TheVariants as values
use Rattle.thread_exceptions.specs.Discovery.{AreMet, Met, met_of}
use Rattle.thread_exceptions.specs.Exceptions.{is_exception, what_at}
use Rattle.thread_exceptions.specs.Links.{Chain, End, chain_from}
use Rattle.thread_exceptions.specs.Links.End.{Stops}
use Rattle.thread_exceptions.specs.Links.{Stop as stop}
use Rattle.thread_exceptions.specs.Turns.{end_of, turn_at}

-- what is raised: nothing; an exception; one of a type with a value; or whether there is one is not in memory
pub data Raised : Type 0 where
  Nothing : Raised
  Exception : (address : ℕ) → Raised
  Parts : (class value : ℕ) → Raised
  Lost : Fault → Raised

-- what an item names: the object at an address, which is not known to be no exception, none at 0; or which one is not
-- in memory
pub data Value : Type 0 where
  At : (address : ℕ) → Value
  Lost : Fault → Value

-- what an item of a thread names, and whether the thread or a coroutine that runs has the item (`_PyErr_StackItem`)
pub record Handled : Type 0 where
  pub owner : Owner
  pub value : Value

-- a thread as it is told
pub record Thread : Type 0 where
  pub raised : Raised
  pub handled : List Handled
  pub end : End
  pub met : List Met

-- ---- what is raised

-- the raised exception at an address; nothing at 0
abbrev pub raised_exception : ℕ → Raised
raised_exception addr = if nat_eq addr 0 then Raised.Nothing else Raised.Exception addr

-- what is raised, by the addresses of its type and its value; nothing where the type is 0
abbrev pub raised_parts : ℕ → ℕ → Raised
raised_parts class value = if nat_eq class 0 then Raised.Nothing else Raised.Parts class value

-- from 3.12 on: the address of the exception
unfoldable pub current_at : ℕ → Memory → ℕ → Found Raised
current_at at m thread = do
  addr ← word_at m (thread + at)
  Ok (raised_exception addr)

-- up to 3.11: those of the type and of the value
unfoldable pub pair_at : ℕ → ℕ → Memory → ℕ → Found Raised
pair_at klass value m thread = do
  class ← word_at m (thread + klass)
  named ← word_at m (thread + value)
  Ok (raised_parts class named)

-- what a thread raises, by the exception that its record names, or by the parts of one
unfoldable pub raised_word_at : RaisedPlaces → Memory → ℕ → Found Raised
raised_word_at (places.Exception at) m thread = current_at at m thread
raised_word_at (places.Parts klass value) m thread = pair_at klass value m thread

-- what is raised; lost where that can't be read
abbrev pub raised_by : Found Raised → Raised
raised_by (Ok r) = r
raised_by (Err f) = Raised.Lost f

-- what a thread raises
abbrev pub raised_at : Places → Memory → ℕ → Raised
raised_at p m thread = raised_by (raised_word_at p.raised m thread)

-- ---- what is handled

-- the items from the newest one on; lost where the thread's word for it can't be read
abbrev pub items_by : Places → Memory → Found ℕ → Chain
items_by p m (Ok newest) = chain_from (turn_at p.previous m) [] 4096 newest
items_by p m (Err f) = record { members = []; end = Stops (stop.Lost f) }

-- the items of a thread, the newest one first
unfoldable pub items_at : Places → Memory → ℕ → Chain
items_at p m thread = items_by p m (word_at m (thread + p.newest))

-- the oldest item is the thread's own; each other one stands in a generator or a coroutine that runs
unfoldable pub owner_of : Places → ℕ → ℕ → Owner
owner_of p thread item = if nat_eq (thread + p.oldest) item then owner.Thread else owner.Running (item - p.inside)

-- the flags of an object's type
unfoldable pub flags_at : Places → Memory → ℕ → Found ℕ
flags_at p m a = do
  class ← word_at m (a + p.klass)
  word_at m (class + p.flags)

-- whether an object is known to be no exception, by the flags of its type
abbrev pub is_other_by : Found ℕ → Bool
is_other_by (Ok flags) = not (is_exception flags)
is_other_by (Err f) = false

-- an object is known to be no exception, as `None`
abbrev pub is_other_at : Places → Memory → ℕ → Bool
is_other_at p m a = is_other_by (flags_at p m a)

-- an item that names no exception names nothing
abbrev pub named : ℕ → Bool → Value
named addr is_other = if is_other then Value.At 0 else Value.At addr

-- what an item names by its word; lost where that can't be read
abbrev pub value_by : Places → Memory → Found ℕ → Value
value_by p m (Ok addr) = named addr (is_other_at p m addr)
value_by p m (Err f) = Value.Lost f

-- what an item names
abbrev pub value_at : Places → Memory → ℕ → Value
value_at p m item = value_by p m (word_at m (item + p.value))

-- what the item of a thread at an address names, and whose it is
abbrev pub handled_at : Places → Memory → ℕ → ℕ → Handled
handled_at p m thread item = record { owner = owner_of p thread item; value = value_at p m item }

-- ---- what these lead to

-- the address of what is raised, before 3.12 of its value; 0 where there is none
abbrev pub raised_address : Raised → ℕ
raised_address Raised.Nothing = 0
raised_address (Raised.Exception addr) = addr
raised_address (Raised.Parts class value) = value
raised_address (Raised.Lost f) = 0

-- the address that an item names; 0 where it is lost
abbrev pub value_address : Value → ℕ
value_address (Value.At addr) = addr
value_address (Value.Lost f) = 0

-- the address of what is handled; 0 where there is none
abbrev pub handled_address : Handled → ℕ
handled_address h = value_address h.value

-- the addresses that a thread raises and handles, where they are known
abbrev pub roots_of : Raised → List Handled → List ℕ
roots_of r handled = raised_address r ∷ map (λ h. handled_address h) handled

-- what the thread with the record at an address raises and handles, and all that this leads to
pub record IsThread (p : Places) (m : Memory) (thread : ℕ) (told : Thread) : Type 0 where
  pub raised : told.raised ≡ raised_at p m thread
  pub handled : told.handled ≡ map (λ a. handled_at p m thread a) (items_at p m thread).members
  pub end : told.end ≡ (items_at p m thread).end
  pub met : AreMet (what_at p m) 1024 (roots_of told.raised told.handled) told.met

-- how many reads a thread takes at most
abbrev pub thread_reads : ℕ
thread_reads = 285700

-- ---- as they are read

-- what is raised, as the code has it
abbrev pub raised_of : read_raised.Raised → Raised
raised_of reads.Nothing = Raised.Nothing
raised_of (reads.Exception addr) = Raised.Exception addr
raised_of (reads.Parts class value) = Raised.Parts class value
raised_of (reads.Unreadable l) = Raised.Lost (Missing l.addr l.len)

-- a reader's result with what is raised
abbrev pub raised_of_result : {E : Type 0} → Result read_raised.Raised E → Result Raised E
raised_of_result (Ok r) = Ok (raised_of r)
raised_of_result (Err e) = Err e

-- what an item names, as the code has it
abbrev pub value_of : read_value.Value → Value
value_of (values.At addr) = Value.At addr
value_of (values.Unreadable l) = Value.Lost (Missing l.addr l.len)

-- what is handled, as the code has it
abbrev pub handled_of : read_handled.Handled → Handled
handled_of h = record { owner = h.owner; value = value_of h.value }

-- a thread, as the code has it
abbrev pub thread_of : ThreadExceptions → Thread
thread_of t = record {
  raised = raised_of t.raised;
  handled = map (λ h. handled_of h) t.handled.items;
  end = end_of t.end;
  met = map (λ x. met_of x) t.met.items;
}
