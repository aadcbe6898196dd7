-- The stacks of an interpreter, with the names of its threads.
use Rattle.std.specs.Prelude.{◌≡◌, ℕ, ◌+◌, Option, Some, None, List, map, Result, Ok, Err}
use Rattle.std.specs.Ordering.{nat_cmp}
use Rattle.std.specs.BTreeMap.{BTreeMap, get}
use Rattle.process_memory.specs.Memory.{Memory, Found, ◌>>=◌}
use Rattle.py_fields.specs.declared.layout.Layout.{Layout}
use Rattle.py_stacks.specs.declared.asked.Asked.{Asked}
use Rattle.py_stacks.specs.declared.error.StackError.{StackError}
use Rattle.py_stacks.specs.declared.error.StackError.TheVariants.{OutOfMemory}
use Rattle.py_names.specs.declared.names.Named.{Named}
use Rattle.py_names.specs.Names.{name_under, names_at, names_cost, slots_looked_at}
use Rattle.py_stacks.specs.Frames.{cost_after}
use Rattle.py_stacks.specs.Stacks.{stacks_at, stacks_cost}
use Rattle.py_stacks.specs.Threads.{Trace}

-- the name of a thread, by what was found; where there is a fault, no thread has one
abbrev pub name_by : Found (List Named) → ℕ → Option (List ℕ)
name_by (Ok names) id = name_under names id
name_by (Err f) id = None

-- a trace has the name that its id has
abbrev pub by_name : (ℕ → Option (List ℕ)) → Trace → Trace
by_name names t = record t { thread_name = names t.thread_id }

-- the stacks, each trace with the name of its thread. A fault of the names is none of theirs
unfoldable pub named_stacks_at : Asked → Layout → Memory → ℕ → ℕ → Found (List Trace)
named_stacks_at q l m lock interpreter = do
  traces ← stacks_at q l m lock interpreter
  Ok (map (by_name (name_by (names_at l m interpreter))) traces)

-- the names are read where the stacks were found
unfoldable pub named_cost : Asked → Layout → Memory → ℕ → ℕ → ℕ
named_cost q l m lock interpreter = stacks_cost q l m lock interpreter
    + cost_after (stacks_at q l m lock interpreter) (λ traces. names_cost l m interpreter)

-- the slots that are looked at for names, where they are read
unfoldable pub slots_named : Asked → Layout → Memory → (lock interpreter : ℕ) → ℕ
slots_named q l m lock interpreter =
    cost_after (stacks_at q l m lock interpreter) (λ traces. slots_looked_at l m interpreter)

-- ---- a map, if there is one

-- the name that a map has for a thread's id; none without a map
abbrev pub name_in : Option (BTreeMap ℕ (List ℕ)) → ℕ → Option (List ℕ)
name_in None id = None
name_in (Some names) id = get nat_cmp names id

-- a map has exactly the names that were found, and the error is out of memory
abbrev pub NamesAreBy : Found (List Named) → Result (Option (BTreeMap ℕ (List ℕ))) StackError → Type 0
NamesAreBy d (Ok names) = (id : ℕ) → name_in names id ≡ name_by d id
NamesAreBy d (Err e) = e ≡ OutOfMemory

-- it has the names that were found; the one error is out of memory
pub record GivesNames (d : Found (List Named))
    (result : Result (Option (BTreeMap ℕ (List ℕ))) StackError) : Type 0 where
  pub is : NamesAreBy d result
