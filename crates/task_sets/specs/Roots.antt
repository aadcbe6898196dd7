-- What the module `asyncio.tasks` has (Lib/asyncio/tasks.py; up to 3.11 `_all_tasks`, from 3.12 on `_scheduled_tasks`
-- and `_eager_tasks`): searches over the slots of dicts. That so many slots are looked at is this project's rule.
use Rattle.std.specs.Prelude.{ℕ, Option, Some, None, List, codes, Ok}
use Rattle.process_memory.specs.Memory.{Memory, Found, ◌>>=◌}
use Rattle.py_fields.specs.declared.layout.Layout.{Layout}
use Rattle.py_builtins.specs.declared.keys.Slots.{Slots}
use Rattle.py_builtins.specs.Dicts.{dict_slots}
use Rattle.py_builtins.specs.Types.{type_at}
use Rattle.py_names.specs.Search.{find_from}
use Rattle.py_names.specs.Typed.{plain_slots}
use Rattle.task_sets.specs.declared.roots.Roots.{Roots}

-- the value of the first entry of a dict under a name
unfoldable pub entry_at : Layout → Memory → Slots → List ℕ → Found (Option ℕ)
entry_at l m slots name = do
  search ← find_from l m name slots slots.count 0 65536
  Ok search.found

-- what registers the tasks of an interpreter
abbrev pub roots : Option ℕ → Option ℕ → Option ℕ → Option ℕ → Option ℕ → Roots
roots all scheduled eager current task =
    record { all = all; scheduled = scheduled; eager = eager; current = current; task = task }

-- what a module's dict has
unfoldable pub roots_in : Layout → Memory → Slots → Found Roots
roots_in l m slots = do
  all ← entry_at l m slots (codes "_all_tasks")
  scheduled ← entry_at l m slots (codes "_scheduled_tasks")
  eager ← entry_at l m slots (codes "_eager_tasks")
  current ← entry_at l m slots (codes "_current_tasks")
  task ← entry_at l m slots (codes "_CTask")
  Ok (roots all scheduled eager current task)

-- what the module at an address has, where there is one
unfoldable pub module_at : Layout → Memory → Option ℕ → Found (Option Roots)
module_at l m None = Ok None
module_at l m (Some a) = do
  t ← type_at l m a
  slots ← plain_slots l m a t
  roots ← roots_in l m slots
  Ok (Some roots)

-- what the module `asyncio.tasks` has among the modules of a dict
unfoldable pub roots_at : Layout → Memory → ℕ → Found (Option Roots)
roots_at l m modules = do
  slots ← dict_slots l m modules
  found ← entry_at l m slots (codes "asyncio.tasks")
  module_at l m found
