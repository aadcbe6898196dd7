-- The entries of the sets in which an interpreter's tasks are registered: of both `WeakSet`s the set in their `data`
-- (Lib/_weakrefset.py), and the one of eager tasks. How many they may have together is this project's rule.
use Rattle.std.specs.Prelude.{ℕ, ◌+◌, ◌^◌, ◌||◌, nat_lt, Option, Some, None, Ok, Err, codes, if◌then◌else◌}
use Rattle.process_memory.specs.Memory.{Memory, Found, ◌>>=◌}
use Rattle.process_memory.specs.Memory.Fault.{Entries as ManyEntries}
use Rattle.py_fields.specs.declared.layout.Layout.{Layout}
use Rattle.task_sets.specs.declared.places.RootPlaces.{RootPlaces}
use Rattle.task_sets.specs.declared.roots.Roots.{Roots}
use Rattle.task_sets.specs.declared.sets.Entries.{Entries}
use Rattle.task_sets.specs.declared.tables.Tables.{Tables}
use Rattle.task_sets.specs.Named.{attribute_at}
use Rattle.task_sets.specs.Sets.{table_at}

-- the set that a `WeakSet` has
unfoldable pub data_at : Layout → RootPlaces → Memory → Option ℕ → Found (Option ℕ)
data_at l p m None = Ok None
data_at l p m (Some a) = attribute_at l p m (codes "data") a

-- how many entries the sets have together
abbrev pub count_of : Entries → Entries → Entries → ℕ
count_of all scheduled eager = all.count + scheduled.count + eager.count

-- the same entries, where they are few enough together: no more than so many, and no more than 2^20
unfoldable pub few_of : (slots : ℕ) → Entries → Entries → Entries → Found Tables
few_of slots all scheduled eager =
    if nat_lt slots (count_of all scheduled eager) || nat_lt (2 ^ 20) (count_of all scheduled eager)
    then Err ManyEntries
    else Ok (record { all = all; scheduled = scheduled; eager = eager })

-- the tables of the three sets, where they are small enough together
unfoldable pub read_tables_at : RootPlaces → Memory → Option ℕ → Option ℕ → Option ℕ → Found Tables
read_tables_at p m all scheduled eager = do
  first ← table_at p.sets m all
  second ← table_at p.sets m scheduled
  third ← table_at p.sets m eager
  few_of p.slots first second third

-- the tables of the sets that register tasks
unfoldable pub tables_at : Layout → RootPlaces → Memory → Roots → Found Tables
tables_at l p m r = do
  all ← data_at l p m r.all
  scheduled ← data_at l p m r.scheduled
  read_tables_at p m all scheduled r.eager
