-- The objects that asyncio has registered in an interpreter: those of the weak references in the `data` of its
-- `WeakSet`s (Lib/_weakrefset.py), the members of its set of eager tasks, and the running task of each loop
-- (Modules/_asynciomodule.c, Lib/asyncio/tasks.py).
use Rattle.std.specs.Prelude.{ℕ, Option, Some, None, List, [], ◌++◌, map, Ok}
use Rattle.process_memory.specs.Memory.{Memory, Found, ◌>>=◌}
use Rattle.py_fields.specs.declared.layout.Layout.{Layout}
use Rattle.instance_dicts.specs.declared.attributes.Attribute.{Attribute}
use Rattle.instance_dicts.specs.declared.forms.InstanceDict.TheVariants.{Dict}
use Rattle.instance_dicts.specs.Attributes.{dict_attributes_at}
use Rattle.task_sets.specs.declared.places.RootPlaces.{RootPlaces}
use Rattle.task_sets.specs.declared.roots.Roots.{Roots}
use Rattle.task_sets.specs.declared.sets.SetKind.TheVariants.{Plain, Weak}
use Rattle.task_sets.specs.declared.tables.Tables.{Tables}
use Rattle.task_sets.specs.Gathered.{gathered}
use Rattle.task_sets.specs.Once.{firsts}
use Rattle.task_sets.specs.Sets.{object_at}
use Rattle.task_sets.specs.Tables.{tables_at}

-- the value of an attribute
abbrev pub value_of : Attribute → ℕ
value_of a = a.value

-- the values of a dict, where there is one
unfoldable pub values_at : Layout → RootPlaces → Memory → Option ℕ → Found (List ℕ)
values_at l p m None = Ok []
values_at l p m (Some a) = do
  told ← dict_attributes_at l m p.form (Dict a) 65536
  Ok (map value_of told.list)

-- all of them, each once, in the order of first mention
abbrev pub joined : List ℕ → List ℕ → List ℕ → List ℕ → List ℕ
joined all scheduled eager current = firsts [] (((all ++ scheduled) ++ eager) ++ current)

-- by the entries of the sets and the dict of running tasks
unfoldable pub members_at : Layout → RootPlaces → Memory → Tables → Option ℕ → Found (List ℕ)
members_at l p m t running = do
  all ← gathered (object_at p.sets Weak m t.all.table) t.all.count 0
  scheduled ← gathered (object_at p.sets Weak m t.scheduled.table) t.scheduled.count 0
  eager ← gathered (object_at p.sets Plain m t.eager.table) t.eager.count 0
  current ← values_at l p m running
  Ok (joined all scheduled eager current)

-- the objects that are registered, in the order of first mention
unfoldable pub registered_at : Layout → RootPlaces → Memory → Roots → Found (List ℕ)
registered_at l p m r = do
  tables ← tables_at l p m r
  members_at l p m tables r.current
