-- The types by which tasks, futures and coroutines are told: those that the modules `types` (Lib/types.py) and
-- `_asyncio` have, where their objects have the size that the records tell.
use Rattle.std.specs.Prelude.{ℕ, Option, Some, None, List, codes, Ok}
use Rattle.process_memory.specs.Memory.{Memory, Found, ◌>>=◌}
use Rattle.py_fields.specs.declared.layout.Layout.{Layout}
use Rattle.py_coroutines.specs.declared.places.AwaitTypes.{AwaitTypes}
use Rattle.py_records.specs.declared.coroutines.GeneratorRecord.{GeneratorRecord}
use Rattle.py_records.specs.declared.records.Records.{Records}
use Rattle.py_records.specs.declared.tasks.FutureRecord.{FutureRecord}
use Rattle.type_places.specs.declared.classes.TypeFields.{TypeFields}
use Rattle.type_places.specs.declared.places.TypePlace.{TypePlace}
use Rattle.type_places.specs.ModuleTypes.{module_type_at}
use Rattle.py_tasks.specs.declared.types.Sizes.{Sizes}

-- the address of a type; 0 where it wasn't found
abbrev pub address_or : Option TypePlace → ℕ
address_or None = 0
address_or (Some place) = place.address

-- the address of a type that a module has under a name; 0 where its size isn't described or it wasn't found
unfoldable pub type_at : Layout → TypeFields → Memory → ℕ → List ℕ → List ℕ → Option ℕ → Found ℕ
type_at l f m modules holder name None = Ok 0
type_at l f m modules holder name (Some size) = do
  place ← module_type_at l f m modules holder name size
  Ok (address_or place)

-- the types of coroutines, generators, async generators, futures and tasks
abbrev pub types_with : ℕ → ℕ → ℕ → ℕ → ℕ → AwaitTypes
types_with coroutine generator async_generator future task = record {
  coroutine = coroutine;
  generator = generator;
  async_generator = async_generator;
  future = future;
  task = task;
}

-- how many bytes a coroutine or generator has, where that is described (`PyGenObject`)
abbrev pub size_of : Option GeneratorRecord → Option ℕ
size_of None = None
size_of (Some r) = Some r.size

-- how many bytes a future has, where that is described (`FutureObj`)
abbrev pub future_size_of : Option FutureRecord → Option ℕ
future_size_of None = None
future_size_of (Some r) = Some r.size

-- how many bytes coroutines, generators and futures have by the records of a version
abbrev pub sizes_of : Records → Sizes
sizes_of r = record {
  coroutine = size_of r.coroutines.coroutine;
  generator = size_of r.coroutines.generator;
  async_generator = size_of r.coroutines.async_generator;
  future = future_size_of r.tasks.future;
}

-- the types that the modules `types` and `_asyncio` have, with the given type of tasks
unfoldable pub types_at : Layout → TypeFields → Memory → Sizes → ℕ → ℕ → Found AwaitTypes
types_at l f m s modules task = do
  coroutine ← type_at l f m modules (codes "types") (codes "CoroutineType") s.coroutine
  generator ← type_at l f m modules (codes "types") (codes "GeneratorType") s.generator
  async_generator ← type_at l f m modules (codes "types") (codes "AsyncGeneratorType") s.async_generator
  future ← type_at l f m modules (codes "_asyncio") (codes "Future") s.future
  Ok (types_with coroutine generator async_generator future task)
