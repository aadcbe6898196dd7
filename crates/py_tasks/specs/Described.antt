-- Where the parts of tasks stand, by the records of a version: CPython's `FutureObj` and `TaskObj`
-- (Modules/_asynciomodule.c), and `PyTypeObject`.
use Rattle.std.specs.Prelude.{ℕ, Option, Some, None}
use Rattle.py_records.specs.declared.records.Records.{Records}
use Rattle.py_records.specs.declared.types.KlassRecord.{KlassRecord}
use Rattle.py_records.specs.declared.tasks.FutureRecord.{FutureRecord}
use Rattle.py_records.specs.declared.tasks.TaskRecord.{TaskRecord}
use Rattle.py_records.specs.declared.tasks.TaskNameRecord.{TaskNameRecord}
use Rattle.py_tasks.specs.declared.described.TaskPlaces.{TaskPlaces}

-- where a task names its name (`task_name`), in bytes; none where that isn't described
abbrev pub name_of : Option TaskNameRecord → Option ℕ
name_of None = None
name_of (Some r) = Some r.name

-- where the parts of tasks stand, by the records of types, of futures and of tasks
abbrev pub places_with : KlassRecord → FutureRecord → TaskRecord → Option ℕ → TaskPlaces
places_with k f t name = record {
  size = t.size;
  future_size = f.size;
  state = f.state;
  event_loop = f.event_loop;
  waiter = t.waiter;
  coro = t.coro;
  cancel = t.cancel;
  cancel_bit = t.cancel_bit;
  name = name;
  base = k.base;
  basic_size = k.basicsize;
}

-- the same, where all three records are described
abbrev pub places_by : Option KlassRecord → Option FutureRecord → Option TaskRecord → Option ℕ → Option TaskPlaces
places_by (Some k) (Some f) (Some t) name = Some (places_with k f t name)
places_by _ _ _ name = None

-- where the parts of tasks stand by the records of a version; none where these lack something
abbrev pub task_places_of : Records → Option TaskPlaces
task_places_of r = places_by r.types.klass r.tasks.future r.tasks.task (name_of r.tasks.task_name)
