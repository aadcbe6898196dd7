-- Records of all kinds.
use Rattle.std.specs.Prelude.{◌||◌, Bool}
use Rattle.toml.specs.Data.{Members}
use Rattle.py_records.specs.Types.{AreSoundTypes, types_from, no_types, joined_types, share_types}
use Rattle.py_records.specs.Containers.{AreSoundContainers, containers_from, no_containers, joined_containers}
use Rattle.py_records.specs.Containers.{share_containers}
use Rattle.py_records.specs.Scalars.{AreSoundScalars, scalars_from, no_scalars, joined_scalars, share_scalars}
use Rattle.py_records.specs.Callables.{AreSoundCallables, callables_from, no_callables, joined_callables}
use Rattle.py_records.specs.Callables.{share_callables}
use Rattle.py_records.specs.Frames.{AreSoundFrames, frames_from, no_frames, joined_frames, share_frames}
use Rattle.py_records.specs.Stacks.{AreSoundStacks, stacks_from, no_stacks, joined_stacks, share_stacks}
use Rattle.py_records.specs.Coroutines.{AreSoundCoroutines, coroutines_from, no_coroutines, joined_coroutines}
use Rattle.py_records.specs.Coroutines.{share_coroutines}
use Rattle.py_records.specs.Tasks.{AreSoundTasks, tasks_from, no_tasks, joined_tasks, share_tasks}
use Rattle.py_records.specs.Locks.{AreSoundLocks, locks_from, no_locks, joined_locks, share_locks}
use Rattle.py_records.specs.Exceptions.{AreSoundExceptions, exceptions_from, no_exceptions, joined_exceptions}
use Rattle.py_records.specs.Exceptions.{share_exceptions}
use Rattle.py_records.specs.Heap.{AreSoundHeap, heap_from, no_heap, joined_heap, share_heap}
use Rattle.py_records.specs.declared.records.Records.{Records}

-- each group of a table that is there is sound
pub record AreSoundRecords (r : Records) : Type 0 where
  pub types : AreSoundTypes r.types
  pub containers : AreSoundContainers r.containers
  pub scalars : AreSoundScalars r.scalars
  pub callables : AreSoundCallables r.callables
  pub frames : AreSoundFrames r.frames
  pub stacks : AreSoundStacks r.stacks
  pub coroutines : AreSoundCoroutines r.coroutines
  pub tasks : AreSoundTasks r.tasks
  pub locks : AreSoundLocks r.locks
  pub exceptions : AreSoundExceptions r.exceptions
  pub heap : AreSoundHeap r.heap

-- all groups that a table has, by kind
unfoldable pub records_from : Members → Records
records_from ms = record {
  types = types_from ms;
  containers = containers_from ms;
  scalars = scalars_from ms;
  callables = callables_from ms;
  frames = frames_from ms;
  stacks = stacks_from ms;
  coroutines = coroutines_from ms;
  tasks = tasks_from ms;
  locks = locks_from ms;
  exceptions = exceptions_from ms;
  heap = heap_from ms;
}

-- no group is there
abbrev pub no_records : Records
no_records = record {
  types = no_types;
  containers = no_containers;
  scalars = no_scalars;
  callables = no_callables;
  frames = no_frames;
  stacks = no_stacks;
  coroutines = no_coroutines;
  tasks = no_tasks;
  locks = no_locks;
  exceptions = no_exceptions;
  heap = no_heap;
}

-- each group of the first that is there, and else of the second
unfoldable pub joined : Records → Records → Records
joined a b = record {
  types = joined_types a.types b.types;
  containers = joined_containers a.containers b.containers;
  scalars = joined_scalars a.scalars b.scalars;
  callables = joined_callables a.callables b.callables;
  frames = joined_frames a.frames b.frames;
  stacks = joined_stacks a.stacks b.stacks;
  coroutines = joined_coroutines a.coroutines b.coroutines;
  tasks = joined_tasks a.tasks b.tasks;
  locks = joined_locks a.locks b.locks;
  exceptions = joined_exceptions a.exceptions b.exceptions;
  heap = joined_heap a.heap b.heap;
}

-- whether a group is there in both
unfoldable pub share_group : Records → Records → Bool
share_group a b = share_types a.types b.types || (share_containers a.containers b.containers
    || (share_scalars a.scalars b.scalars || (share_callables a.callables b.callables
    || (share_frames a.frames b.frames || (share_stacks a.stacks b.stacks
    || (share_coroutines a.coroutines b.coroutines || (share_tasks a.tasks b.tasks || (share_locks a.locks b.locks
    || (share_exceptions a.exceptions b.exceptions || (share_heap a.heap b.heap))))))))))
