-- What sound tables have of a version is sound.
use Rattle.std.proofs.Common.{Bool, true, false, List, [], ◌∷◌, Option, Some, None, cond}
use Rattle.std.specs.Prelude.{All, IfSome}
use Rattle.std.proofs.lemmas.List.Elements.{All-head, All-tail}
use Rattle.std.specs.Option.{option_or}
use Rattle.py_records.specs.Records.{AreSoundRecords}
use Rattle.py_records.specs.Table.{covers, IsSoundTable}
use Rattle.py_records.specs.Versions.{group_of, records_of, types_of, containers_of, scalars_of, callables_of}
use Rattle.py_records.specs.Versions.{frames_of, stacks_of, coroutines_of, tasks_of, locks_of, exceptions_of, heap_of}
use Rattle.py_records.specs.Types.{AreSoundTypes, IsSoundKlass, IsSoundHeapType, IsSoundSlots, IsSoundMember}
use Rattle.py_records.specs.Types.{IsSoundInstanceSplit, IsSoundInstanceTagged, IsSoundInstanceInline, IsSoundValues}
use Rattle.py_records.specs.Types.{IsSoundValuesBefore}
use Rattle.py_records.specs.Containers.{AreSoundContainers, IsSoundSet, IsSoundSetEntry, IsSoundList, IsSoundDict}
use Rattle.py_records.specs.Containers.{IsSoundKeys, IsSoundKeysLog2, IsSoundOrderedDict, IsSoundOrderedNode}
use Rattle.py_records.specs.Containers.{IsSoundDefaultDict, IsSoundDeque, IsSoundDequeBlock}
use Rattle.py_records.specs.Scalars.{AreSoundScalars, IsSoundBytearray, IsSoundComplex, IsSoundRange, IsSoundSlice}
use Rattle.py_records.specs.Scalars.{IsSoundDecimal, IsSoundDate, IsSoundTime, IsSoundDatetime, IsSoundTimedelta}
use Rattle.py_records.specs.Callables.{AreSoundCallables, IsSoundPartial, IsSoundModuleObject, IsSoundFunction}
use Rattle.py_records.specs.Callables.{IsSoundMethod, IsSoundBuiltin, IsSoundMethodDef, IsSoundCell, IsSoundWeakref}
use Rattle.py_records.specs.Frames.{AreSoundFrames, IsSoundCode, IsSoundCodeNames, IsSoundCodeKinds}
use Rattle.py_records.specs.Frames.{IsSoundFrameObject, IsSoundOwner, IsSoundShim, IsSoundEntry, IsSoundCframe}
use Rattle.py_records.specs.Frames.{IsSoundTraceback}
use Rattle.py_records.specs.Stacks.{AreSoundStacks, IsSoundStackPointer, IsSoundStackDepth, IsSoundStackCount}
use Rattle.py_records.specs.Stacks.{IsSoundStates, IsSoundAwaitingState, IsSoundYieldFrom, IsSoundResume}
use Rattle.py_records.specs.Coroutines.{AreSoundCoroutines, IsSoundGenerator, IsSoundGeneratorFrame}
use Rattle.py_records.specs.Coroutines.{IsSoundGeneratorRunning, IsSoundGeneratorInside, IsSoundGeneratorHandled}
use Rattle.py_records.specs.Coroutines.{IsSoundHeld}
use Rattle.py_records.specs.Tasks.{AreSoundTasks, IsSoundFuture, IsSoundTask, IsSoundTaskName, IsSoundCarrier}
use Rattle.py_records.specs.Tasks.{IsSoundHandle, IsSoundTimerHandle}
use Rattle.py_records.specs.Locks.{AreSoundLocks, IsSoundLock, IsSoundLockMutex, IsSoundRlock, IsSoundSimpleQueue}
use Rattle.py_records.specs.Locks.{IsSoundSimpleQueueParked, IsSoundRuntimeLock, IsSoundInterpreterLock}
use Rattle.py_records.specs.Exceptions.{AreSoundExceptions, IsSoundException, IsSoundOsError, IsSoundSyntaxError}
use Rattle.py_records.specs.Exceptions.{IsSoundUnicodeError, IsSoundImportError, IsSoundExceptionGroup, IsSoundItem}
use Rattle.py_records.specs.Exceptions.{IsSoundItemParts, IsSoundRaisedParts, IsSoundRaised, IsSoundHandled}
use Rattle.py_records.specs.Heap.{AreSoundHeap, IsSoundInterpreter, IsSoundCollector, IsSoundGeneration}
use Rattle.py_records.specs.Heap.{IsSoundGcHead, IsSoundArena, IsSoundPool, IsSoundArenasInside, IsSoundArenasBehind}
use Rattle.py_records.specs.declared.records.Records.{Records}
use Rattle.py_records.specs.declared.table.RecordTable.{RecordTable}
use Rattle.py_fields.specs.declared.version.Version.{Version}

of_both : {G : Type 0} (P : G → Type 0) (b : Bool) (one other : Option G) → IfSome one P → IfSome other P
    → IfSome (option_or (cond b one None) other) P
of_both P true None other h g = g
of_both P true (Some x) other h g = h
of_both P false one other h g = g

-- a group that is sound in each table is sound
group_sound : {G : Type 0} (P : G → Type 0) (field : Records → Option G) (ts : List RecordTable) (v : Version)
    → ((t : RecordTable) → IsSoundTable t → IfSome (field t.records) P) → All IsSoundTable ts
    → IfSome (group_of field ts v) P
group_sound P field [] v each all = tt
group_sound P field (t ∷ ts) v each all =
    of_both P (covers t v) (field t.records) (group_of field ts v) (each t (All-head IsSoundTable t ts all))
    (group_sound P field ts v each (All-tail IsSoundTable t ts all))

types_sound : (ts : List RecordTable) (v : Version) → All IsSoundTable ts → AreSoundTypes (types_of ts v)
unfolding types_of
types_sound ts v all = record {
  klass = group_sound IsSoundKlass (λ r. r.types.klass) ts v (λ t s. s.records.types.klass) all;
  heap_type = group_sound IsSoundHeapType (λ r. r.types.heap_type) ts v (λ t s. s.records.types.heap_type) all;
  slots = group_sound IsSoundSlots (λ r. r.types.slots) ts v (λ t s. s.records.types.slots) all;
  member = group_sound IsSoundMember (λ r. r.types.member) ts v (λ t s. s.records.types.member) all;
  instance_split = group_sound IsSoundInstanceSplit (λ r. r.types.instance_split) ts v
      (λ t s. s.records.types.instance_split) all;
  instance_tagged = group_sound IsSoundInstanceTagged (λ r. r.types.instance_tagged) ts v
      (λ t s. s.records.types.instance_tagged) all;
  instance_inline = group_sound IsSoundInstanceInline (λ r. r.types.instance_inline) ts v
      (λ t s. s.records.types.instance_inline) all;
  values = group_sound IsSoundValues (λ r. r.types.values) ts v (λ t s. s.records.types.values) all;
  values_before = group_sound IsSoundValuesBefore (λ r. r.types.values_before) ts v
      (λ t s. s.records.types.values_before) all;
}

containers_sound : (ts : List RecordTable) (v : Version) → All IsSoundTable ts → AreSoundContainers (containers_of ts v)
unfolding containers_of
containers_sound ts v all = record {
  set = group_sound IsSoundSet (λ r. r.containers.set) ts v (λ t s. s.records.containers.set) all;
  set_entry = group_sound IsSoundSetEntry (λ r. r.containers.set_entry) ts v (λ t s. s.records.containers.set_entry)
      all;
  list = group_sound IsSoundList (λ r. r.containers.list) ts v (λ t s. s.records.containers.list) all;
  dict = group_sound IsSoundDict (λ r. r.containers.dict) ts v (λ t s. s.records.containers.dict) all;
  keys = group_sound IsSoundKeys (λ r. r.containers.keys) ts v (λ t s. s.records.containers.keys) all;
  keys_log2 = group_sound IsSoundKeysLog2 (λ r. r.containers.keys_log2) ts v (λ t s. s.records.containers.keys_log2)
      all;
  ordered_dict = group_sound IsSoundOrderedDict (λ r. r.containers.ordered_dict) ts v
      (λ t s. s.records.containers.ordered_dict) all;
  ordered_node = group_sound IsSoundOrderedNode (λ r. r.containers.ordered_node) ts v
      (λ t s. s.records.containers.ordered_node) all;
  default_dict = group_sound IsSoundDefaultDict (λ r. r.containers.default_dict) ts v
      (λ t s. s.records.containers.default_dict) all;
  deque = group_sound IsSoundDeque (λ r. r.containers.deque) ts v (λ t s. s.records.containers.deque) all;
  deque_block = group_sound IsSoundDequeBlock (λ r. r.containers.deque_block) ts v
      (λ t s. s.records.containers.deque_block) all;
}

scalars_sound : (ts : List RecordTable) (v : Version) → All IsSoundTable ts → AreSoundScalars (scalars_of ts v)
unfolding scalars_of
scalars_sound ts v all = record {
  bytearray = group_sound IsSoundBytearray (λ r. r.scalars.bytearray) ts v (λ t s. s.records.scalars.bytearray) all;
  complex = group_sound IsSoundComplex (λ r. r.scalars.complex) ts v (λ t s. s.records.scalars.complex) all;
  range = group_sound IsSoundRange (λ r. r.scalars.range) ts v (λ t s. s.records.scalars.range) all;
  slice = group_sound IsSoundSlice (λ r. r.scalars.slice) ts v (λ t s. s.records.scalars.slice) all;
  decimal = group_sound IsSoundDecimal (λ r. r.scalars.decimal) ts v (λ t s. s.records.scalars.decimal) all;
  date = group_sound IsSoundDate (λ r. r.scalars.date) ts v (λ t s. s.records.scalars.date) all;
  time = group_sound IsSoundTime (λ r. r.scalars.time) ts v (λ t s. s.records.scalars.time) all;
  datetime = group_sound IsSoundDatetime (λ r. r.scalars.datetime) ts v (λ t s. s.records.scalars.datetime) all;
  timedelta = group_sound IsSoundTimedelta (λ r. r.scalars.timedelta) ts v (λ t s. s.records.scalars.timedelta) all;
}

callables_sound : (ts : List RecordTable) (v : Version) → All IsSoundTable ts → AreSoundCallables (callables_of ts v)
unfolding callables_of
callables_sound ts v all = record {
  partial = group_sound IsSoundPartial (λ r. r.callables.partial) ts v (λ t s. s.records.callables.partial) all;
  module_object = group_sound IsSoundModuleObject (λ r. r.callables.module_object) ts v
      (λ t s. s.records.callables.module_object) all;
  function = group_sound IsSoundFunction (λ r. r.callables.function) ts v (λ t s. s.records.callables.function) all;
  method = group_sound IsSoundMethod (λ r. r.callables.method) ts v (λ t s. s.records.callables.method) all;
  builtin = group_sound IsSoundBuiltin (λ r. r.callables.builtin) ts v (λ t s. s.records.callables.builtin) all;
  method_def = group_sound IsSoundMethodDef (λ r. r.callables.method_def) ts v (λ t s. s.records.callables.method_def)
      all;
  cell = group_sound IsSoundCell (λ r. r.callables.cell) ts v (λ t s. s.records.callables.cell) all;
  weakref = group_sound IsSoundWeakref (λ r. r.callables.weakref) ts v (λ t s. s.records.callables.weakref) all;
}

frames_sound : (ts : List RecordTable) (v : Version) → All IsSoundTable ts → AreSoundFrames (frames_of ts v)
unfolding frames_of
frames_sound ts v all = record {
  code = group_sound IsSoundCode (λ r. r.frames.code) ts v (λ t s. s.records.frames.code) all;
  code_names = group_sound IsSoundCodeNames (λ r. r.frames.code_names) ts v (λ t s. s.records.frames.code_names) all;
  code_kinds = group_sound IsSoundCodeKinds (λ r. r.frames.code_kinds) ts v (λ t s. s.records.frames.code_kinds) all;
  frame_object = group_sound IsSoundFrameObject (λ r. r.frames.frame_object) ts v
      (λ t s. s.records.frames.frame_object) all;
  owner = group_sound IsSoundOwner (λ r. r.frames.owner) ts v (λ t s. s.records.frames.owner) all;
  shim = group_sound IsSoundShim (λ r. r.frames.shim) ts v (λ t s. s.records.frames.shim) all;
  entry = group_sound IsSoundEntry (λ r. r.frames.entry) ts v (λ t s. s.records.frames.entry) all;
  cframe = group_sound IsSoundCframe (λ r. r.frames.cframe) ts v (λ t s. s.records.frames.cframe) all;
  traceback = group_sound IsSoundTraceback (λ r. r.frames.traceback) ts v (λ t s. s.records.frames.traceback) all;
}

stacks_sound : (ts : List RecordTable) (v : Version) → All IsSoundTable ts → AreSoundStacks (stacks_of ts v)
unfolding stacks_of
stacks_sound ts v all = record {
  stack_pointer = group_sound IsSoundStackPointer (λ r. r.stacks.stack_pointer) ts v
      (λ t s. s.records.stacks.stack_pointer) all;
  stack_depth = group_sound IsSoundStackDepth (λ r. r.stacks.stack_depth) ts v (λ t s. s.records.stacks.stack_depth)
      all;
  stack_count = group_sound IsSoundStackCount (λ r. r.stacks.stack_count) ts v (λ t s. s.records.stacks.stack_count)
      all;
  states = group_sound IsSoundStates (λ r. r.stacks.states) ts v (λ t s. s.records.stacks.states) all;
  awaiting_state = group_sound IsSoundAwaitingState (λ r. r.stacks.awaiting_state) ts v
      (λ t s. s.records.stacks.awaiting_state) all;
  yield_from = group_sound IsSoundYieldFrom (λ r. r.stacks.yield_from) ts v (λ t s. s.records.stacks.yield_from) all;
  resume = group_sound IsSoundResume (λ r. r.stacks.resume) ts v (λ t s. s.records.stacks.resume) all;
}

coroutines_sound : (ts : List RecordTable) (v : Version) → All IsSoundTable ts → AreSoundCoroutines (coroutines_of ts v)
unfolding coroutines_of
coroutines_sound ts v all = record {
  generator = group_sound IsSoundGenerator (λ r. r.coroutines.generator) ts v (λ t s. s.records.coroutines.generator)
      all;
  coroutine = group_sound IsSoundGenerator (λ r. r.coroutines.coroutine) ts v (λ t s. s.records.coroutines.coroutine)
      all;
  async_generator = group_sound IsSoundGenerator (λ r. r.coroutines.async_generator) ts v
      (λ t s. s.records.coroutines.async_generator) all;
  generator_frame = group_sound IsSoundGeneratorFrame (λ r. r.coroutines.generator_frame) ts v
      (λ t s. s.records.coroutines.generator_frame) all;
  generator_running = group_sound IsSoundGeneratorRunning (λ r. r.coroutines.generator_running) ts v
      (λ t s. s.records.coroutines.generator_running) all;
  generator_inside = group_sound IsSoundGeneratorInside (λ r. r.coroutines.generator_inside) ts v
      (λ t s. s.records.coroutines.generator_inside) all;
  generator_handled = group_sound IsSoundGeneratorHandled (λ r. r.coroutines.generator_handled) ts v
      (λ t s. s.records.coroutines.generator_handled) all;
  coroutine_wrapper = group_sound IsSoundHeld (λ r. r.coroutines.coroutine_wrapper) ts v
      (λ t s. s.records.coroutines.coroutine_wrapper) all;
  asend = group_sound IsSoundHeld (λ r. r.coroutines.asend) ts v (λ t s. s.records.coroutines.asend) all;
  athrow = group_sound IsSoundHeld (λ r. r.coroutines.athrow) ts v (λ t s. s.records.coroutines.athrow) all;
  anext_awaitable = group_sound IsSoundHeld (λ r. r.coroutines.anext_awaitable) ts v
      (λ t s. s.records.coroutines.anext_awaitable) all;
}

tasks_sound : (ts : List RecordTable) (v : Version) → All IsSoundTable ts → AreSoundTasks (tasks_of ts v)
unfolding tasks_of
tasks_sound ts v all = record {
  future = group_sound IsSoundFuture (λ r. r.tasks.future) ts v (λ t s. s.records.tasks.future) all;
  task = group_sound IsSoundTask (λ r. r.tasks.task) ts v (λ t s. s.records.tasks.task) all;
  task_name = group_sound IsSoundTaskName (λ r. r.tasks.task_name) ts v (λ t s. s.records.tasks.task_name) all;
  future_iter = group_sound IsSoundCarrier (λ r. r.tasks.future_iter) ts v (λ t s. s.records.tasks.future_iter) all;
  task_step = group_sound IsSoundCarrier (λ r. r.tasks.task_step) ts v (λ t s. s.records.tasks.task_step) all;
  task_wakeup = group_sound IsSoundCarrier (λ r. r.tasks.task_wakeup) ts v (λ t s. s.records.tasks.task_wakeup) all;
  handle = group_sound IsSoundHandle (λ r. r.tasks.handle) ts v (λ t s. s.records.tasks.handle) all;
  timer_handle = group_sound IsSoundTimerHandle (λ r. r.tasks.timer_handle) ts v (λ t s. s.records.tasks.timer_handle)
      all;
}

locks_sound : (ts : List RecordTable) (v : Version) → All IsSoundTable ts → AreSoundLocks (locks_of ts v)
unfolding locks_of
locks_sound ts v all = record {
  lock = group_sound IsSoundLock (λ r. r.locks.lock) ts v (λ t s. s.records.locks.lock) all;
  lock_mutex = group_sound IsSoundLockMutex (λ r. r.locks.lock_mutex) ts v (λ t s. s.records.locks.lock_mutex) all;
  rlock = group_sound IsSoundRlock (λ r. r.locks.rlock) ts v (λ t s. s.records.locks.rlock) all;
  simple_queue = group_sound IsSoundSimpleQueue (λ r. r.locks.simple_queue) ts v (λ t s. s.records.locks.simple_queue)
      all;
  simple_queue_parked = group_sound IsSoundSimpleQueueParked (λ r. r.locks.simple_queue_parked) ts v
      (λ t s. s.records.locks.simple_queue_parked) all;
  runtime_lock = group_sound IsSoundRuntimeLock (λ r. r.locks.runtime_lock) ts v (λ t s. s.records.locks.runtime_lock)
      all;
  interpreter_lock = group_sound IsSoundInterpreterLock (λ r. r.locks.interpreter_lock) ts v
      (λ t s. s.records.locks.interpreter_lock) all;
}

exceptions_sound : (ts : List RecordTable) (v : Version) → All IsSoundTable ts → AreSoundExceptions (exceptions_of ts v)
unfolding exceptions_of
exceptions_sound ts v all = record {
  exception = group_sound IsSoundException (λ r. r.exceptions.exception) ts v (λ t s. s.records.exceptions.exception)
      all;
  os_error = group_sound IsSoundOsError (λ r. r.exceptions.os_error) ts v (λ t s. s.records.exceptions.os_error) all;
  syntax_error = group_sound IsSoundSyntaxError (λ r. r.exceptions.syntax_error) ts v
      (λ t s. s.records.exceptions.syntax_error) all;
  unicode_error = group_sound IsSoundUnicodeError (λ r. r.exceptions.unicode_error) ts v
      (λ t s. s.records.exceptions.unicode_error) all;
  import_error = group_sound IsSoundImportError (λ r. r.exceptions.import_error) ts v
      (λ t s. s.records.exceptions.import_error) all;
  exception_group = group_sound IsSoundExceptionGroup (λ r. r.exceptions.exception_group) ts v
      (λ t s. s.records.exceptions.exception_group) all;
  item = group_sound IsSoundItem (λ r. r.exceptions.item) ts v (λ t s. s.records.exceptions.item) all;
  item_parts = group_sound IsSoundItemParts (λ r. r.exceptions.item_parts) ts v
      (λ t s. s.records.exceptions.item_parts) all;
  raised_parts = group_sound IsSoundRaisedParts (λ r. r.exceptions.raised_parts) ts v
      (λ t s. s.records.exceptions.raised_parts) all;
  raised = group_sound IsSoundRaised (λ r. r.exceptions.raised) ts v (λ t s. s.records.exceptions.raised) all;
  handled = group_sound IsSoundHandled (λ r. r.exceptions.handled) ts v (λ t s. s.records.exceptions.handled) all;
}

heap_sound : (ts : List RecordTable) (v : Version) → All IsSoundTable ts → AreSoundHeap (heap_of ts v)
unfolding heap_of
heap_sound ts v all = record {
  interpreter = group_sound IsSoundInterpreter (λ r. r.heap.interpreter) ts v (λ t s. s.records.heap.interpreter) all;
  runtime_collector = group_sound IsSoundCollector (λ r. r.heap.runtime_collector) ts v
      (λ t s. s.records.heap.runtime_collector) all;
  collector = group_sound IsSoundCollector (λ r. r.heap.collector) ts v (λ t s. s.records.heap.collector) all;
  generation = group_sound IsSoundGeneration (λ r. r.heap.generation) ts v (λ t s. s.records.heap.generation) all;
  gc_head = group_sound IsSoundGcHead (λ r. r.heap.gc_head) ts v (λ t s. s.records.heap.gc_head) all;
  arena = group_sound IsSoundArena (λ r. r.heap.arena) ts v (λ t s. s.records.heap.arena) all;
  pool = group_sound IsSoundPool (λ r. r.heap.pool) ts v (λ t s. s.records.heap.pool) all;
  arenas_inside = group_sound IsSoundArenasInside (λ r. r.heap.arenas_inside) ts v
      (λ t s. s.records.heap.arenas_inside) all;
  arenas_behind = group_sound IsSoundArenasBehind (λ r. r.heap.arenas_behind) ts v
      (λ t s. s.records.heap.arenas_behind) all;
}

pub records_sound : (ts : List RecordTable) (v : Version) → All IsSoundTable ts → AreSoundRecords (records_of ts v)
unfolding records_of
records_sound ts v all = record {
  types = types_sound ts v all;
  containers = containers_sound ts v all;
  scalars = scalars_sound ts v all;
  callables = callables_sound ts v all;
  frames = frames_sound ts v all;
  stacks = stacks_sound ts v all;
  coroutines = coroutines_sound ts v all;
  tasks = tasks_sound ts v all;
  locks = locks_sound ts v all;
  exceptions = exceptions_sound ts v all;
  heap = heap_sound ts v all;
}
