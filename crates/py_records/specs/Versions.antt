-- The records of a version: each group as the table has it that covers the version and has the group.
use Rattle.std.specs.Prelude.{List, [], ◌∷◌, Option, None, cond}
use Rattle.std.specs.Option.{option_or}
use Rattle.py_records.specs.Table.{covers}
use Rattle.py_records.specs.declared.types.TypeRecords.{TypeRecords}
use Rattle.py_records.specs.declared.containers.ContainerRecords.{ContainerRecords}
use Rattle.py_records.specs.declared.scalars.ScalarRecords.{ScalarRecords}
use Rattle.py_records.specs.declared.callables.CallableRecords.{CallableRecords}
use Rattle.py_records.specs.declared.frames.FrameRecords.{FrameRecords}
use Rattle.py_records.specs.declared.stacks.StackRecords.{StackRecords}
use Rattle.py_records.specs.declared.coroutines.CoroutineRecords.{CoroutineRecords}
use Rattle.py_records.specs.declared.tasks.TaskRecords.{TaskRecords}
use Rattle.py_records.specs.declared.locks.LockRecords.{LockRecords}
use Rattle.py_records.specs.declared.exceptions.ExceptionRecords.{ExceptionRecords}
use Rattle.py_records.specs.declared.heap.HeapRecords.{HeapRecords}
use Rattle.py_records.specs.declared.records.Records.{Records}
use Rattle.py_records.specs.declared.table.RecordTable.{RecordTable}
use Rattle.py_fields.specs.declared.version.Version.{Version}

-- a group, by the first table that covers the version and has it
abbrev pub group_of : {G : Type 0} → (Records → Option G) → List RecordTable → Version → Option G
group_of field [] v = None
group_of field (t ∷ ts) v = option_or (cond (covers t v) (field t.records) None) (group_of field ts v)

-- a version's groups of types and instances' attributes, each from the first of its tables that has it
unfoldable pub types_of : List RecordTable → Version → TypeRecords
types_of ts v = record {
  klass = group_of (λ r. r.types.klass) ts v;
  heap_type = group_of (λ r. r.types.heap_type) ts v;
  slots = group_of (λ r. r.types.slots) ts v;
  member = group_of (λ r. r.types.member) ts v;
  instance_split = group_of (λ r. r.types.instance_split) ts v;
  instance_tagged = group_of (λ r. r.types.instance_tagged) ts v;
  instance_inline = group_of (λ r. r.types.instance_inline) ts v;
  values = group_of (λ r. r.types.values) ts v;
  values_before = group_of (λ r. r.types.values_before) ts v;
}

-- a version's groups of sets, lists, dicts and deques, each from the first of its tables that has it
unfoldable pub containers_of : List RecordTable → Version → ContainerRecords
containers_of ts v = record {
  set = group_of (λ r. r.containers.set) ts v;
  set_entry = group_of (λ r. r.containers.set_entry) ts v;
  list = group_of (λ r. r.containers.list) ts v;
  dict = group_of (λ r. r.containers.dict) ts v;
  keys = group_of (λ r. r.containers.keys) ts v;
  keys_log2 = group_of (λ r. r.containers.keys_log2) ts v;
  ordered_dict = group_of (λ r. r.containers.ordered_dict) ts v;
  ordered_node = group_of (λ r. r.containers.ordered_node) ts v;
  default_dict = group_of (λ r. r.containers.default_dict) ts v;
  deque = group_of (λ r. r.containers.deque) ts v;
  deque_block = group_of (λ r. r.containers.deque_block) ts v;
}

-- a version's groups of numbers, bytes, ranges, dates and times, each from the first of its tables that has it
unfoldable pub scalars_of : List RecordTable → Version → ScalarRecords
scalars_of ts v = record {
  bytearray = group_of (λ r. r.scalars.bytearray) ts v;
  complex = group_of (λ r. r.scalars.complex) ts v;
  range = group_of (λ r. r.scalars.range) ts v;
  slice = group_of (λ r. r.scalars.slice) ts v;
  decimal = group_of (λ r. r.scalars.decimal) ts v;
  date = group_of (λ r. r.scalars.date) ts v;
  time = group_of (λ r. r.scalars.time) ts v;
  datetime = group_of (λ r. r.scalars.datetime) ts v;
  timedelta = group_of (λ r. r.scalars.timedelta) ts v;
}

-- a version's groups of functions, methods, modules and the like, each from the first of its tables that has it
unfoldable pub callables_of : List RecordTable → Version → CallableRecords
callables_of ts v = record {
  partial = group_of (λ r. r.callables.partial) ts v;
  module_object = group_of (λ r. r.callables.module_object) ts v;
  function = group_of (λ r. r.callables.function) ts v;
  method = group_of (λ r. r.callables.method) ts v;
  builtin = group_of (λ r. r.callables.builtin) ts v;
  method_def = group_of (λ r. r.callables.method_def) ts v;
  cell = group_of (λ r. r.callables.cell) ts v;
  weakref = group_of (λ r. r.callables.weakref) ts v;
}

-- a version's groups of code, frames and tracebacks, each from the first of its tables that has it
unfoldable pub frames_of : List RecordTable → Version → FrameRecords
frames_of ts v = record {
  code = group_of (λ r. r.frames.code) ts v;
  code_names = group_of (λ r. r.frames.code_names) ts v;
  code_kinds = group_of (λ r. r.frames.code_kinds) ts v;
  frame_object = group_of (λ r. r.frames.frame_object) ts v;
  owner = group_of (λ r. r.frames.owner) ts v;
  shim = group_of (λ r. r.frames.shim) ts v;
  entry = group_of (λ r. r.frames.entry) ts v;
  cframe = group_of (λ r. r.frames.cframe) ts v;
  traceback = group_of (λ r. r.frames.traceback) ts v;
}

-- a version's groups of a frame's stack of values and its state, each from the first of its tables that has it
unfoldable pub stacks_of : List RecordTable → Version → StackRecords
stacks_of ts v = record {
  stack_pointer = group_of (λ r. r.stacks.stack_pointer) ts v;
  stack_depth = group_of (λ r. r.stacks.stack_depth) ts v;
  stack_count = group_of (λ r. r.stacks.stack_count) ts v;
  states = group_of (λ r. r.stacks.states) ts v;
  awaiting_state = group_of (λ r. r.stacks.awaiting_state) ts v;
  yield_from = group_of (λ r. r.stacks.yield_from) ts v;
  resume = group_of (λ r. r.stacks.resume) ts v;
}

-- a version's groups of generators, coroutines and their holders, each from the first of its tables that has it
unfoldable pub coroutines_of : List RecordTable → Version → CoroutineRecords
coroutines_of ts v = record {
  generator = group_of (λ r. r.coroutines.generator) ts v;
  coroutine = group_of (λ r. r.coroutines.coroutine) ts v;
  async_generator = group_of (λ r. r.coroutines.async_generator) ts v;
  generator_frame = group_of (λ r. r.coroutines.generator_frame) ts v;
  generator_running = group_of (λ r. r.coroutines.generator_running) ts v;
  generator_inside = group_of (λ r. r.coroutines.generator_inside) ts v;
  generator_handled = group_of (λ r. r.coroutines.generator_handled) ts v;
  coroutine_wrapper = group_of (λ r. r.coroutines.coroutine_wrapper) ts v;
  asend = group_of (λ r. r.coroutines.asend) ts v;
  athrow = group_of (λ r. r.coroutines.athrow) ts v;
  anext_awaitable = group_of (λ r. r.coroutines.anext_awaitable) ts v;
}

-- a version's groups of futures, tasks and handles of asyncio, each from the first of its tables that has it
unfoldable pub tasks_of : List RecordTable → Version → TaskRecords
tasks_of ts v = record {
  future = group_of (λ r. r.tasks.future) ts v;
  task = group_of (λ r. r.tasks.task) ts v;
  task_name = group_of (λ r. r.tasks.task_name) ts v;
  future_iter = group_of (λ r. r.tasks.future_iter) ts v;
  task_step = group_of (λ r. r.tasks.task_step) ts v;
  task_wakeup = group_of (λ r. r.tasks.task_wakeup) ts v;
  handle = group_of (λ r. r.tasks.handle) ts v;
  timer_handle = group_of (λ r. r.tasks.timer_handle) ts v;
}

-- a version's groups of locks, and queues that wait by one, each from the first of its tables that has it
unfoldable pub locks_of : List RecordTable → Version → LockRecords
locks_of ts v = record {
  lock = group_of (λ r. r.locks.lock) ts v;
  lock_mutex = group_of (λ r. r.locks.lock_mutex) ts v;
  rlock = group_of (λ r. r.locks.rlock) ts v;
  simple_queue = group_of (λ r. r.locks.simple_queue) ts v;
  simple_queue_parked = group_of (λ r. r.locks.simple_queue_parked) ts v;
  runtime_lock = group_of (λ r. r.locks.runtime_lock) ts v;
  interpreter_lock = group_of (λ r. r.locks.interpreter_lock) ts v;
}

-- a version's groups of exceptions, and of where threads have them, each from the first of its tables that has it
unfoldable pub exceptions_of : List RecordTable → Version → ExceptionRecords
exceptions_of ts v = record {
  exception = group_of (λ r. r.exceptions.exception) ts v;
  os_error = group_of (λ r. r.exceptions.os_error) ts v;
  syntax_error = group_of (λ r. r.exceptions.syntax_error) ts v;
  unicode_error = group_of (λ r. r.exceptions.unicode_error) ts v;
  import_error = group_of (λ r. r.exceptions.import_error) ts v;
  exception_group = group_of (λ r. r.exceptions.exception_group) ts v;
  item = group_of (λ r. r.exceptions.item) ts v;
  item_parts = group_of (λ r. r.exceptions.item_parts) ts v;
  raised_parts = group_of (λ r. r.exceptions.raised_parts) ts v;
  raised = group_of (λ r. r.exceptions.raised) ts v;
  handled = group_of (λ r. r.exceptions.handled) ts v;
}

-- a version's groups of interpreters, the collector and pymalloc, each from the first of its tables that has it
unfoldable pub heap_of : List RecordTable → Version → HeapRecords
heap_of ts v = record {
  interpreter = group_of (λ r. r.heap.interpreter) ts v;
  runtime_collector = group_of (λ r. r.heap.runtime_collector) ts v;
  collector = group_of (λ r. r.heap.collector) ts v;
  generation = group_of (λ r. r.heap.generation) ts v;
  gc_head = group_of (λ r. r.heap.gc_head) ts v;
  arena = group_of (λ r. r.heap.arena) ts v;
  pool = group_of (λ r. r.heap.pool) ts v;
  arenas_inside = group_of (λ r. r.heap.arenas_inside) ts v;
  arenas_behind = group_of (λ r. r.heap.arenas_behind) ts v;
}

-- all groups of a version, each from the first of its tables that has it
unfoldable pub records_of : List RecordTable → Version → Records
records_of ts v = record {
  types = types_of ts v;
  containers = containers_of ts v;
  scalars = scalars_of ts v;
  callables = callables_of ts v;
  frames = frames_of ts v;
  stacks = stacks_of ts v;
  coroutines = coroutines_of ts v;
  tasks = tasks_of ts v;
  locks = locks_of ts v;
  exceptions = exceptions_of ts v;
  heap = heap_of ts v;
}
