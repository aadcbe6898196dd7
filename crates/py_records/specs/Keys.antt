-- The keys of a table of records in a file, in the order in which they are looked at. This project's own form.
use Rattle.std.specs.Prelude.{ℕ, List, [], ◌∷◌, ◌++◌, Bool, Option, Some, None, is_some, map, option_map, codes}
use Rattle.toml.specs.Data.{Data, as_table}
use Rattle.py_layout.specs.Values.{number_of, is_version}
use Rattle.py_records.specs.declared.keys.Kind.{Kind}
use Rattle.py_records.specs.declared.keys.Kind.TheVariants.{Version, Number, Group}
use Rattle.py_records.specs.declared.keys.Presence.{Presence}
use Rattle.py_records.specs.declared.keys.Presence.TheVariants.{Always, Free}
use Rattle.py_records.specs.declared.keys.Key as code

-- a key: the group that it stands in, or None for the table itself; its name; what it holds; and when it is there
pub record Key : Type 0 where
  pub group : Option (List ℕ)
  pub name : List ℕ
  pub kind : Kind
  pub presence : Presence

-- the key, as the code has it
abbrev pub key_of : code.Key → Key
key_of k = record { group = option_map (λ g. g.now) k.group; name = k.name.now; kind = k.kind; presence = k.presence }

-- whether the value is what a key of this kind holds
abbrev pub fits : Kind → Data → Bool
fits Version d = is_version (number_of d)
fits Number d = is_some (number_of d)
fits Group d = is_some (as_table d)

-- a key of the table itself, which is always there
abbrev pub own : List ℕ → Key
own name = record { group = None; name = name; kind = Version; presence = Always }

-- a group, which may be there, and the numbers in it, which then are
abbrev pub group : List ℕ → List (List ℕ) → List Key
group name numbers =
    record { group = None; name = name; kind = Group; presence = Free }
    ∷ map (λ n. record { group = Some name; name = n; kind = Number; presence = Always }) numbers

-- major and minor of the releases, and the range of their patches
unfoldable pub own_keys : List Key
own_keys = own (codes "major") ∷ own (codes "minor") ∷ own (codes "first_patch") ∷ own (codes "last_patch") ∷ []

-- the groups of types, and of where instances have their attributes, each with its numbers
unfoldable pub types_keys : List Key
types_keys = group (codes "type") (codes "size" ∷ codes "basicsize" ∷ codes "itemsize" ∷ codes "repr"
    ∷ codes "str" ∷ codes "flags" ∷ codes "weaklist" ∷ codes "methods" ∷ codes "members" ∷ codes "getset"
    ∷ codes "base" ∷ codes "dict" ∷ codes "dictoffset" ∷ codes "bases" ∷ codes "mro" ∷ [])
    ++ (group (codes "heap_type") (codes "size" ∷ codes "qualname" ∷ codes "cached_keys" ∷ [])
    ++ (group (codes "slots") (codes "size" ∷ codes "owner" ∷ codes "name" ∷ codes "member" ∷ [])
    ++ (group (codes "member") (codes "size" ∷ codes "name" ∷ codes "kind" ∷ codes "offset" ∷ [])
    ++ (group (codes "instance_split") (codes "dict" ∷ codes "values" ∷ codes "managed_bit" ∷ [])
    ++ (group (codes "instance_tagged") (codes "word" ∷ codes "tag" ∷ codes "managed_bit" ∷ codes "weakref_bit"
    ∷ [])
    ++ (group (codes "instance_inline") (codes "dict" ∷ codes "managed_bit" ∷ codes "weakref_bit"
    ∷ codes "inline_bit" ∷ [])
    ++ (group (codes "values") (codes "size" ∷ codes "capacity" ∷ codes "used" ∷ codes "embedded"
    ∷ codes "valid" ∷ codes "items" ∷ [])
    ++ (group (codes "values_before") (codes "prefix" ∷ codes "used" ∷ [])))))))))

-- the groups of sets, lists, dicts and deques, each with its numbers
unfoldable pub containers_keys : List Key
containers_keys = group (codes "set") (codes "size" ∷ codes "used" ∷ codes "mask" ∷ codes "table"
    ∷ codes "small_table" ∷ [])
    ++ (group (codes "set_entry") (codes "size" ∷ codes "key" ∷ codes "hash" ∷ [])
    ++ (group (codes "list") (codes "size" ∷ codes "allocated" ∷ [])
    ++ (group (codes "dict") (codes "size" ∷ codes "used" ∷ [])
    ++ (group (codes "keys") (codes "usable" ∷ [])
    ++ (group (codes "keys_log2") (codes "slots" ∷ [])
    ++ (group (codes "ordered_dict") (codes "size" ∷ codes "nodes" ∷ codes "nodes_size" ∷ codes "first"
    ∷ codes "last" ∷ [])
    ++ (group (codes "ordered_node") (codes "size" ∷ codes "key" ∷ codes "hash" ∷ codes "next"
    ∷ codes "previous" ∷ [])
    ++ (group (codes "default_dict") (codes "size" ∷ codes "factory" ∷ [])
    ++ (group (codes "deque") (codes "size" ∷ codes "count" ∷ codes "left_block" ∷ codes "right_block"
    ∷ codes "left_index" ∷ codes "right_index" ∷ [])
    ++ (group (codes "deque_block") (codes "size" ∷ codes "left" ∷ codes "items" ∷ codes "right"
    ∷ [])))))))))))

-- the groups of numbers, bytes, ranges, dates and times, each with its numbers
unfoldable pub scalars_keys : List Key
scalars_keys = group (codes "bytearray") (codes "size" ∷ codes "count" ∷ codes "allocated" ∷ codes "bytes"
    ∷ codes "start" ∷ [])
    ++ (group (codes "complex") (codes "size" ∷ codes "real" ∷ codes "imag" ∷ [])
    ++ (group (codes "range") (codes "size" ∷ codes "start" ∷ codes "stop" ∷ codes "step" ∷ codes "length"
    ∷ [])
    ++ (group (codes "slice") (codes "size" ∷ codes "start" ∷ codes "stop" ∷ codes "step" ∷ [])
    ++ (group (codes "decimal") (codes "size" ∷ codes "flags" ∷ codes "exponent" ∷ codes "digits"
    ∷ codes "words" ∷ codes "data" ∷ [])
    ++ (group (codes "date") (codes "size" ∷ codes "data" ∷ [])
    ++ (group (codes "time") (codes "size" ∷ codes "has_zone" ∷ codes "data" ∷ codes "fold" ∷ codes "zone"
    ∷ [])
    ++ (group (codes "datetime") (codes "size" ∷ codes "has_zone" ∷ codes "data" ∷ codes "fold" ∷ codes "zone"
    ∷ [])
    ++ (group (codes "timedelta") (codes "size" ∷ codes "days" ∷ codes "seconds" ∷ codes "microseconds"
    ∷ [])))))))))

-- the groups of functions, methods, modules, cells and weak references, each with its numbers
unfoldable pub callables_keys : List Key
callables_keys = group (codes "partial") (codes "size" ∷ codes "function" ∷ codes "args" ∷ codes "keywords"
    ∷ [])
    ++ (group (codes "module") (codes "size" ∷ codes "dict" ∷ codes "name" ∷ [])
    ++ (group (codes "function") (codes "size" ∷ codes "code" ∷ codes "globals" ∷ codes "name"
    ∷ codes "qualname" ∷ codes "closure" ∷ codes "dict" ∷ codes "module" ∷ [])
    ++ (group (codes "method") (codes "size" ∷ codes "function" ∷ codes "self" ∷ [])
    ++ (group (codes "builtin") (codes "size" ∷ codes "def" ∷ codes "self" ∷ codes "module" ∷ [])
    ++ (group (codes "method_def") (codes "size" ∷ codes "name" ∷ [])
    ++ (group (codes "cell") (codes "size" ∷ codes "value" ∷ [])
    ++ (group (codes "weakref") (codes "size" ∷ codes "object" ∷ codes "callback" ∷ []))))))))

-- the groups of code, frames and tracebacks, each with its numbers
unfoldable pub frames_keys : List Key
frames_keys = group (codes "code") (codes "size" ∷ codes "flags" ∷ codes "stack_size" ∷ [])
    ++ (group (codes "code_names") (codes "bytecode" ∷ codes "cells" ∷ codes "frees" ∷ [])
    ++ (group (codes "code_kinds") (codes "count" ∷ codes "kinds" ∷ codes "qualname" ∷ [])
    ++ (group (codes "frame_object") (codes "size" ∷ codes "frame" ∷ [])
    ++ (group (codes "owner") (codes "place" ∷ codes "thread" ∷ codes "generator" ∷ codes "frame_object" ∷ [])
    ++ (group (codes "shim") (codes "owner" ∷ [])
    ++ (group (codes "entry") (codes "place" ∷ [])
    ++ (group (codes "cframe") (codes "size" ∷ codes "current" ∷ codes "previous" ∷ [])
    ++ (group (codes "traceback") (codes "size" ∷ codes "next" ∷ codes "frame" ∷ codes "lasti" ∷ codes "line"
    ∷ [])))))))))

-- the groups of a frame's stack of values and its state, each with its numbers
unfoldable pub stacks_keys : List Key
stacks_keys = group (codes "stack_pointer") (codes "bottom" ∷ codes "top" ∷ [])
    ++ (group (codes "stack_depth") (codes "bottom" ∷ codes "depth" ∷ codes "state" ∷ [])
    ++ (group (codes "stack_count") (codes "top" ∷ [])
    ++ (group (codes "states") (codes "created" ∷ codes "suspended" ∷ codes "running" ∷ [])
    ++ (group (codes "awaiting_state") (codes "state" ∷ [])
    ++ (group (codes "yield_from") (codes "opcode" ∷ [])
    ++ (group (codes "resume") (codes "first" ∷ codes "second" ∷ [])))))))

-- the groups of generators, coroutines and what holds one of them, each with its numbers
unfoldable pub coroutines_keys : List Key
coroutines_keys = group (codes "generator") (codes "size" ∷ codes "name" ∷ codes "qualname" ∷ [])
    ++ (group (codes "coroutine") (codes "size" ∷ codes "name" ∷ codes "qualname" ∷ [])
    ++ (group (codes "async_generator") (codes "size" ∷ codes "name" ∷ codes "qualname" ∷ [])
    ++ (group (codes "generator_frame") (codes "frame" ∷ [])
    ++ (group (codes "generator_running") (codes "running" ∷ [])
    ++ (group (codes "generator_inside") (codes "frame" ∷ codes "state" ∷ [])
    ++ (group (codes "generator_handled") (codes "item" ∷ [])
    ++ (group (codes "coroutine_wrapper") (codes "size" ∷ codes "held" ∷ [])
    ++ (group (codes "asend") (codes "size" ∷ codes "held" ∷ [])
    ++ (group (codes "athrow") (codes "size" ∷ codes "held" ∷ [])
    ++ (group (codes "anext_awaitable") (codes "size" ∷ codes "held" ∷ [])))))))))))

-- the groups of futures, tasks and handles of asyncio, each with its numbers
unfoldable pub tasks_keys : List Key
tasks_keys = group (codes "future") (codes "size" ∷ codes "loop" ∷ codes "callback0" ∷ codes "callbacks"
    ∷ codes "exception" ∷ codes "result" ∷ codes "state" ∷ [])
    ++ (group (codes "task") (codes "size" ∷ codes "waiter" ∷ codes "coro" ∷ codes "cancel"
    ∷ codes "cancel_bit" ∷ [])
    ++ (group (codes "task_name") (codes "name" ∷ [])
    ++ (group (codes "future_iter") (codes "size" ∷ codes "held" ∷ [])
    ++ (group (codes "task_step") (codes "size" ∷ codes "held" ∷ [])
    ++ (group (codes "task_wakeup") (codes "size" ∷ codes "held" ∷ [])
    ++ (group (codes "handle") (codes "size" ∷ codes "args" ∷ codes "callback" ∷ codes "cancelled" ∷ [])
    ++ (group (codes "timer_handle") (codes "size" ∷ codes "when" ∷ []))))))))

-- the groups of locks, and queues that wait by one, each with its numbers
unfoldable pub locks_keys : List Key
locks_keys = group (codes "lock") (codes "size" ∷ codes "semaphore" ∷ codes "locked" ∷ [])
    ++ (group (codes "lock_mutex") (codes "size" ∷ codes "mutex" ∷ [])
    ++ (group (codes "rlock") (codes "size" ∷ codes "semaphore" ∷ codes "owner" ∷ codes "count" ∷ [])
    ++ (group (codes "simple_queue") (codes "size" ∷ codes "semaphore" ∷ [])
    ++ (group (codes "simple_queue_parked") (codes "size" ∷ codes "waiting" ∷ [])
    ++ (group (codes "runtime_lock") (codes "size" ∷ codes "place" ∷ [])
    ++ (group (codes "interpreter_lock") (codes "size" ∷ [])))))))

-- the groups of exceptions, and of where a thread has those raised and handled, each with its numbers
unfoldable pub exceptions_keys : List Key
exceptions_keys = group (codes "exception") (codes "size" ∷ codes "dict" ∷ codes "args" ∷ codes "traceback"
    ∷ codes "context" ∷ codes "cause" ∷ codes "suppress_context" ∷ [])
    ++ (group (codes "os_error") (codes "size" ∷ codes "errno" ∷ codes "strerror" ∷ codes "filename"
    ∷ codes "filename2" ∷ [])
    ++ (group (codes "syntax_error") (codes "size" ∷ codes "msg" ∷ codes "filename" ∷ codes "line" ∷ [])
    ++ (group (codes "unicode_error") (codes "size" ∷ codes "encoding" ∷ codes "object" ∷ codes "start"
    ∷ codes "end" ∷ codes "reason" ∷ [])
    ++ (group (codes "import_error") (codes "size" ∷ codes "msg" ∷ codes "name" ∷ [])
    ++ (group (codes "exception_group") (codes "size" ∷ codes "msg" ∷ codes "excs" ∷ [])
    ++ (group (codes "item") (codes "size" ∷ codes "value" ∷ codes "previous" ∷ [])
    ++ (group (codes "item_parts") (codes "type" ∷ codes "traceback" ∷ [])
    ++ (group (codes "raised_parts") (codes "type" ∷ codes "value" ∷ codes "traceback" ∷ [])
    ++ (group (codes "raised") (codes "exception" ∷ [])
    ++ (group (codes "handled") (codes "newest" ∷ codes "oldest" ∷ [])))))))))))

-- the groups of interpreters, the collector and pymalloc, each with its numbers
unfoldable pub heap_keys : List Key
heap_keys = group (codes "interpreter") (codes "next" ∷ [])
    ++ (group (codes "runtime_collector") (codes "generations" ∷ codes "permanent" ∷ codes "collecting" ∷ [])
    ++ (group (codes "collector") (codes "generations" ∷ codes "permanent" ∷ codes "collecting" ∷ [])
    ++ (group (codes "generation") (codes "size" ∷ codes "count" ∷ [])
    ++ (group (codes "gc_head") (codes "size" ∷ codes "next" ∷ codes "previous" ∷ codes "marks" ∷ [])
    ++ (group (codes "arena") (codes "size" ∷ codes "address" ∷ codes "pool" ∷ codes "free" ∷ codes "pools"
    ∷ [])
    ++ (group (codes "pool") (codes "size" ∷ codes "bytes" ∷ codes "count" ∷ codes "free_block"
    ∷ codes "size_class" ∷ codes "next_offset" ∷ [])
    ++ (group (codes "arenas_inside") (codes "arenas" ∷ codes "count" ∷ [])
    ++ (group (codes "arenas_behind") (codes "state" ∷ codes "arenas" ∷ codes "count" ∷ [])))))))))

-- all keys of a table of records, in the order in which they are looked at
unfoldable pub the_keys : List Key
the_keys = ((((((((((own_keys ++ types_keys) ++ containers_keys) ++ scalars_keys) ++ callables_keys) ++ frames_keys)
    ++ stacks_keys) ++ coroutines_keys) ++ tasks_keys) ++ locks_keys) ++ exceptions_keys) ++ heap_keys
