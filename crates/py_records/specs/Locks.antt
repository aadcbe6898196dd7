-- Locks, and queues that wait by one; when the groups of these are sound, and what a table says of them. From
-- the structs of CPython that the groups' docs name; the form of the file is this project's own.
use Rattle.std.specs.Prelude.{Bool, List, [], ◌∷◌, None, IfSome, is_some, option_map, codes}
use Rattle.std.specs.Option.{option_or}
use Rattle.toml.specs.Data.{Members}
use Rattle.py_layout.specs.Values.{group_at, number_at}
use Rattle.py_fields.specs.Places.{Place}
use Rattle.py_fields.specs.Sound.{IsRecord}
use Rattle.py_records.specs.Places.{ArePlain, any_both}
use Rattle.py_records.specs.declared.locks.LockRecord.{LockRecord}
use Rattle.py_records.specs.declared.locks.LockMutexRecord.{LockMutexRecord}
use Rattle.py_records.specs.declared.locks.RlockRecord.{RlockRecord}
use Rattle.py_records.specs.declared.locks.SimpleQueueRecord.{SimpleQueueRecord}
use Rattle.py_records.specs.declared.locks.SimpleQueueParkedRecord.{SimpleQueueParkedRecord}
use Rattle.py_records.specs.declared.locks.RuntimeLockRecord.{RuntimeLockRecord}
use Rattle.py_records.specs.declared.locks.InterpreterLockRecord.{InterpreterLockRecord}
use Rattle.py_records.specs.declared.locks.LockRecords.{LockRecords}

-- offsets and widths, in bytes, in a `lockobject`: `lock_lock`, `locked`
unfoldable pub lock_places : LockRecord → List Place
lock_places r = (r.semaphore, 8) ∷ (r.locked, 1) ∷ []

-- a `lockobject`: its fields stand inside its size, of 1 to 65535 bytes, and no two meet
abbrev pub IsSoundLock : LockRecord → Type 0
IsSoundLock r = IsRecord r.size (lock_places r)

-- offset and width, in bytes, of `lock`, a mutex of 1 byte, in a `lockobject` of later 3.13
unfoldable pub lock_mutex_places : LockMutexRecord → List Place
lock_mutex_places r = (r.mutex, 1) ∷ []

-- a `lockobject` of later 3.13: its field stands inside its size, of 1 to 65535 bytes
abbrev pub IsSoundLockMutex : LockMutexRecord → Type 0
IsSoundLockMutex r = IsRecord r.size (lock_mutex_places r)

-- offsets and widths, in bytes, in an `rlockobject`: `rlock_lock`, `rlock_owner`, `rlock_count`
unfoldable pub rlock_places : RlockRecord → List Place
rlock_places r = (r.semaphore, 8) ∷ (r.owner, 8) ∷ (r.count, 8) ∷ []

-- an `rlockobject`: its fields stand inside its size, of 1 to 65535 bytes, and no two meet
abbrev pub IsSoundRlock : RlockRecord → Type 0
IsSoundRlock r = IsRecord r.size (rlock_places r)

-- offset and width, in bytes, of `lock` in a `simplequeueobject` up to 3.12
unfoldable pub simple_queue_places : SimpleQueueRecord → List Place
simple_queue_places r = (r.semaphore, 8) ∷ []

-- a `simplequeueobject` up to 3.12: its field stands inside its size, of 1 to 65535 bytes
abbrev pub IsSoundSimpleQueue : SimpleQueueRecord → Type 0
IsSoundSimpleQueue r = IsRecord r.size (simple_queue_places r)

-- offset and width, in bytes, of `has_threads_waiting` in a `simplequeueobject` from 3.13 on
unfoldable pub simple_queue_parked_places : SimpleQueueParkedRecord → List Place
simple_queue_parked_places r = (r.waiting, 1) ∷ []

-- a `simplequeueobject` from 3.13 on: its field stands inside its size, of 1 to 65535 bytes
abbrev pub IsSoundSimpleQueueParked : SimpleQueueParkedRecord → Type 0
IsSoundSimpleQueueParked r = IsRecord r.size (simple_queue_parked_places r)

-- the size of `_gil_runtime_state` is of 1 to 65535 bytes, and its offset in `_PyRuntimeState` below 2^20
pub record IsSoundRuntimeLock (r : RuntimeLockRecord) : Type 0 where
  pub fields : IsRecord r.size []
  pub constants : ArePlain (r.place ∷ [])

-- the size of `_gil_runtime_state` is of 1 to 65535 bytes
abbrev pub IsSoundInterpreterLock : InterpreterLockRecord → Type 0
IsSoundInterpreterLock r = IsRecord r.size []

-- each group of locks, and of queues that wait by one, that is there is sound
pub record AreSoundLocks (r : LockRecords) : Type 0 where
  pub lock : IfSome r.lock IsSoundLock
  pub lock_mutex : IfSome r.lock_mutex IsSoundLockMutex
  pub rlock : IfSome r.rlock IsSoundRlock
  pub simple_queue : IfSome r.simple_queue IsSoundSimpleQueue
  pub simple_queue_parked : IfSome r.simple_queue_parked IsSoundSimpleQueueParked
  pub runtime_lock : IfSome r.runtime_lock IsSoundRuntimeLock
  pub interpreter_lock : IfSome r.interpreter_lock IsSoundInterpreterLock

-- the group `lock`: size and field offsets of a `lockobject` (Modules/_threadmodule.c)
abbrev pub lock_in : Members → LockRecord
lock_in ms = record {
  size = number_at ms None (codes "size");
  semaphore = number_at ms None (codes "semaphore");
  locked = number_at ms None (codes "locked");
}

-- the group `lock_mutex`: size and the field's offset of a `lockobject` of later 3.13 (Modules/_threadmodule.c)
abbrev pub lock_mutex_in : Members → LockMutexRecord
lock_mutex_in ms = record {
  size = number_at ms None (codes "size");
  mutex = number_at ms None (codes "mutex");
}

-- the group `rlock`: size and field offsets of an `rlockobject` (Modules/_threadmodule.c)
abbrev pub rlock_in : Members → RlockRecord
rlock_in ms = record {
  size = number_at ms None (codes "size");
  semaphore = number_at ms None (codes "semaphore");
  owner = number_at ms None (codes "owner");
  count = number_at ms None (codes "count");
}

-- the group `simple_queue`: size and the field's offset of a `simplequeueobject` up to 3.12 (Modules/_queuemodule.c)
abbrev pub simple_queue_in : Members → SimpleQueueRecord
simple_queue_in ms = record {
  size = number_at ms None (codes "size");
  semaphore = number_at ms None (codes "semaphore");
}

-- the group `simple_queue_parked`: size and field offset of a `simplequeueobject` from 3.13 on
abbrev pub simple_queue_parked_in : Members → SimpleQueueParkedRecord
simple_queue_parked_in ms = record {
  size = number_at ms None (codes "size");
  waiting = number_at ms None (codes "waiting");
}

-- the group `runtime_lock`: size of `_gil_runtime_state`, and its offset in `_PyRuntimeState`, up to 3.11
abbrev pub runtime_lock_in : Members → RuntimeLockRecord
runtime_lock_in ms = record {
  size = number_at ms None (codes "size");
  place = number_at ms None (codes "place");
}

-- the group `interpreter_lock`: the size of `_gil_runtime_state`, the GIL's record, from 3.12 on
abbrev pub interpreter_lock_in : Members → InterpreterLockRecord
interpreter_lock_in ms = record {
  size = number_at ms None (codes "size");
}

-- the groups of locks, and of queues that wait by one, that a table has
unfoldable pub locks_from : Members → LockRecords
locks_from ms = record {
  lock = option_map lock_in (group_at ms (codes "lock"));
  lock_mutex = option_map lock_mutex_in (group_at ms (codes "lock_mutex"));
  rlock = option_map rlock_in (group_at ms (codes "rlock"));
  simple_queue = option_map simple_queue_in (group_at ms (codes "simple_queue"));
  simple_queue_parked = option_map simple_queue_parked_in (group_at ms (codes "simple_queue_parked"));
  runtime_lock = option_map runtime_lock_in (group_at ms (codes "runtime_lock"));
  interpreter_lock = option_map interpreter_lock_in (group_at ms (codes "interpreter_lock"));
}

-- no group is there
abbrev pub no_locks : LockRecords
no_locks = record {
  lock = None;
  lock_mutex = None;
  rlock = None;
  simple_queue = None;
  simple_queue_parked = None;
  runtime_lock = None;
  interpreter_lock = None;
}

-- each group of the first that is there, and else of the second
unfoldable pub joined_locks : LockRecords → LockRecords → LockRecords
joined_locks a b = record {
  lock = option_or a.lock b.lock;
  lock_mutex = option_or a.lock_mutex b.lock_mutex;
  rlock = option_or a.rlock b.rlock;
  simple_queue = option_or a.simple_queue b.simple_queue;
  simple_queue_parked = option_or a.simple_queue_parked b.simple_queue_parked;
  runtime_lock = option_or a.runtime_lock b.runtime_lock;
  interpreter_lock = option_or a.interpreter_lock b.interpreter_lock;
}

-- whether a group is there in both
unfoldable pub share_locks : LockRecords → LockRecords → Bool
share_locks a b = any_both (is_some a.lock ∷ is_some a.lock_mutex ∷ is_some a.rlock ∷ is_some a.simple_queue
    ∷ is_some a.simple_queue_parked ∷ is_some a.runtime_lock ∷ is_some a.interpreter_lock ∷ [])
    (is_some b.lock ∷ is_some b.lock_mutex ∷ is_some b.rlock ∷ is_some b.simple_queue ∷ is_some b.simple_queue_parked
    ∷ is_some b.runtime_lock ∷ is_some b.interpreter_lock ∷ [])
