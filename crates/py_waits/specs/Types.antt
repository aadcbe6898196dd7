-- The types of what threads wait for: the entries of an interpreter's modules `_thread` and `_queue`
-- (Modules/_threadmodule.c, Modules/_queuemodule.c). A type is none where something that leads
-- to it can't be read.
use Rattle.std.specs.Prelude.{ℕ, Option, Some, None, List, Result, Ok, Err, Bool, true, false, codes, is_none}
use Rattle.process_memory.specs.Memory.{Memory, Found, ◌>>=◌}
use Rattle.process_memory.specs.declared.memory.ReadFault.{ReadFault}
use Rattle.process_memory.specs.declared.memory.ReadFault.TheVariants.{OutOfMemory}
use Rattle.py_fields.specs.declared.layout.Layout.{Layout}
use Rattle.py_names.specs.NamesError.{names_fault}
use Rattle.py_names.specs.declared.names_error.NamesError.{NamesError}
use Rattle.py_records.specs.declared.callables.BuiltinRecord.{BuiltinRecord}
use Rattle.py_records.specs.declared.locks.LockMutexRecord.{LockMutexRecord}
use Rattle.py_records.specs.declared.locks.LockRecord.{LockRecord}
use Rattle.py_records.specs.declared.locks.LockRecords.{LockRecords}
use Rattle.py_records.specs.declared.locks.RlockRecord.{RlockRecord}
use Rattle.py_records.specs.declared.locks.SimpleQueueParkedRecord.{SimpleQueueParkedRecord}
use Rattle.py_records.specs.declared.locks.SimpleQueueRecord.{SimpleQueueRecord}
use Rattle.py_records.specs.declared.records.Records.{Records}
use Rattle.py_records.specs.declared.types.KlassRecord.{KlassRecord}
use Rattle.type_places.specs.ModuleTypes.{module_type_at}
use Rattle.type_places.specs.declared.classes.TypeFields.{TypeFields}
use Rattle.type_places.specs.declared.places.TypePlace.{TypePlace}
use Rattle.py_waits.specs.declared.places.OwnerAt.{OwnerAt}
use Rattle.py_waits.specs.declared.places.WaitPlaces.{WaitPlaces}
use Rattle.py_waits.specs.declared.places.Waitable.{Waitable}
use Rattle.py_waits.specs.Words.{word_in}

-- the address of a type, where it was found
abbrev pub address_of : Option TypePlace → Option ℕ
address_of None = None
address_of (Some place) = Some place.address

-- the same; none also where what leads to it can't be read
abbrev pub type_known : Found (Option TypePlace) → Found (Option ℕ)
type_known (Ok place) = Ok (address_of place)
type_known (Err fault) = Ok None

-- the type that a module has under a name, if its instances have so many bytes
abbrev pub type_sized : Layout → TypeFields → Memory → (modules : ℕ) → (holder name : List ℕ) → Option ℕ
    → Found (Option ℕ)
type_sized l f m modules holder name None = Ok None
type_sized l f m modules holder name (Some size) = type_known (module_type_at l f m modules holder name size)

-- the same, where the modules are known
abbrev pub type_within : Layout → TypeFields → Memory → (modules : Option ℕ) → (holder name : List ℕ) → Option ℕ
    → Found (Option ℕ)
type_within l f m None holder name size = Ok None
type_within l f m (Some modules) holder name size = type_sized l f m modules holder name size

-- the same, where it is described where a type has its fields
abbrev pub type_in : Layout → Option TypeFields → Memory → (modules : Option ℕ) → (holder name : List ℕ) → Option ℕ
    → Found (Option ℕ)
type_in l None m modules holder name size = Ok None
type_in l (Some f) m modules holder name size = type_within l f m modules holder name size

-- where a type has its size and its first base, where that is described (`PyTypeObject`)
abbrev pub fields_by : Option KlassRecord → Option TypeFields
fields_by None = None
fields_by (Some klass) = Some (record { basic_size = klass.basicsize; base = klass.base })

-- the same by the records of a version (`tp_basicsize`, `tp_base`)
abbrev pub fields_of : Records → Option TypeFields
fields_of r = fields_by r.types.klass

-- ---- how many bytes their objects have

-- how many bytes a lock has: one with a semaphore, or one with a byte of its own
abbrev pub lock_size_by : Option LockRecord → Option LockMutexRecord → Option ℕ
lock_size_by (Some lock) parked = Some lock.size
lock_size_by None (Some lock) = Some lock.size
lock_size_by None None = None

-- how many bytes a lock has by the records of a version (`lockobject`, Modules/_threadmodule.c)
abbrev pub lock_size : LockRecords → Option ℕ
lock_size r = lock_size_by r.lock r.lock_mutex

-- how many bytes a reentrant lock has, where that is described
abbrev pub rlock_size_by : Option RlockRecord → Option ℕ
rlock_size_by None = None
rlock_size_by (Some lock) = Some lock.size

-- the same by the records of a version (`rlockobject`, Modules/_threadmodule.c)
abbrev pub rlock_size : LockRecords → Option ℕ
rlock_size r = rlock_size_by r.rlock

-- how many bytes a queue has: one with a semaphore, or one with a byte of its own
abbrev pub queue_size_by : Option SimpleQueueRecord → Option SimpleQueueParkedRecord → Option ℕ
queue_size_by (Some queue) parked = Some queue.size
queue_size_by None (Some queue) = Some queue.size
queue_size_by None None = None

-- how many bytes a queue has by the records of a version (`simplequeueobject`, Modules/_queuemodule.c)
abbrev pub queue_size : LockRecords → Option ℕ
queue_size r = queue_size_by r.simple_queue r.simple_queue_parked

-- ---- where these have the word

-- a type with the place of its objects' word, where both are known
abbrev pub waitable : Option ℕ → Option ℕ → Option Waitable
waitable (Some class) (Some place) = Some (record { class = class; place = place })
waitable _ _ = None

-- locks of this type with a semaphore, where these are described
abbrev pub lock_by : Option LockRecord → Option ℕ → Option Waitable
lock_by None class = None
lock_by (Some lock) class = waitable class (Some lock.semaphore)

-- the same by the records of a version
abbrev pub lock_waitable : LockRecords → Option ℕ → Option Waitable
lock_waitable r class = lock_by r.lock class

-- reentrant locks of this type, where these are described
abbrev pub rlock_by : Option RlockRecord → Option ℕ → Option Waitable
rlock_by None class = None
rlock_by (Some lock) class = waitable class (Some lock.semaphore)

-- the same by the records of a version
abbrev pub rlock_waitable : LockRecords → Option ℕ → Option Waitable
rlock_waitable r class = rlock_by r.rlock class

-- queues of this type with a semaphore, where these are described
abbrev pub queue_by : Option SimpleQueueRecord → Option ℕ → Option Waitable
queue_by None class = None
queue_by (Some queue) class = waitable class (Some queue.semaphore)

-- the same by the records of a version
abbrev pub queue_waitable : LockRecords → Option ℕ → Option Waitable
queue_waitable r class = queue_by r.simple_queue class

-- locks of this type with a byte of their own, where these alone are described
abbrev pub parked_lock_by : Option LockRecord → Option LockMutexRecord → Option ℕ → Option Waitable
parked_lock_by (Some lock) parked class = None
parked_lock_by None None class = None
parked_lock_by None (Some lock) class = waitable class (Some lock.mutex)

-- the same by the records of a version
abbrev pub parked_lock : LockRecords → Option ℕ → Option Waitable
parked_lock r class = parked_lock_by r.lock r.lock_mutex class

-- queues of this type with a byte of their own, where these alone are described
abbrev pub parked_queue_by : Option SimpleQueueRecord → Option SimpleQueueParkedRecord → Option ℕ → Option Waitable
parked_queue_by (Some queue) parked class = None
parked_queue_by None None class = None
parked_queue_by None (Some queue) class = waitable class (Some queue.waiting)

-- the same by the records of a version
abbrev pub parked_queue : LockRecords → Option ℕ → Option Waitable
parked_queue r class = parked_queue_by r.simple_queue r.simple_queue_parked class

-- where a reentrant lock has its owner and its count, where that is described
abbrev pub owner_by : Option RlockRecord → Option OwnerAt
owner_by None = None
owner_by (Some lock) = Some (record { owner = lock.owner; count = lock.count })

-- the same by the records of a version (`rlock_owner`, `rlock_count`)
abbrev pub owner_place : LockRecords → Option OwnerAt
owner_place r = owner_by r.rlock

-- where a function of C has the object that it is bound to, where that is described
abbrev pub receiver_by : Option BuiltinRecord → Option ℕ
receiver_by None = None
receiver_by (Some builtin) = Some builtin.receiver

-- the same by the records of a version (`m_self`)
abbrev pub receiver_place : Records → Option ℕ
receiver_place r = receiver_by r.callables.builtin

-- where the parts of what threads wait for stand, by these types of locks, reentrant locks and queues
unfoldable pub places_with : Layout → Records → (lock rlock queue : Option ℕ) → WaitPlaces
places_with l r lock rlock queue = record {
  klass = l.object.klass;
  receiver = receiver_place r;
  lock = lock_waitable r.locks lock;
  rlock = rlock_waitable r.locks rlock;
  queue = queue_waitable r.locks queue;
  parked_lock = parked_lock r.locks lock;
  parked_queue = parked_queue r.locks queue;
  owner = owner_place r.locks;
}

-- the type of locks, `LockType` of the module `_thread`
unfoldable pub lock_type : Layout → Records → Memory → (modules : Option ℕ) → Found (Option ℕ)
lock_type l r m modules = type_in l (fields_of r) m modules (codes "_thread") (codes "LockType") (lock_size r.locks)

-- the type of reentrant locks, `RLock` of the module `_thread`
unfoldable pub rlock_type : Layout → Records → Memory → (modules : Option ℕ) → Found (Option ℕ)
rlock_type l r m modules = type_in l (fields_of r) m modules (codes "_thread") (codes "RLock") (rlock_size r.locks)

-- the type of queues, `SimpleQueue` of the module `_queue`
unfoldable pub queue_type : Layout → Records → Memory → (modules : Option ℕ) → Found (Option ℕ)
queue_type l r m modules = type_in l (fields_of r) m modules (codes "_queue") (codes "SimpleQueue") (queue_size r.locks)

-- the places, by the types that an interpreter's modules have
unfoldable pub places_at : Layout → Records → Memory → (interpreter : ℕ) → Found WaitPlaces
places_at l r m interpreter = do
  modules ← word_in m (Some interpreter) l.interpreter.modules
  lock ← lock_type l r m modules
  rlock ← rlock_type l r m modules
  queue ← queue_type l r m modules
  Ok (places_with l r lock rlock queue)

-- ---- as they are read

-- what becomes of a type that can't be read: none, or out of memory where that was why
abbrev pub known_by : (is_wanting : Bool) → Result (Option ℕ) ReadFault
known_by true = Err OutOfMemory
known_by false = Ok None

-- a reader's result with the address of a type: none where it can't be read, and out of memory stays
abbrev pub known_type : Result (Option TypePlace) NamesError → Result (Option ℕ) ReadFault
known_type (Ok place) = Ok (address_of place)
known_type (Err error) = known_by (is_none (names_fault error))
