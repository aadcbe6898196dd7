-- Where the lock of an interpreter is: the address of what names its holder. That older builds keep the current thread
-- in a variable, `_PyThreadState_Current`, those from 3.7 on in `_PyRuntime`, and newer ones the lock's own record
-- in each interpreter, is CPython's; which family a build is of is the layout's word.
use Rattle.std.specs.Prelude.{◌≡◌, ℕ, ◌+◌, ◌-◌, ◌^◌, nat_lt, true, if◌then◌else◌, Option, Some, None, option_map}
use Rattle.std.specs.Prelude.{unwrap_or, Result, Ok, Err, ⊤, codes}
use Rattle.elf64_core.specs.declared.header.Machine.{Machine}
use Rattle.process_memory.specs.Memory.{Found, Memory, word_at}
use Rattle.process_memory.specs.Memory.Fault.{Missing}
use Rattle.py_fields.specs.Offsets.{tstate_current_offset}
use Rattle.py_fields.specs.declared.version.Version.{Version}
use Rattle.py_fields.specs.declared.layout.Layout.{Layout}
use Rattle.py_fields.specs.declared.layout.Lock.{Lock}
use Rattle.py_fields.specs.declared.layout.Lock.TheVariants.{Symbol, Runtime, Gil}
use Rattle.py_stacks.specs.declared.config.Config.{Config}
use Rattle.py_process.specs.Facts.{Known, symbol_known}
use Rattle.py_process.specs.declared.lock_error.LockError.{LockError}
use Rattle.py_process.specs.declared.lock_error.LockError.TheVariants.{Unreadable, NoLock, OutOfMemory}

-- a sum of addresses; one that passes 2^64 - 1 is in no memory
abbrev pub sum_of : ℕ → ℕ → Found ℕ
sum_of a b = if nat_lt (a + b) (2 ^ 64) then Ok (a + b) else Err (Missing (2 ^ 64 - 1) 8)

-- a place in the runtime, where both its symbol and the place are known
abbrev pub in_runtime : Option ℕ → Option ℕ → Option (Found ℕ)
in_runtime None offset = None
in_runtime (Some runtime) None = None
in_runtime (Some runtime) (Some offset) = Some (sum_of runtime offset)

-- the word of an interpreter that holds the address of its lock
abbrev pub lock_word : Memory → ℕ → Option ℕ → Option (Found ℕ)
lock_word m interpreter at = option_map (λ offset. word_at m (interpreter + offset)) at

-- the lock's address by a layout's family; nothing where a symbol or an offset is missing
abbrev pub lock_by : Lock → Machine → Known → Version → Layout → Memory → ℕ → Option (Found ℕ)
lock_by Gil machine k v l m a = lock_word m a l.interpreter.gil
lock_by Runtime machine k v l m a = in_runtime (symbol_known k (codes "_PyRuntime")) (tstate_current_offset machine v)
lock_by Symbol machine k v l m a = option_map (λ addr. Ok addr) (symbol_known k (codes "_PyThreadState_Current"))

-- the lock's address by a layout; nothing where a symbol or an offset is missing
unfoldable pub lock_found : Machine → Known → Version → Layout → Memory → ℕ → Option (Found ℕ)
lock_found machine k v l m a = lock_by l.lock machine k v l m a

-- the same, and 0 where one is missing
unfoldable pub lock_address_of : Machine → Known → Version → Layout → Memory → ℕ → Found ℕ
lock_address_of machine k v l m a = unwrap_or (lock_found machine k v l m a) (Ok 0)

-- the holder alone is asked for, and nothing tells where the lock is
pub record LacksLock (config : Config) (found : Option (Found ℕ)) : Type 0 where
  pub asked : config.gil_only ≡ true
  pub none : found ≡ None

-- a result is the lock's address, or its missing word, or that there is none where the holder alone is asked for;
-- out of memory may always be answered
abbrev pub LockIs : Config → Option (Found ℕ) → Result ℕ LockError → Type 0
LockIs config found (Ok addr) = (unwrap_or found (Ok 0) ≡ Ok addr) × ¬ LacksLock config found
LockIs config found (Err (Unreadable addr len)) = found ≡ Some (Err (Missing addr len))
LockIs config found (Err NoLock) = LacksLock config found
LockIs config found (Err OutOfMemory) = ⊤

-- a result is an address that was found, or none, or the missing word
abbrev pub FoundIs : Option (Found ℕ) → Result (Option ℕ) LockError → Type 0
FoundIs found (Ok None) = found ≡ None
FoundIs found (Ok (Some addr)) = found ≡ Some (Ok addr)
FoundIs found (Err (Unreadable addr len)) = found ≡ Some (Err (Missing addr len))
FoundIs found (Err NoLock) = ⊥
FoundIs found (Err OutOfMemory) = ⊤
