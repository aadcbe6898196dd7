-- The locks of interpreters, each by its own.
use Rattle.std.specs.Prelude.{◌≡◌, ℕ, Bool, false, Result, Ok, Err}
use Rattle.elf64_core.specs.declared.header.Machine.{Machine}
use Rattle.process_memory.specs.Memory.{Found, Memory, ◌>>=◌}
use Rattle.process_memory.specs.Memory.Fault.{Missing}
use Rattle.py_fields.specs.declared.version.Version.{Version}
use Rattle.py_fields.specs.declared.layout.Layout.{Layout}
use Rattle.py_stacks.specs.declared.error.StackError.{StackError}
use Rattle.py_stacks.specs.declared.error.StackError.TheVariants as stack
use Rattle.py_stacks.specs.Holder.{holder_id_at}
use Rattle.py_process.specs.Facts.{Known}
use Rattle.py_process.specs.declared.lock_error.LockError.{LockError}
use Rattle.py_process.specs.declared.lock_error.LockError.TheVariants as lock
use Rattle.py_process.specs.Lock.{lock_address_of}
use Rattle.py_fronts.specs.declared.thread_front.ThreadFront.{ThreadFront}
use Rattle.py_fronts.specs.declared.lock.LockState.{LockState}
use Rattle.py_fronts.specs.declared.lock.LockState.TheVariants.{Holder, Unreadable}
use Rattle.py_fronts.specs.Ids.{names_thread}

-- the holder of a lock, or what is missing on the way to it; no other fault is met there
abbrev pub holder_told : Found ℕ → LockState
holder_told (Ok holder) = Holder holder
holder_told (Err (Missing addr len)) = Unreadable addr len
holder_told (Err _) = Holder 0

-- the state of an interpreter's own lock: the holder that is read at the lock's address
unfoldable pub lock_told : Machine → Known → Version → Layout → Memory → ℕ → LockState
lock_told machine k v l m a = holder_told (lock_address_of machine k v l m a >>= holder_id_at l m)

-- a thread holds the lock of its interpreter exactly where its id is the holder's, and there is a holder
abbrev pub holds_lock : LockState → ThreadFront → Bool
holds_lock (Holder holder) t = names_thread holder t.thread_id
holds_lock (Unreadable addr len) t = false

-- ---- as they are read

-- what is known of a lock whose address isn't
abbrev pub IsGone : LockError → Result LockState StackError → Type 0
IsGone (lock.Unreadable addr len) result = result ≡ Ok (Unreadable addr len)
IsGone lock.NoLock result = result ≡ Ok (Holder 0)
IsGone lock.OutOfMemory result = result ≡ Err stack.OutOfMemory
