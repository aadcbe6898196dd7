-- The state of a lock, in its two steps.
use Rattle.std.proofs.Common.{◌≡◌, ◌≢◌, ℕ, refl}
use Rattle.std.specs.Prelude.{Ok, Err, Some, None, Result, unwrap_or}
use Rattle.elf64_core.specs.declared.header.Machine.{Machine}
use Rattle.process_memory.specs.Memory.{Found, Memory}
use Rattle.process_memory.specs.Memory.Fault.{Missing}
use Rattle.process_memory.specs.Seen.{Answers}
use Rattle.py_fields.specs.declared.version.Version.{Version}
use Rattle.py_fields.specs.declared.layout.Layout.{Layout}
use Rattle.py_stacks.specs.declared.config.Config.{Config}
use Rattle.py_stacks.specs.StackError.{stack_fault}
use Rattle.py_stacks.specs.declared.error.StackError.{StackError}
use Rattle.py_stacks.specs.declared.error.StackError.TheVariants as stack
use Rattle.py_stacks.specs.Holder.{holder_id_at}
use Rattle.py_process.specs.Facts.{Known}
use Rattle.py_process.specs.Lock.{LockIs, lock_address_of, lock_found}
use Rattle.py_process.specs.declared.lock_error.LockError.{LockError}
use Rattle.py_process.specs.declared.lock_error.LockError.TheVariants as lock
use Rattle.py_fronts.specs.Answers.{IsOrNoMemory}
use Rattle.py_fronts.specs.declared.lock.LockState.{LockState}
use Rattle.py_fronts.specs.declared.lock.LockState.TheVariants.{Holder, Unreadable}
use Rattle.py_fronts.specs.Locks.{IsGone, holder_told, lock_told}

-- no other fault tells a holder
pub told_other : (d : Found ℕ) (e : StackError) → ((addr len : ℕ) → e ≢ stack.Unreadable addr len) → e ≢ stack.OutOfMemory
    → Answers {T = ℕ} stack_fault d (Err e) → Holder 0 ≡ holder_told d
told_other d (stack.Unreadable addr len) other some h = absurd (other addr len refl)
told_other d (stack.BadValue frame) other some h = rw h.is refl
told_other d (stack.LocalsLimit count) other some h = rw h.is refl
told_other d stack.ThreadLimit other some h = rw h.is refl
told_other d stack.FrameLimit other some h = rw h.is refl
told_other d stack.ChainLimit other some h = rw h.is refl
told_other d stack.OutOfMemory other some h = absurd (some refl)

pub lock_held : (machine : Machine) (k : Known) (v : Version) (l : Layout) (m : Memory) (a at : ℕ)
    (result : Result LockState StackError) → unwrap_or (lock_found machine k v l m a) (Ok 0) ≡ Ok at
    → IsOrNoMemory (holder_told (holder_id_at l m at)) result → IsOrNoMemory (lock_told machine k v l m a) result
unfolding lock_told lock_address_of
lock_held machine k v l m a at result e h = rw e h

gone : (machine : Machine) (k : Known) (v : Version) (l : Layout) (m : Memory) (a addr len : ℕ)
    → lock_found machine k v l m a ≡ Some (Err (Missing addr len)) → Unreadable addr len ≡ lock_told machine k v l m a
unfolding lock_told lock_address_of
gone machine k v l m a addr len e = rw e refl

none : (machine : Machine) (k : Known) (v : Version) (l : Layout) (m : Memory) (a : ℕ)
    → lock_found machine k v l m a ≡ None → Holder 0 ≡ lock_told machine k v l m a
unfolding lock_told lock_address_of holder_id_at
none machine k v l m a e = rw e refl

pub lock_gone : (machine : Machine) (k : Known) (v : Version) (l : Layout) (m : Memory) (a : ℕ) (config : Config)
    (error : LockError) (result : Result LockState StackError) → LockIs config (lock_found machine k v l m a)
    (Err error)
    → IsGone error result → IsOrNoMemory (lock_told machine k v l m a) result
lock_gone machine k v l m a config (lock.Unreadable addr len) result h is = rw is (gone machine k v l m a addr len h)
lock_gone machine k v l m a config lock.NoLock result h is = rw is (none machine k v l m a h.none)
lock_gone machine k v l m a config lock.OutOfMemory result h is = rw is refl
