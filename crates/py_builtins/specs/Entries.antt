-- The entries of a dict, one after another.
use Rattle.std.specs.Prelude.{◌≡◌, ℕ, ◌-◌, ◌*◌, ◌<◌, ◌≤◌, max, IsTrue, Option, Some, None, Result, Ok, Err, IsErrOf}
use Rattle.std.specs.Prelude.{IfSome}
use Rattle.process_memory.specs.Memory.{Memory, Found}
use Rattle.process_memory.specs.Seen.{Seen, Reading, Reads, Answers}
use Rattle.py_builtins.specs.declared.error.ObjectError.{ObjectError}
use Rattle.py_builtins.specs.declared.error.ObjectError.TheVariants.{OutOfMemory}
use Rattle.py_builtins.specs.declared.keys.Slots.{Slots}
use Rattle.py_builtins.specs.declared.dicts.Slot.{Slot}
use Rattle.py_builtins.specs.declared.dicts.Slot.TheVariants.{Empty, Entry}
use Rattle.py_builtins.specs.ObjectError.{object_fault}
use Rattle.py_builtins.specs.Dicts.{Cursor, slot_at}

-- a cursor at the first of the slots that were found, by at most `n` reads
pub record StartsAt (n : ℕ) (old new : Seen) (slots : Memory → Found Slots) (cursor : Cursor) : Type 0 where
  pub answer : Reads {E = ObjectError} object_fault n old new slots (Ok cursor.slots)
  pub start : cursor.passed ≡ 0

-- every slot from one number up to another is empty
abbrev pub AreEmpty : (ℕ → Found Slot) → ℕ → ℕ → Type 0
AreEmpty slot from to = (number : ℕ) → from ≤ number → number < to → slot number ≡ Ok Empty

-- a result with the key and the value of an entry
abbrev pub as_slot : Result (ℕ × ℕ) ObjectError → Result Slot ObjectError
as_slot (Ok entry) = Ok (Entry entry.0 entry.1)
as_slot (Err e) = Err e

-- the slots from one number up to another were passed: an entry or a fault is that of the last of them, and those
-- before it are empty; where the answer is none all slots of the dict are passed, and those that were left are empty
abbrev pub Passes : (ℕ → Found Slot) → ℕ → ℕ → ℕ → Option (Result (ℕ × ℕ) ObjectError) → Type 0
Passes slot count from to None = (to ≡ max from count) × AreEmpty slot from to
Passes slot count from to (Some r) =
    (from < to) × (to ≤ count) × AreEmpty slot from (to - 1) × Answers object_fault (slot (to - 1)) (as_slot r)

-- one step over the entries of a dict: the next entry or fault, from a cursor on to right behind its slot, by at
-- most two reads a slot; memory is wanted only where a read may want it
pub record GivesEntry {P : Type 0} (seen : P → Seen) (c : Cursor) (p : P) (r : Option (Result (ℕ × ℕ) ObjectError))
    (c2 : Cursor) (p2 : P) : Type 0 where
  pub dict : c2.slots ≡ c.slots
  pub reading : Reading (2 * (c2.passed - c.passed)) (seen p) (seen p2)
      (λ m. Passes (slot_at m c.slots) c.slots.count c.passed c2.passed r)
  pub memory : IfSome r (λ entry. IsErrOf entry OutOfMemory → IsTrue (seen p).may_want_memory)
