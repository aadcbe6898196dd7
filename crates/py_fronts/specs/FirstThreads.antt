-- What the front of an interpreter's threads is, in the subject's own words.
use Rattle.std.specs.Prelude.{◌≡◌, ℕ, ◌-◌, min, List, [], ◌∷◌, Ok, ⊤}
use Rattle.elf64_core.specs.Fields.{u64_in}
use Rattle.process_memory.specs.Memory.{Memory, record_at}
use Rattle.py_fields.specs.declared.layout.Layout.{Layout}
use Rattle.py_stacks.specs.declared.asked.Asked.{Asked}
use Rattle.py_stacks.specs.Threads.{first_frame_at, native_id, thread_limit}
use Rattle.py_fronts.specs.FirstFrames.{AreFirstFrames}
use Rattle.py_fronts.specs.FrameFronts.{thread_members_limit}
use Rattle.py_fronts.specs.Front.{IsFront}
use Rattle.py_fronts.specs.ThreadFronts.{ThreadShown, ThreadsShown, thread_of}

-- a thread by its record, and the first frames of its chain, where so many members may be met yet
pub record IsThreadFront (q : Asked) (l : Layout) (m : Memory) (limit left a : ℕ) (t : ThreadShown) : Type 0 where
  pub thread : List ℕ
  pub read : record_at m a l.thread.size ≡ Ok thread
  pub address : t.address ≡ a
  pub thread_id : t.thread_id ≡ u64_in thread l.thread.id
  pub os_thread_id : t.os_thread_id ≡ native_id l.thread.native_id thread
  pub frames : AreFirstFrames q l m limit (min left thread_members_limit) (first_frame_at l m thread) t.frames

-- each is that of its address; what one meets is no longer left for those after it
abbrev pub AreThreadFronts : Asked → Layout → Memory → (limit left : ℕ) → List ℕ → List ThreadShown → Type 0
AreThreadFronts q l m limit left [] [] = ⊤
AreThreadFronts q l m limit left [] (t ∷ ts) = ⊥
AreThreadFronts q l m limit left (a ∷ rest) [] = ⊥
AreThreadFronts q l m limit left (a ∷ rest) (t ∷ ts) =
    IsThreadFront q l m limit left a t × AreThreadFronts q l m limit (left - t.frames.met) rest ts

-- the threads are the first members of the interpreter's chain from `head` on, each of which names the interpreter, in
-- order and with none left out, and their ending is the chain's
pub record AreFirstThreads (q : Asked) (l : Layout) (m : Memory) (limit left interpreter head : ℕ)
    (shown : ThreadsShown) : Type 0 where
  pub members : List ℕ
  pub front : IsFront (thread_of l interpreter m) thread_limit head
      (record { members = members; ending = shown.ending })
  pub each : AreThreadFronts q l m limit left members shown.threads
