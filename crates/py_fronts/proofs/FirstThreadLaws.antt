-- The front of an interpreter's threads is what is read, and there is one alone.
use Rattle.std.proofs.Common.{◌≡◌, ℕ, ◌-◌, min, List, [], ◌∷◌, refl, sym, ◌∙◌, ap}
use Rattle.std.specs.Prelude.{Ok, Err}
use Rattle.process_memory.specs.Memory.{Found, Memory, record_at}
use Rattle.py_fields.specs.declared.layout.Layout.{Layout}
use Rattle.py_stacks.specs.declared.asked.Asked.{Asked}
use Rattle.py_stacks.specs.Threads.{first_frame_at, thread_limit}
use Rattle.py_fronts.specs.FirstThreads.{AreFirstThreads, AreThreadFronts, IsThreadFront}
use Rattle.py_fronts.specs.FrameFronts.{chain_of_thread, thread_members_limit}
use Rattle.py_fronts.specs.Front.{Front, Leads}
use Rattle.py_fronts.specs.ThreadFronts.{ThreadShown, ThreadsShown, after_record, front_shown, thread_by, thread_of}
use Rattle.py_fronts.specs.ThreadFronts.{thread_shown, threads_front, threads_shown}
use Rattle.py_fronts.proofs.FirstFrameLaws.{first_frames_found, first_frames_only}
use Rattle.py_fronts.proofs.FrontLaws.{front_found, front_unique, some_next}

there_by : (l : Layout) (i : ℕ) (d : Found (List ℕ)) (n : ℕ) → after_record l i d ≡ Ok n → (thread : List ℕ) × (d ≡ Ok thread)
there_by l i (Ok thread) n e = (thread, refl)
there_by l i (Err f) n e = absurd (cc)

-- a member's record is in memory
pub thread_there : (l : Layout) (i : ℕ) (m : Memory) (a n : ℕ) → thread_of l i m a ≡ Ok n → (thread : List ℕ) × (record_at m a l.thread.size ≡ Ok thread)
unfolding thread_of
thread_there l i m a n e = there_by l i (record_at m a l.thread.size) n e

thread_found : (q : Asked) (l : Layout) (m : Memory) (limit left a : ℕ) (thread : List ℕ) → record_at m a l.thread.size ≡ Ok thread → IsThreadFront q l m limit left a (thread_shown q l m limit left a)
unfolding thread_shown chain_of_thread
thread_found q l m limit left a thread e = record {
  thread = thread;
  read = e;
  address = refl;
  thread_id = rw e refl;
  os_thread_id = rw e refl;
  frames = rw e (first_frames_found q l m limit (min left thread_members_limit) (first_frame_at l m thread));
}

each_found : (q : Asked) (l : Layout) (i : ℕ) (m : Memory) (limit left head : ℕ) (members : List ℕ) (at : ℕ) → Leads (thread_of l i m) head members at
    → AreThreadFronts q l m limit left members (threads_shown q l m limit left members)
unfolding Leads threads_shown
each_found q l i m limit left head [] at h = tt
each_found q l i m limit left head (a ∷ rest) at h =
    let n = some_next (thread_of l i m a) (λ n. Leads (thread_of l i m) n rest at) h.2 in
    let there = thread_there l i m a n.0 n.1 in (
      thread_found q l m limit left a there.0 there.1,
      each_found q l i m limit (left - (thread_shown q l m limit left a).frames.met) n.0 rest at n.2,
    )

-- what is read are the first threads
pub first_threads_found : (q : Asked) (l : Layout) (m : Memory) (limit left i head : ℕ) → AreFirstThreads q l m limit left i head (front_shown q l m limit left (threads_front l i m head))
first_threads_found q l m limit left i head =
    let front = front_found (thread_of l i m) thread_limit head in
    record {
      members = (threads_front l i m head).members;
      front = front;
      each = each_found q l i m limit left head (threads_front l i m head).members front.at front.leads;
    }

pub thread_equal : (a b : ThreadShown) → a.address ≡ b.address → a.thread_id ≡ b.thread_id → a.os_thread_id ≡ b.os_thread_id → a.frames ≡ b.frames → a ≡ b
thread_equal a b p q r s =
    ap (λ x. record { address = x; thread_id = a.thread_id; os_thread_id = a.os_thread_id; frames = a.frames }) p
    ∙ ap (λ x. record { address = b.address; thread_id = x; os_thread_id = a.os_thread_id; frames = a.frames }) q
    ∙ ap (λ x. record { address = b.address; thread_id = b.thread_id; os_thread_id = x; frames = a.frames }) r
    ∙ ap (λ x. record { address = b.address; thread_id = b.thread_id; os_thread_id = b.os_thread_id; frames = x }) s

thread_only : (q : Asked) (l : Layout) (m : Memory) (limit left a : ℕ) (t : ThreadShown) → IsThreadFront q l m limit left a t → t ≡ thread_shown q l m limit left a
unfolding thread_shown chain_of_thread
thread_only q l m limit left a t h =
    let r = h.read in
    rw r (thread_equal t (thread_by q l m limit left a h.thread) h.address h.thread_id h.os_thread_id
    (first_frames_only q l m limit (min left thread_members_limit) (first_frame_at l m h.thread) t.frames h.frames))

each_only : (q : Asked) (l : Layout) (m : Memory) (limit left : ℕ) (members : List ℕ) (ts : List ThreadShown) → AreThreadFronts q l m limit left members ts
    → ts ≡ threads_shown q l m limit left members
unfolding threads_shown
each_only q l m limit left [] [] h = refl
each_only q l m limit left [] (t ∷ ts) h = absurd h
each_only q l m limit left (a ∷ rest) [] h = absurd h
each_only q l m limit left (a ∷ rest) (t ∷ ts) h =
    let here = thread_only q l m limit left a t h.0 in
    let others = each_only q l m limit (left - t.frames.met) rest ts h.1 in
    ap (λ xs. t ∷ xs) others ∙ ap (λ (x : ThreadShown). x ∷ threads_shown q l m limit (left - x.frames.met) rest) here

shown_equal : (a b : ThreadsShown) → a.threads ≡ b.threads → a.ending ≡ b.ending → a ≡ b
shown_equal a b p q =
    ap (λ x. record { threads = x; ending = a.ending }) p
    ∙ ap (λ x. record { threads = b.threads; ending = x }) q

-- and what are the first threads is read
pub first_threads_only : (q : Asked) (l : Layout) (m : Memory) (limit left i head : ℕ) (r : ThreadsShown) → AreFirstThreads q l m limit left i head r
    → r ≡ front_shown q l m limit left (threads_front l i m head)
first_threads_only q l m limit left i head r h =
    let front = front_unique (thread_of l i m) thread_limit head (record { members = h.members; ending = r.ending }) h.front in
    let members : (threads_front l i m head).members ≡ h.members = ap (λ (f : Front). f.members) front in
    let ending : (threads_front l i m head).ending ≡ r.ending = ap (λ (f : Front). f.ending) front in
    shown_equal r (front_shown q l m limit left (threads_front l i m head))
    (each_only q l m limit left h.members r.threads h.each ∙ ap (threads_shown q l m limit left) (sym members)) (sym ending)
