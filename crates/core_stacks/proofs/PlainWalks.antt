-- What the first fault of a walk over the stacks can be where neither lines nor locals are asked for: a missing range,
-- or a limit.
use Rattle.std.proofs.Common.{◌≡◌, ℕ, zero, suc, ◌+◌, cond, ltb, List, [], ◌∷◌, subst, ⊎_elim}
use Rattle.std.specs.Prelude.{Bool, true, false, Option, Some, None, Ok, Err}
use Rattle.process_memory.specs.Memory.{Memory, Found, Fault, record_at, word_at}
use Rattle.process_memory.specs.Memory.Fault.{Missing, ThreadLimit, FrameLimit, ChainLimit}
use Rattle.process_memory.specs.Faults.{faults_then}
use Rattle.process_memory.specs.Walk.{first_fault, goes_on, walk_faults}
use Rattle.py_fields.specs.declared.layout.CframeAt.{CframeAt}
use Rattle.py_fields.specs.declared.layout.Layout.{Layout}
use Rattle.py_stacks.specs.Asking.{nothing}
use Rattle.py_stacks.specs.Detail.{detail_faults}
use Rattle.py_stacks.specs.Frames.{Call, code_of, frame_faults, frame_limit, frame_next, frames_faults, member_limit}
use Rattle.py_stacks.specs.Frames.{part_faults, plain_by, records_at}
use Rattle.py_stacks.specs.Member.{MemberAt}
use Rattle.py_stacks.specs.Holder.{holder_id_at}
use Rattle.py_stacks.specs.Stacks.{stacks_faults}
use Rattle.py_stacks.specs.Threads.{first_frame_at, frame_through, thread_faults, thread_limit, thread_next}
use Rattle.py_stacks.specs.Threads.{traces_faults}
use Rattle.core_stacks.proofs.PlainFaults.{Fails, first_fails, next_fails, holder_id_fails, record_fails, some_same}
use Rattle.core_stacks.proofs.PlainFaults.{word_fails}
use Rattle.core_stacks.proofs.WalkFaults.{first_in, no_fault}

-- a missing range, or a limit of threads, of frames or of members
abbrev pub IsWalkFault : Fault → Type 0
IsWalkFault (Missing a n) = Unit {0}
IsWalkFault ThreadLimit = Unit {0}
IsWalkFault FrameLimit = Unit {0}
IsWalkFault ChainLimit = Unit {0}
IsWalkFault _ = ⊥

-- ---- along a chain

module _ {S : Type 0} (over : Fault) (go : S → ℕ → Found (ℕ × S)) (faults : S → ℕ → List Fault)
    (limited : IsWalkFault over)
    (each : (s : S) (a : ℕ) (f : Fault) → first_fault (faults s a) ≡ Some f → IsWalkFault f) where
  behind : (x : Found (ℕ × S)) (g : S → ℕ → List Fault) (f : Fault)
      → ((s : S) (a : ℕ) → first_fault (g s a) ≡ Some f → IsWalkFault f) → first_fault (goes_on x g) ≡ Some f
      → IsWalkFault f
  behind (Ok x) g f rest h = rest x.1 x.0 h
  behind (Err e) g f rest h = absurd (no_fault f h)

  pub along : (limit : ℕ) (s : S) (a : ℕ) (f : Fault) → first_fault (walk_faults over go faults limit s a) ≡ Some f
      → IsWalkFault f
  unfolding walk_faults
  along limit s zero f h = absurd (no_fault f h)
  along zero s (suc a) f h = subst IsWalkFault (some_same over f h) limited
  along (suc limit) s (suc a) f h =
      ⊎_elim (λ p. each s (suc a) f p)
      (λ p. behind (go s (suc a)) (λ t n. walk_faults over go faults limit t n) f (λ t n q. along limit t n f q) p)
      (first_in (faults s (suc a)) (goes_on (go s (suc a)) (λ t n. walk_faults over go faults limit t n)) f h)

-- ---- of a member, a thread and an interpreter

missing : (a n : ℕ) → IsWalkFault (Missing a n)
missing a n = tt

records_fail : (l : Layout) (m : Memory) (a : ℕ) → Fails IsWalkFault (records_at l m a)
unfolding records_at
records_fail l m a =
    next_fails IsWalkFault (record_at m a l.frame.size) _ (record_fails IsWalkFault missing m a l.frame.size)
    (λ frame. next_fails IsWalkFault (record_at m (code_of l.frame frame) l.code.size) _
    (record_fails IsWalkFault missing m (code_of l.frame frame) l.code.size) (λ code. tt))

cut : (few : Bool) (f : Fault) → first_fault (cond few [] (FrameLimit ∷ [])) ≡ Some f → IsWalkFault f
cut true f h = absurd (no_fault f h)
cut false f h = subst IsWalkFault (some_same FrameLimit f h) tt

part_walks : (l : Layout) (m : Memory) (kept : ℕ) (r : MemberAt) (p : Option Call) (f : Fault)
    → first_fault (part_faults nothing l m kept r p) ≡ Some f → IsWalkFault f
unfolding detail_faults
part_walks l m kept r None f h = absurd (no_fault f h)
part_walks l m kept r (Some c) f h = cut (ltb kept frame_limit) f h

frame_walks : (l : Layout) (m : Memory) (kept a : ℕ) (f : Fault)
    → first_fault (frame_faults nothing l m kept a) ≡ Some f → IsWalkFault f
unfolding frame_faults
frame_walks l m kept a f h =
    first_fails IsWalkFault (records_at l m a) (λ r. part_faults nothing l m kept r (plain_by l m r)) f
    (records_fail l m a)
    (λ r. part_walks l m kept r (plain_by l m r) f) h

frames_walk : (l : Layout) (m : Memory) (first : ℕ) (f : Fault)
    → first_fault (frames_faults nothing l m first) ≡ Some f → IsWalkFault f
unfolding frames_faults
frames_walk l m first f h = along ChainLimit (frame_next l m) (frame_faults nothing l m) tt
    (frame_walks l m) member_limit 0 first f h

through_fails : (c : Option CframeAt) (m : Memory) (a : ℕ) → Fails IsWalkFault (frame_through c m a)
through_fails None m a = tt
through_fails (Some c) m a = word_fails IsWalkFault missing m _

first_frame_fails : (l : Layout) (m : Memory) (thread : List ℕ) → Fails IsWalkFault (first_frame_at l m thread)
unfolding first_frame_at
first_frame_fails l m thread = through_fails l.cframe m _

thread_walks : (l : Layout) (m : Memory) (s : Unit {0}) (a : ℕ) (f : Fault)
    → first_fault (thread_faults nothing l m s a) ≡ Some f → IsWalkFault f
unfolding thread_faults
thread_walks l m s a f h =
    first_fails IsWalkFault (record_at m a l.thread.size)
    (λ thread. faults_then (first_frame_at l m thread) (λ first. frames_faults nothing l m first)) f
    (record_fails IsWalkFault missing m a l.thread.size)
    (λ thread. first_fails IsWalkFault (first_frame_at l m thread) (λ first. frames_faults nothing l m first) f
    (first_frame_fails l m thread)
    (λ first. frames_walk l m first f)) h

traces_walk : (l : Layout) (m : Memory) (interpreter : ℕ) (f : Fault)
    → first_fault (traces_faults nothing l m interpreter) ≡ Some f → IsWalkFault f
unfolding traces_faults
traces_walk l m interpreter f h =
    first_fails IsWalkFault (word_at m (interpreter + l.interpreter.threads))
    (λ head. walk_faults ThreadLimit (thread_next l m) (thread_faults nothing l m) thread_limit tt head) f
    (word_fails IsWalkFault missing m (interpreter + l.interpreter.threads))
    (λ head. along ThreadLimit (thread_next l m) (thread_faults nothing l m) tt
    (thread_walks l m) thread_limit tt head f) h

-- the first fault of a walk that asks for nothing else
pub stacks_walk : (l : Layout) (m : Memory) (lock interpreter : ℕ) (f : Fault)
    → first_fault (stacks_faults nothing l m lock interpreter) ≡ Some f → IsWalkFault f
unfolding stacks_faults
stacks_walk l m lock interpreter f h =
    first_fails IsWalkFault (holder_id_at l m lock) (λ holder_id. traces_faults nothing l m interpreter) f
    (holder_id_fails IsWalkFault missing l m lock)
    (λ holder_id. traces_walk l m interpreter f) h
