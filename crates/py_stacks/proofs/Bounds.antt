-- The bound on the reads of a walk, in the numbers of threads and members that it meets; and on these numbers.
use Rattle.std.proofs.Common.{ℕ, zero, suc, ◌+◌, ◌*◌, ◌≤◌, arith}
use Rattle.std.specs.Prelude.{Ok, Err}
use Rattle.process_memory.specs.Memory.{Memory, Found, ◌>>=◌, record_at, word_at}
use Rattle.process_memory.specs.Walk.{Step, cost_next, walk_cost}
use Rattle.process_memory.proofs.WalkSums.{walk_ones, walk_sum}
use Rattle.py_fields.specs.declared.layout.Layout.{Layout}
use Rattle.py_stacks.specs.declared.asked.Asked.{Asked}
use Rattle.py_stacks.specs.Frames.{cost_after, extra_cost, frame_step, frames_cost, member_cost, member_limit}
use Rattle.py_stacks.specs.Met.{details_cost, details_walked, frames_extra, frames_met, members_met, members_walked}
use Rattle.py_stacks.specs.Met.{of_thread, stacks_bound, thread_bound, thread_details, thread_members, threads_met}
use Rattle.py_stacks.specs.Met.{threads_walked, where_held}
use Rattle.py_stacks.specs.Stacks.{stacks_cost}
use Rattle.py_stacks.specs.Threads.{first_frame_at, thread_cost, thread_frames_cost, thread_limit, thread_step}
use Rattle.py_stacks.specs.Threads.{threads_cost, traces_cost}
use Rattle.py_stacks.specs.Holder.{holder_id_at}

module _ {S T : Type 0} (step : S → ℕ → Found (Step S T)) where
  -- at most as many each as members are met
  walk_most : (cost : S → ℕ → ℕ) → ((s : S) (a : ℕ) → cost s a ≤ member_limit) → (k : ℕ) (s : S) (a : ℕ)
      → walk_cost step cost k s a ≤ 16384 * k
  unfolding walk_cost
  walk_most cost each k s zero = omega arith
  walk_most cost each zero s (suc a) = omega arith
  walk_most cost each (suc k) s (suc a) =
      let rest : cost_next (step s (suc a)) (λ t n. walk_cost step cost k t n) ≤ 16384 * k =
      elim (step s (suc a)) as (λ v. cost_next v (λ t n. walk_cost step cost k t n) ≤ 16384 * k)
      [ Ok x ↦ walk_most cost each k x.state x.next | Err q ↦ omega arith ] in
      omega (arith, each s (suc a), rest)

member_sum : (q : Asked) (l : Layout) (m : Memory) (kept a : ℕ)
    → member_cost q l m kept a ≤ 6 * 1 + extra_cost q l m kept a
unfolding member_cost
member_sum q l m kept a = omega arith

-- at most six reads for each member that is met, and those of the details
pub frames_bound : (q : Asked) (l : Layout) (m : Memory) (first : ℕ)
    → frames_cost q l m first ≤ 6 * frames_met q l m first + frames_extra q l m first
unfolding frames_cost frames_met frames_extra
frames_bound q l m first = walk_sum (frame_step q l m) 6 (member_cost q l m) (λ kept a. 1) (extra_cost q l m) (member_sum q l m) member_limit 0 first

-- a chain of members, cyclic or not, is met at 16384 of them at most
pub frames_met_most : (q : Asked) (l : Layout) (m : Memory) (first : ℕ) → frames_met q l m first ≤ member_limit
unfolding frames_met
frames_met_most q l m first = walk_ones (frame_step q l m) (λ kept a. 1) (λ kept a. omega arith) member_limit 0 first

thread_sum : (q : Asked) (l : Layout) (m : Memory) (s : Unit {0}) (a : ℕ)
    → thread_cost q l m s a ≤ 2 * 1 + (6 * of_thread (frames_met q l m) l m s a + of_thread (frames_extra q l m) l m s a)
unfolding thread_cost thread_frames_cost
thread_sum q l m s a =
    let frames : cost_after (record_at m a l.thread.size >>= first_frame_at l m) (frames_cost q l m) ≤ 6 * of_thread (frames_met q l m) l m s a + of_thread (frames_extra q l m) l m s a =
    elim (record_at m a l.thread.size >>= first_frame_at l m) as (λ v. cost_after v (frames_cost q l m) ≤ 6 * cost_after v (frames_met q l m) + cost_after v (frames_extra q l m))
    [ Ok first ↦ frames_bound q l m first | Err e ↦ omega arith ] in
    omega (arith, frames)

-- two reads for a thread, six for each member that is met, and those of the details
pub thread_within : (q : Asked) (l : Layout) (m : Memory) (thread : ℕ)
    → thread_cost q l m tt thread ≤ thread_bound q l m thread
unfolding thread_members thread_details
thread_within q l m thread = omega (arith, thread_sum q l m tt thread)

-- what the members of a thread add
abbrev six_and_extra : Asked → Layout → Memory → Unit {0} → ℕ → ℕ
six_and_extra q l m s a = 6 * of_thread (frames_met q l m) l m s a + of_thread (frames_extra q l m) l m s a

threads_bound : (q : Asked) (l : Layout) (m : Memory) (head : ℕ)
    → walk_cost (thread_step q l m) (thread_cost q l m) thread_limit tt head ≤ 2 * walk_cost (thread_step q l m) (λ s a. 1) thread_limit tt head + (6 * walk_cost (thread_step q l m) (of_thread (frames_met q l m) l m) thread_limit tt head + walk_cost (thread_step q l m) (of_thread (frames_extra q l m) l m) thread_limit tt head)
threads_bound q l m head =
    let two = walk_sum (thread_step q l m) 2 (thread_cost q l m) (λ s a. 1) (six_and_extra q l m) (thread_sum q l m) thread_limit tt head in
    let six = walk_sum (thread_step q l m) 6 (six_and_extra q l m) (of_thread (frames_met q l m) l m) (of_thread (frames_extra q l m) l m) (λ s a. omega arith) thread_limit tt head in
    omega (arith, two, six)

-- one read for an interpreter, two for each thread that is met, six for each member, and those of the details
pub traces_bound : (q : Asked) (l : Layout) (m : Memory) (interpreter : ℕ)
    → traces_cost q l m interpreter ≤ 1 + 2 * threads_met q l m interpreter + 6 * members_met q l m interpreter + details_cost q l m interpreter
unfolding traces_cost threads_cost threads_met members_met details_cost
traces_bound q l m interpreter =
    let threads : cost_after (word_at m (interpreter + l.interpreter.threads)) (λ head. threads_cost q l m head) ≤ 2 * threads_met q l m interpreter + (6 * members_met q l m interpreter + details_cost q l m interpreter) =
    elim (word_at m (interpreter + l.interpreter.threads)) as (λ v. cost_after v (λ head. threads_cost q l m head) ≤ 2 * cost_after v (λ head. walk_cost (thread_step q l m) (λ s a. 1) thread_limit tt head) + (6 * cost_after v (λ head. walk_cost (thread_step q l m) (of_thread (frames_met q l m) l m) thread_limit tt head) + cost_after v (λ head. walk_cost (thread_step q l m) (of_thread (frames_extra q l m) l m) thread_limit tt head)))
    [ Ok head ↦ threads_bound q l m head | Err e ↦ omega arith ] in
    omega (arith, threads)

-- two more for the holder of the lock
pub stacks_within : (q : Asked) (l : Layout) (m : Memory) (lock interpreter : ℕ)
    → stacks_cost q l m lock interpreter ≤ stacks_bound q l m lock interpreter
unfolding stacks_cost threads_walked members_walked details_walked
stacks_within q l m lock interpreter =
    let traces : cost_after (holder_id_at l m lock) (λ holder_id. traces_cost q l m interpreter) ≤ 1 + 2 * where_held l m lock (threads_met q l m interpreter) + 6 * where_held l m lock (members_met q l m interpreter) + where_held l m lock (details_cost q l m interpreter) =
    elim (holder_id_at l m lock) as (λ v. cost_after v (λ holder_id. traces_cost q l m interpreter) ≤ 1 + 2 * cost_after v (λ holder_id. threads_met q l m interpreter) + 6 * cost_after v (λ holder_id. members_met q l m interpreter) + cost_after v (λ holder_id. details_cost q l m interpreter))
    [ Ok holder_id ↦ traces_bound q l m interpreter | Err e ↦ omega arith ] in
    omega (arith, traces)

-- what is counted behind the holder is counted where there is one
pub held_few : (l : Layout) (m : Memory) (lock n : ℕ) → where_held l m lock n ≤ n
held_few l m lock n = elim (holder_id_at l m lock) as (λ v. cost_after v (λ holder_id. n) ≤ n) [ Ok holder_id ↦ omega arith | Err e ↦ omega arith ]

pub stacks_below : (q : Asked) (l : Layout) (m : Memory) (lock interpreter : ℕ)
    → stacks_cost q l m lock interpreter ≤ 3 + 2 * threads_met q l m interpreter + 6 * members_met q l m interpreter + details_cost q l m interpreter
unfolding threads_walked members_walked details_walked
stacks_below q l m lock interpreter =
    omega (
      arith,
      stacks_within q l m lock interpreter,
      held_few l m lock (threads_met q l m interpreter),
      held_few l m lock (members_met q l m interpreter),
      held_few l m lock (details_cost q l m interpreter),
    )

pub threads_met_most : (q : Asked) (l : Layout) (m : Memory) (interpreter : ℕ)
    → threads_met q l m interpreter ≤ thread_limit
unfolding threads_met
threads_met_most q l m interpreter =
    elim (word_at m (interpreter + l.interpreter.threads)) as (λ v. cost_after v (λ head. walk_cost (thread_step q l m) (λ s a. 1) thread_limit tt head) ≤ thread_limit)
    [ Ok head ↦ walk_ones (thread_step q l m) (λ s a. 1) (λ s a. omega arith) thread_limit tt head | Err e ↦ omega arith ]

of_thread_most : (q : Asked) (l : Layout) (m : Memory) (s : Unit {0}) (a : ℕ)
    → of_thread (frames_met q l m) l m s a ≤ member_limit
of_thread_most q l m s a =
    elim (record_at m a l.thread.size >>= first_frame_at l m) as (λ v. cost_after v (frames_met q l m) ≤ member_limit)
    [ Ok first ↦ frames_met_most q l m first | Err e ↦ omega arith ]

pub members_met_most : (q : Asked) (l : Layout) (m : Memory) (interpreter : ℕ)
    → members_met q l m interpreter ≤ 16384 * thread_limit
unfolding members_met
members_met_most q l m interpreter =
    elim (word_at m (interpreter + l.interpreter.threads)) as (λ v. cost_after v (λ head. walk_cost (thread_step q l m) (of_thread (frames_met q l m) l m) thread_limit tt head) ≤ 16384 * thread_limit)
    [ Ok head ↦ walk_most (thread_step q l m) (of_thread (frames_met q l m) l m) (of_thread_most q l m) thread_limit tt head | Err e ↦ omega arith ]
