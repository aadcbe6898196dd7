-- Where the details of members take no reads, as where nothing is asked for, a walk takes so many at most.
use Rattle.std.proofs.Common.{◌≡◌, ℕ, ◌+◌, ◌*◌, ◌≤◌, true, false, cond, ltb, refl, arith}
use Rattle.std.specs.Prelude.{Option, Some, None, Ok, Err}
use Rattle.process_memory.specs.Memory.{Memory, ◌>>=◌, record_at, word_at}
use Rattle.process_memory.specs.Walk.{walk_cost}
use Rattle.py_fields.specs.declared.layout.Layout.{Layout}
use Rattle.py_stacks.specs.declared.asked.Asked.{Asked}
use Rattle.py_stacks.specs.Asking.{nothing}
use Rattle.py_stacks.specs.Detail.{detail_cost}
use Rattle.py_stacks.specs.Member.{MemberAt}
use Rattle.py_stacks.specs.Frames.{Call, cost_after, extra_cost, frame_limit, frame_step, member_limit, part_cost}
use Rattle.py_stacks.specs.Frames.{plain_by, records_at}
use Rattle.py_stacks.specs.Met.{details_cost, frames_extra, members_met, of_thread, threads_met}
use Rattle.py_stacks.specs.Threads.{first_frame_at, thread_limit, thread_step, traces_cost}
use Rattle.py_stacks.proofs.Details.{nothing_costs}
use Rattle.py_stacks.proofs.Bounds.{traces_bound}
use Rattle.process_memory.proofs.WalkSums.{walk_none}

module _ (q : Asked) (l : Layout) (m : Memory) (free : (r : MemberAt) → detail_cost q l m r ≡ 0) where
  part_free : (kept : ℕ) (r : MemberAt) (p : Option Call) → part_cost q l m kept r p ≡ 0
  part_free kept r None = refl
  part_free kept r (Some c) =
      elim (ltb kept frame_limit) as (λ t. cond t (detail_cost q l m r) 0 ≡ 0)
      [ true ↦ free r | false ↦ refl ]

  extra_free : (kept a : ℕ) → extra_cost q l m kept a ≡ 0
  unfolding extra_cost
  extra_free kept a =
      elim (records_at l m a) as (λ v. cost_after v (λ r. part_cost q l m kept r (plain_by l m r)) ≡ 0)
      [ Ok r ↦ part_free kept r (plain_by l m r) | Err e ↦ refl ]

  frames_free : (first : ℕ) → frames_extra q l m first ≡ 0
  unfolding frames_extra
  frames_free first = walk_none (frame_step q l m) (extra_cost q l m) extra_free member_limit 0 first

  of_thread_free : (s : Unit {0}) (a : ℕ) → of_thread (frames_extra q l m) l m s a ≡ 0
  of_thread_free s a =
      elim (record_at m a l.thread.size >>= first_frame_at l m) as (λ v. cost_after v (frames_extra q l m) ≡ 0)
      [ Ok first ↦ frames_free first | Err e ↦ refl ]

  pub details_free : (interpreter : ℕ) → details_cost q l m interpreter ≡ 0
  unfolding details_cost
  details_free interpreter =
      elim (word_at m (interpreter + l.interpreter.threads)) as (λ v. cost_after v (λ head. walk_cost (thread_step q l m) (of_thread (frames_extra q l m) l m) thread_limit tt head) ≡ 0)
      [ Ok head ↦ walk_none (thread_step q l m) (of_thread (frames_extra q l m) l m) of_thread_free thread_limit tt head | Err e ↦ refl ]

-- one read for an interpreter, two for each thread that is met, and six for each member
pub plain_bound : (l : Layout) (m : Memory) (interpreter : ℕ)
    → traces_cost nothing l m interpreter ≤ 1 + 2 * threads_met nothing l m interpreter + 6 * members_met nothing l m interpreter
plain_bound l m interpreter = omega (arith, traces_bound nothing l m interpreter, details_free nothing l m (nothing_costs l m) interpreter)
