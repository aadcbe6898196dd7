-- The reads of details, in the numbers of members that are met and of variables that are read; and how many reads
-- a walk takes at most, whatever the memory holds.
use Rattle.std.proofs.Common.{◌≡◌, ℕ, zero, suc, ◌+◌, ◌*◌, ◌-◌, ◌^◌, ◌<◌, ◌≤◌, Bool, true, false, cond, ltb, leb, refl}
use Rattle.std.proofs.Common.{◌∙◌, ap, arith}
use Rattle.std.specs.Prelude.{Option, Some, None, Ok, Err, if◌then◌else◌}
use Rattle.std.specs.Int.{w32, cast_signed}
use Rattle.std.proofs.lemmas.Bool.Decides.{nat_tests}
use Rattle.std.proofs.Math.Nat.{mul-add, mul-le-mul_left}
use Rattle.elf64_core.specs.Fields.{u32_in}
use Rattle.process_memory.specs.Memory.{Found, Memory, ◌>>=◌, record_at, word_at}
use Rattle.process_memory.specs.Memory.Fault.{BadValue, FrameLimit, LocalsLimit}
use Rattle.process_memory.specs.Walk.{Step, cost_next, walk_cost}
use Rattle.process_memory.proofs.WalkSums.{walk_none, walk_ones, walk_sum}
use Rattle.py_fields.specs.declared.layout.Layout.{Layout}
use Rattle.py_stacks.specs.declared.asked.Asked.{Asked}
use Rattle.py_stacks.specs.declared.asked.LineNo.{LineNo}
use Rattle.py_stacks.specs.declared.asked.LineNo.TheVariants.{NoLine, First, LastInstruction}
use Rattle.py_stacks.specs.Detail.{detail_at, detail_cost}
use Rattle.py_stacks.specs.Lines.{line_cost}
use Rattle.py_stacks.specs.Locals.{count_of, count_or_zero, locals_cost, locals_read}
use Rattle.py_stacks.specs.Member.{MemberAt}
use Rattle.py_stacks.specs.Frames.{Call, cost_after, extra_cost, frame_limit, frame_step, frames_cost, member_limit}
use Rattle.py_stacks.specs.Frames.{part_by, part_cost, plain_by, records_at, step_by, step_part, with_detail}
use Rattle.py_stacks.specs.Met.{details_cost, details_walked, frames_extra, frames_locals, frames_met, locals_met}
use Rattle.py_stacks.specs.Met.{locals_most, locals_walked, member_locals, members_met, members_walked, of_thread}
use Rattle.py_stacks.specs.Met.{part_locals, thread_details, thread_locals, thread_members, trace_most, traces_most}
use Rattle.py_stacks.specs.Holder.{holder_id_at}
use Rattle.py_stacks.specs.Stacks.{stacks_cost}
use Rattle.py_stacks.specs.Threads.{first_frame_at, thread_cost, thread_frames_cost, thread_limit, thread_step}
use Rattle.py_stacks.proofs.Parts.{plain_is}
use Rattle.py_stacks.proofs.Bounds.{frames_bound, frames_met_most, members_met_most, stacks_below, threads_met_most}

line_most : (lineno : LineNo) → line_cost lineno ≤ 2
line_most NoLine = omega arith
line_most First = omega arith
line_most LastInstruction = omega arith

locals_sum : (asked : Bool) (l : Layout) (r : MemberAt) → locals_cost asked l r ≤ 1 + 4 * locals_read asked l r
unfolding locals_cost locals_read
locals_sum false l r = omega arith
locals_sum true l r = omega arith

-- a count is at most 65535
counted_most : (frame n : ℕ) (t : Bool) → leb n 65535 ≡ t
    → count_or_zero (if t then Ok n else Err (LocalsLimit (cast_signed w32 n))) ≤ 65535
counted_most frame n true e = let fine : n ≤ 65535 = grind (arith, nat_tests) in fine
counted_most frame n false e = omega arith

pub count_most : (l : Layout) (r : MemberAt) → count_or_zero (count_of l r) ≤ 65535
unfolding count_of
count_most l r =
    let n = u32_in r.code l.code.nlocals in
    elim (ltb n (2 ^ 31)) as (λ t. count_or_zero (if t then (if leb n 65535 then Ok n else Err (LocalsLimit (cast_signed w32 n))) else Err (BadValue r.frame_at)) ≤ 65535)
    [ true ↦ counted_most r.frame_at n (leb n 65535) refl | false ↦ omega arith ]

locals_few : (asked : Bool) (l : Layout) (r : MemberAt) → locals_cost asked l r ≤ 1 + locals_most asked
unfolding locals_cost
locals_few false l r = omega arith
locals_few true l r = omega (arith, count_most l r)

-- ---- in the numbers of members and variables

module _ (q : Asked) (l : Layout) (m : Memory) where
  -- two reads for a line, one for the tuple of names, four for each variable
  detail_sum : (r : MemberAt) → detail_cost q l m r ≤ 4 * locals_read q.locals l r + 3
  unfolding detail_cost
  detail_sum r = omega (arith, line_most q.lineno, locals_sum q.locals l r)

  part_sum : (kept : ℕ) (r : MemberAt) (p : Option Call) → part_cost q l m kept r p ≤ 4 * part_locals q l kept r p + 3
  part_sum kept r None = omega arith
  part_sum kept r (Some c) =
      elim (ltb kept frame_limit) as (λ t. cond t (detail_cost q l m r) 0 ≤ 4 * cond t (locals_read q.locals l r) 0 + 3)
      [ true ↦ detail_sum r | false ↦ omega arith ]

  extra_sum : (kept a : ℕ) → extra_cost q l m kept a ≤ 4 * member_locals q l m kept a + 3
  unfolding extra_cost member_locals
  extra_sum kept a =
      elim (records_at l m a) as (λ v. cost_after v (λ r. part_cost q l m kept r (plain_by l m r)) ≤ 4 * cost_after v (λ r. part_locals q l kept r (plain_by l m r)) + 3)
      [ Ok r ↦ part_sum kept r (plain_by l m r) | Err e ↦ omega arith ]

  -- three for each member
  frames_threes : (first : ℕ) → walk_cost (frame_step q l m) (λ kept a. 3) member_limit 0 first ≤ 3 * frames_met q l m first
  unfolding frames_met
  frames_threes first =
      let none = walk_none (frame_step q l m) (λ kept a. 0) (λ kept a. refl) member_limit 0 first in
      omega (arith, none, walk_sum (frame_step q l m) 3 (λ kept a. 3) (λ kept a. 1) (λ kept a. 0) (λ kept a. omega arith) member_limit 0 first)

  frames_sum : (first : ℕ) → frames_extra q l m first ≤ 4 * frames_locals q l m first + 3 * frames_met q l m first
  unfolding frames_extra frames_locals
  frames_sum first = omega (arith, frames_threes first, walk_sum (frame_step q l m) 4 (extra_cost q l m) (member_locals q l m) (λ kept a. 3) extra_sum member_limit 0 first)

  thread_sum : (s : Unit {0}) (a : ℕ)
      → of_thread (frames_extra q l m) l m s a ≤ 4 * of_thread (frames_locals q l m) l m s a + 3 * of_thread (frames_met q l m) l m s a
  thread_sum s a =
      elim (record_at m a l.thread.size >>= first_frame_at l m) as (λ v. cost_after v (frames_extra q l m) ≤ 4 * cost_after v (frames_locals q l m) + 3 * cost_after v (frames_met q l m))
      [ Ok first ↦ frames_sum first | Err e ↦ omega arith ]

  -- the same of one thread alone
  pub thread_details_sum : (thread : ℕ)
      → thread_details q l m thread ≤ 3 * thread_members q l m thread + 4 * thread_locals q l m thread
  unfolding thread_details thread_members thread_locals
  thread_details_sum thread = omega (arith, thread_sum tt thread)

  members_threes : (head : ℕ) → walk_cost (thread_step q l m) (λ s a. 3 * of_thread (frames_met q l m) l m s a) thread_limit tt head
      ≤ 3 * walk_cost (thread_step q l m) (of_thread (frames_met q l m) l m) thread_limit tt head
  members_threes head =
      let none = walk_none (thread_step q l m) (λ s a. 0) (λ s a. refl) thread_limit tt head in
      omega (arith, none, walk_sum (thread_step q l m) 3 (λ s a. 3 * of_thread (frames_met q l m) l m s a) (of_thread (frames_met q l m) l m) (λ s a. 0) (λ s a. omega arith) thread_limit tt head)

  along : (head : ℕ) → walk_cost (thread_step q l m) (of_thread (frames_extra q l m) l m) thread_limit tt head
      ≤ 3 * walk_cost (thread_step q l m) (of_thread (frames_met q l m) l m) thread_limit tt head + 4 * walk_cost (thread_step q l m) (of_thread (frames_locals q l m) l m) thread_limit tt head
  along head = omega (arith, members_threes head, walk_sum (thread_step q l m) 4 (of_thread (frames_extra q l m) l m) (of_thread (frames_locals q l m) l m) (λ s a. 3 * of_thread (frames_met q l m) l m s a) thread_sum thread_limit tt head)

  -- at most three reads for each member that is met, and four for each variable that is read
  pub details_sum : (interpreter : ℕ)
      → details_cost q l m interpreter ≤ 3 * members_met q l m interpreter + 4 * locals_met q l m interpreter
  unfolding details_cost members_met locals_met
  details_sum interpreter =
      elim (word_at m (interpreter + l.interpreter.threads)) as (λ v. cost_after v (λ head. walk_cost (thread_step q l m) (of_thread (frames_extra q l m) l m) thread_limit tt head) ≤ 3 * cost_after v (λ head. walk_cost (thread_step q l m) (of_thread (frames_met q l m) l m) thread_limit tt head) + 4 * cost_after v (λ head. walk_cost (thread_step q l m) (of_thread (frames_locals q l m) l m) thread_limit tt head))
      [ Ok head ↦ along head | Err e ↦ omega arith ]

  pub details_walked_sum : (lock interpreter : ℕ) → details_walked q l m lock interpreter
      ≤ 3 * members_walked q l m lock interpreter + 4 * locals_walked q l m lock interpreter
  unfolding details_walked members_walked locals_walked
  details_walked_sum lock interpreter =
      elim (holder_id_at l m lock) as (λ v. cost_after v (λ holder_id. details_cost q l m interpreter) ≤ 3 * cost_after v (λ holder_id. members_met q l m interpreter) + 4 * cost_after v (λ holder_id. locals_met q l m interpreter))
      [ Ok holder_id ↦ details_sum interpreter | Err e ↦ omega arith ]

-- ---- whatever the memory holds

-- a walk costs at most what its state has left for the members to come
module _ {S T : Type 0} (step : S → ℕ → Found (Step S T)) (cost : S → ℕ → ℕ) (left : S → ℕ) where
  walk_within : ((s : S) (a : ℕ) → cost s a + cost_next (step s a) (λ t n. left t) ≤ left s) → (k : ℕ) (s : S) (a : ℕ)
      → walk_cost step cost k s a ≤ left s
  unfolding walk_cost
  walk_within each k s zero = omega arith
  walk_within each zero s (suc a) = omega arith
  walk_within each (suc k) s (suc a) =
      let rest : cost_next (step s (suc a)) (λ t n. walk_cost step cost k t n) ≤ cost_next (step s (suc a)) (λ t n. left t) =
      elim (step s (suc a)) as (λ v. cost_next v (λ t n. walk_cost step cost k t n) ≤ cost_next v (λ t n. left t))
      [ Ok x ↦ walk_within each k x.state x.next | Err q ↦ omega arith ] in
      omega (arith, each s (suc a), rest)

module _ (q : Asked) (l : Layout) (m : Memory) where
  detail_few : (r : MemberAt) → detail_cost q l m r ≤ 3 + locals_most q.locals
  unfolding detail_cost
  detail_few r = omega (arith, line_most q.lineno, locals_few q.locals l r)

  -- where so many are kept, so many details more can be read
  abbrev left_for : ℕ → ℕ
  left_for kept = (3 + locals_most q.locals) * (frame_limit - kept)

  left_more : (kept : ℕ) → kept < frame_limit → left_for kept ≡ (3 + locals_most q.locals) * 1 + left_for (kept + 1)
  left_more kept below =
      let room : frame_limit - kept ≡ 1 + (frame_limit - (kept + 1)) = omega arith in
      ap (λ n. (3 + locals_most q.locals) * n) room ∙ mul-add (3 + locals_most q.locals) 1 (frame_limit - (kept + 1))

  kept_few : (kept : ℕ) (r : MemberAt) (c : Call) (below : Bool) → ltb kept frame_limit ≡ below
      → (if below then detail_cost q l m r else 0) + cost_next ((if below then detail_at q l m r >>= (λ d. Ok (Some (with_detail c d))) else Err FrameLimit) >>= (λ x. Ok (step_part l kept r x))) (λ t n. left_for t) ≤ left_for kept
  kept_few kept r c false e = omega arith
  kept_few kept r c true e =
      let below : kept < frame_limit = grind (arith, nat_tests) in
      elim (detail_at q l m r) as (λ v. detail_cost q l m r + cost_next ((v >>= (λ d. Ok (Some (with_detail c d)))) >>= (λ x. Ok (step_part l kept r x))) (λ t n. left_for t) ≤ left_for kept)
      [ Ok d ↦ omega (arith, detail_few r, left_more kept below) | Err f ↦ omega (arith, detail_few r, left_more kept below) ]

  part_few : (kept : ℕ) (r : MemberAt) (p : Option Call)
      → part_cost q l m kept r p + cost_next (part_by q l m kept r p >>= (λ x. Ok (step_part l kept r x))) (λ t n. left_for t) ≤ left_for kept
  part_few kept r None = omega arith
  part_few kept r (Some c) = kept_few kept r c (ltb kept frame_limit) refl

  step_few : (kept : ℕ) (r : MemberAt)
      → part_cost q l m kept r (plain_by l m r) + cost_next (step_by q l m kept r) (λ t n. left_for t) ≤ left_for kept
  step_few kept r = rw (plain_is l m r) (part_few kept r (plain_by l m r))

  extra_few : (kept a : ℕ) → extra_cost q l m kept a + cost_next (frame_step q l m kept a) (λ t n. left_for t) ≤ left_for kept
  unfolding extra_cost frame_step
  extra_few kept a =
      elim (records_at l m a) as (λ v. cost_after v (λ r. part_cost q l m kept r (plain_by l m r)) + cost_next (v >>= step_by q l m kept) (λ t n. left_for t) ≤ left_for kept)
      [ Ok r ↦ step_few kept r | Err e ↦ omega arith ]

  -- the details of those that can be kept
  frames_few : (first : ℕ) → frames_extra q l m first ≤ frame_limit * (3 + locals_most q.locals)
  unfolding frames_extra
  frames_few first = omega (arith, walk_within (frame_step q l m) (extra_cost q l m) left_for extra_few member_limit 0 first)

  -- a chain of members, cyclic or not
  chain_most : (first : ℕ) → frames_cost q l m first ≤ 6 * member_limit + frame_limit * (3 + locals_most q.locals)
  chain_most first = omega (arith, frames_bound q l m first, frames_met_most q l m first, frames_few first)

  -- a thread two more
  pub thread_most : (a : ℕ) → thread_cost q l m tt a ≤ trace_most q.locals
  unfolding thread_cost thread_frames_cost
  thread_most a =
      let frames : cost_after (record_at m a l.thread.size >>= first_frame_at l m) (frames_cost q l m) ≤ 6 * member_limit + frame_limit * (3 + locals_most q.locals) =
      elim (record_at m a l.thread.size >>= first_frame_at l m) as (λ v. cost_after v (frames_cost q l m) ≤ 6 * member_limit + frame_limit * (3 + locals_most q.locals))
      [ Ok first ↦ chain_most first | Err e ↦ omega arith ] in
      omega (arith, frames)

  of_thread_few : (s : Unit {0}) (a : ℕ)
      → of_thread (frames_extra q l m) l m s a ≤ (frame_limit * (3 + locals_most q.locals)) * 1 + 0
  of_thread_few s a =
      elim (record_at m a l.thread.size >>= first_frame_at l m) as (λ v. cost_after v (frames_extra q l m) ≤ (frame_limit * (3 + locals_most q.locals)) * 1 + 0)
      [ Ok first ↦ omega (arith, frames_few first) | Err e ↦ omega arith ]

  all_few : (head : ℕ) → walk_cost (thread_step q l m) (of_thread (frames_extra q l m) l m) thread_limit tt head
      ≤ thread_limit * (frame_limit * (3 + locals_most q.locals))
  all_few head =
      let none = walk_none (thread_step q l m) (λ s a. 0) (λ s a. refl) thread_limit tt head in
      let ones = walk_ones (thread_step q l m) (λ s a. 1) (λ s a. omega arith) thread_limit tt head in
      let most = mul-le-mul_left (frame_limit * (3 + locals_most q.locals)) ones in
      omega (arith, none, most, walk_sum (thread_step q l m) (frame_limit * (3 + locals_most q.locals)) (of_thread (frames_extra q l m) l m) (λ s a. 1) (λ s a. 0) of_thread_few thread_limit tt head)

  details_few : (interpreter : ℕ) → details_cost q l m interpreter ≤ thread_limit * (frame_limit * (3 + locals_most q.locals))
  unfolding details_cost
  details_few interpreter =
      elim (word_at m (interpreter + l.interpreter.threads)) as (λ v. cost_after v (λ head. walk_cost (thread_step q l m) (of_thread (frames_extra q l m) l m) thread_limit tt head) ≤ thread_limit * (frame_limit * (3 + locals_most q.locals)))
      [ Ok head ↦ all_few head | Err e ↦ omega arith ]

  -- an interpreter
  pub stacks_most : (lock interpreter : ℕ) → stacks_cost q l m lock interpreter ≤ traces_most q.locals
  stacks_most lock interpreter =
      omega (arith, stacks_below q l m lock interpreter, details_few interpreter, threads_met_most q l m interpreter, members_met_most q l m interpreter)
