-- Walks along an interpreter's threads, one by one.
use Rattle.std.proofs.Common.{◌≡◌, ◌≢◌, ℕ, suc, ◌+◌, ◌*◌, ◌-◌, ◌<◌, ◌≤◌, min, List, [], ◌∷◌, ◌++◌, length, map, refl}
use Rattle.std.proofs.Common.{sym, ◌∙◌, ap, arith, length-append}
use Rattle.std.proofs.Math.Nat.{le_refl}
use Rattle.std.proofs.lemmas.List.{length-map, map-append}
use Rattle.std.proofs.lemmas.List.Sums.{sum_by-cons, sum_by_push}
use Rattle.std.specs.Prelude.{Ok, Err, Result, sum_by}
use Rattle.elf64_core.specs.Fields.{u64_in}
use Rattle.process_memory.specs.Memory.{Memory, byte_at, record_at}
use Rattle.process_memory.specs.Seen.{Reading, Seen}
use Rattle.process_memory.proofs.Reading.{reading_gives, reading_here, reading_none, reading_then}
use Rattle.py_fields.specs.declared.layout.Layout.{Layout}
use Rattle.py_stacks.specs.Threads.{native_id, thread_limit}
use Rattle.py_stacks.specs.declared.asked.Asked.{Asked}
use Rattle.py_stacks.specs.declared.error.StackError.{StackError}
use Rattle.py_stacks.specs.declared.error.StackError.TheVariants as stack
use Rattle.py_fronts.specs.declared.chain_end.ChainEnd.{ChainEnd}
use Rattle.py_fronts.specs.declared.thread_front.ThreadFront.{ThreadFront}
use Rattle.py_fronts.specs.declared.thread_front.Thread.TheVariants.{Broken}
use Rattle.py_fronts.specs.ChainEnds.{ending_of}
use Rattle.py_fronts.specs.declared.frame_front.FramesFront.{FramesFront}
use Rattle.py_fronts.specs.FrameFronts.{FramesShown, chain_of_thread, ends_reads, frames_front, frames_shown}
use Rattle.py_fronts.specs.FrameFronts.{shown_first, shown_last, thread_members_limit}
use Rattle.py_fronts.specs.Members.{Chained}
use Rattle.py_fronts.proofs.FirstThreadLaws.{thread_equal}
use Rattle.py_fronts.specs.Front.{Break, Ending, Front, behind, front_at}
use Rattle.py_fronts.specs.Front.Ending.{Whole, Cut}
use Rattle.py_fronts.specs.ThreadFronts.{ThreadIs, ThreadShown, ThreadsShown, Threading, after_record, front_shown}
use Rattle.py_fronts.specs.ThreadFronts.{left_after, thread_by, thread_front, thread_of, thread_shown, threads_front}
use Rattle.py_fronts.specs.ThreadFronts.{ReadingThreads, thread_reads, threads_reads, threads_shown}
use Rattle.py_fronts.specs.Standings.{standing_at}
use Rattle.py_fronts.proofs.Steps.{reading_both}
use Rattle.py_fronts.proofs.FrontLaws.{behind_ends, behind_more, front_end, front_full, front_stop}

pub frames_met : (q : Asked) (l : Layout) (m : Memory) (limit : ℕ) (f : FramesFront) (c : Chained) → frames_front f ≡ frames_shown q l m limit c → f.met ≡ c.met
unfolding frames_shown
frames_met q l m limit f c e = ap (λ (r : FramesShown). r.met) e

pub thread_stands : (q : Asked) (l : Layout) (m : Memory) (limit left a : ℕ) (thread : List ℕ) (chain : Chained) (frames : FramesShown) (most : ℕ) (t : ThreadShown) → most ≡ min left thread_members_limit → chain ≡ chain_of_thread l m most thread
    → frames ≡ frames_shown q l m limit chain → t.address ≡ a → t.thread_id ≡ u64_in thread l.thread.id → t.os_thread_id ≡ native_id l.thread.native_id thread → t.frames ≡ frames → t ≡ thread_by q l m limit left a thread
thread_stands q l m limit left a thread chain frames most t is c f address id os same =
    thread_equal t (thread_by q l m limit left a thread) address id os (same ∙ f ∙ ap (frames_shown q l m limit) (c ∙ ap (λ n. chain_of_thread l m n thread) is))

-- the reads of a thread behind its record, by its chain
pub thread_cost : (q : Asked) (l : Layout) (m : Memory) (limit left a : ℕ) (thread : List ℕ) (most : ℕ)
    → most ≡ min left thread_members_limit → thread_reads q (thread_by q l m limit left a thread)
    ≡ 6 + 5 * (chain_of_thread l m most thread).met + ends_reads q limit (chain_of_thread l m most thread).kept
unfolding frames_shown
thread_cost q l m limit left a thread most is =
    let kept = (chain_of_thread l m (min left thread_members_limit) thread).kept in
    rw (is, length-map (shown_first limit kept) (standing_at q l m), length-map (shown_last limit kept) (standing_at q l m)) refl

left_append : (before : ℕ) (ts : List ThreadShown) (t : ThreadShown) → left_after before (ts ++ t ∷ []) ≡ left_after before ts - t.frames.met
unfolding left_after
left_append before [] t = refl
left_append before (x ∷ xs) t = left_append (before - x.frames.met) xs t

shown_append : (q : Asked) (l : Layout) (m : Memory) (limit before : ℕ) (xs : List ℕ) (a : ℕ)
    → threads_shown q l m limit before (xs ++ a ∷ []) ≡ threads_shown q l m limit before xs ++ thread_shown q l m limit (left_after before (threads_shown q l m limit before xs)) a ∷ []
unfolding threads_shown left_after
shown_append q l m limit before [] a = refl
shown_append q l m limit before (x ∷ xs) a = ap (λ ts. thread_shown q l m limit before x ∷ ts) (shown_append q l m limit (before - (thread_shown q l m limit before x).frames.met) xs a)

thread_is : (q : Asked) (l : Layout) (m : Memory) (limit left a : ℕ) (bytes : List ℕ) (t : ThreadShown) → record_at m a l.thread.size ≡ Ok bytes → t ≡ thread_by q l m limit left a bytes → t ≡ thread_shown q l m limit left a
unfolding thread_shown
thread_is q l m limit left a bytes t e h = rw e h

next_is : (l : Layout) (i : ℕ) (m : Memory) (a : ℕ) (r : Result ℕ Break) → after_record l i (record_at m a l.thread.size) ≡ r → thread_of l i m a ≡ r
unfolding thread_of
next_is l i m a r e = e

pub threading_init : (q : Asked) (l : Layout) (limit i head before : ℕ) (s : Seen) → Threading q l limit i head before s s [] before head
unfolding left_after threads_shown
threading_init q l limit i head before s = record {
  members = [];
  spent = 0;
  within = omega arith;
  fewer = omega arith;
  cost = omega arith;
  reading = reading_none 0 s _ (λ m. (refl, refl));
  after = refl;
}

shown_ends : (q : Asked) (l : Layout) (limit i head before : ℕ) (threads : List ThreadFront) (m : Memory) (ending : Ending) (members : List ℕ) → threads_front l i m head ≡ record { members = members; ending = ending }
    → map thread_front threads ≡ threads_shown q l m limit before members
    → ◌≡◌ {A = ThreadsShown} (record { threads = map thread_front threads; ending = ending }) (front_shown q l m limit before (threads_front l i m head))
shown_ends q l limit i head before threads m ending members front shows = rw (front, shows) refl

cost_more : (q : Asked) (ts : List ThreadShown) (t : ThreadShown)
    → sum_by (λ (t : ThreadShown). 1 + thread_reads q t) (ts ++ t ∷ [])
    ≡ sum_by (λ (t : ThreadShown). 1 + thread_reads q t) ts + (1 + thread_reads q t)
cost_more q ts t = sum_by_push (λ (t : ThreadShown). 1 + thread_reads q t) ts t

-- the threads at the first of some addresses cost no more than those at all of them
shown_part : (q : Asked) (l : Layout) (m : Memory) (limit before : ℕ) (xs ys : List ℕ)
    → sum_by (λ (t : ThreadShown). 1 + thread_reads q t) (threads_shown q l m limit before xs)
    ≤ sum_by (λ (t : ThreadShown). 1 + thread_reads q t) (threads_shown q l m limit before (xs ++ ys))
unfolding threads_shown
shown_part q l m limit before [] ys = omega arith
shown_part q l m limit before (x ∷ xs) ys =
    let one = thread_shown q l m limit before x in
    let next = before - one.frames.met in
    omega (
      arith,
      sum_by-cons (λ (t : ThreadShown). 1 + thread_reads q t) one (threads_shown q l m limit next xs),
      sum_by-cons (λ (t : ThreadShown). 1 + thread_reads q t) one (threads_shown q l m limit next (xs ++ ys)),
      shown_part q l m limit next xs ys,
    )

module _ {q : Asked} {l : Layout} {limit i head before : ℕ} {s0 s1 : Seen} {threads : List ThreadFront} {left at : ℕ} where
  pub threading_more : {s2 s3 : Seen} (t : ThreadFront) (bytes : List ℕ) (next rest : ℕ) → Threading q l limit i head before s0 s1 threads left at → at ≢ 0 → length threads < thread_limit
      → Reading 1 s1 s2 (λ m. (record_at m at l.thread.size ≡ Ok bytes) × (after_record l i (record_at m at l.thread.size) ≡ Ok next))
      → Reading (thread_reads q (thread_by q l (byte_at s2.pieces) limit left at bytes)) s2 s3 (λ m. thread_front t ≡ thread_by q l m limit left at bytes) → t.frames.met ≤ left → rest ≡ left - t.frames.met
      → Threading q l limit i head before s0 s3 (threads ++ t ∷ []) rest next
  threading_more {s2 = s2} t bytes next rest w some below r f few is =
      let room : thread_limit - length threads ≡ suc (thread_limit - (length threads + 1)) = omega arith in
      let more : length (threads ++ t ∷ []) ≡ length threads + 1 = length-append threads (t ∷ []) in
      record {
        members = w.members ++ at ∷ [];
        spent = w.spent + 1 + thread_reads q (thread_by q l (byte_at s2.pieces) limit left at bytes);
        within = omega (arith, more);
        fewer = omega (arith, w.fewer);
        cost = omega (
          arith,
          w.cost,
          cost_more q (map thread_front threads) (thread_front t),
          ap (thread_reads q) (reading_here f),
          ap (sum_by (λ (t : ThreadShown). 1 + thread_reads q t)) (map-append thread_front threads (t ∷ [])),
        );
        reading = reading_then (λ m. (threads_front l i m head ≡ behind (w.members ++ at ∷ []) (front_at (thread_of l i m) (thread_limit - length (threads ++ t ∷ [])) next))
            × (map thread_front (threads ++ t ∷ []) ≡ threads_shown q l m limit before (w.members ++ at ∷ [])))
            (reading_then (λ m. (threads_front l i m head ≡ behind (w.members ++ at ∷ []) (front_at (thread_of l i m) (thread_limit - length (threads ++ t ∷ [])) next))
            × (map thread_front threads ≡ threads_shown q l m limit before w.members) × (record_at m at l.thread.size ≡ Ok bytes)) w.reading r
            (λ m p d. (rw more (behind_more (thread_of l i m) (thread_limit - (length threads + 1)) w.members (threads_front l i m head) at next some (next_is l i m at (Ok next) d.1) (rw room at p.0)), p.1, d.0)))
            f
            (λ m p e.
            let same : left ≡ left_after before (threads_shown q l m limit before w.members) = w.after ∙ ap (left_after before) p.1 in
            let one = thread_is q l m limit left at bytes (thread_front t) p.2 e in (
              p.0,
              map-append thread_front threads (t ∷ []) ∙ ap (λ ts. ts ++ thread_front t ∷ []) p.1
                  ∙ ap (λ x. threads_shown q l m limit before w.members ++ x ∷ []) (one ∙ ap (λ n. thread_shown q l m limit n at) same)
                  ∙ sym (shown_append q l m limit before w.members at),
            ));
        after = is ∙ ap (λ n. n - t.frames.met) w.after ∙ sym (left_append before (map thread_front threads) (thread_front t)) ∙ ap (left_after before) (sym (map-append thread_front threads (t ∷ [])));
      }

  -- the chain is whole
  pub threading_done : Threading q l limit i head before s0 s1 threads left at → at ≡ 0
      → ReadingThreads q l limit before i head s0 s1 (λ m. ◌≡◌ {A = ThreadsShown} (record { threads = map thread_front threads; ending = Whole }) (front_shown q l m limit before (threads_front l i m head)))
  threading_done w null =
      let all = reading_gives w.spent (λ m. ◌≡◌ {A = ThreadsShown} (record { threads = map thread_front threads; ending = Whole }) (front_shown q l m limit before (threads_front l i m head))) w.reading (le_refl _)
      (λ m p. shown_ends q l limit i head before threads m Whole w.members (behind_ends (thread_of l i m) (thread_limit - length threads) w.members (threads_front l i m head) at Whole (front_end (thread_of l i m) (thread_limit - length threads) at null) p.0) p.1) in
      reading_gives _ _ all (omega (arith, w.cost, ap (threads_reads q) (reading_here all))) (λ m h. h)

  -- a further thread is there, and no more may be met
  pub threading_full : Threading q l limit i head before s0 s1 threads left at → at ≢ 0 → length threads ≡ thread_limit
      → ReadingThreads q l limit before i head s0 s1 (λ m. ◌≡◌ {A = ThreadsShown} (record { threads = map thread_front threads; ending = Cut }) (front_shown q l m limit before (threads_front l i m head)))
  threading_full w some full =
      let none : thread_limit - length threads ≡ 0 = omega arith in
      let all = reading_gives w.spent (λ m. ◌≡◌ {A = ThreadsShown} (record { threads = map thread_front threads; ending = Cut }) (front_shown q l m limit before (threads_front l i m head))) w.reading (le_refl _)
      (λ m p. shown_ends q l limit i head before threads m Cut w.members (behind_ends (thread_of l i m) 0 w.members (threads_front l i m head) at Cut (front_full (thread_of l i m) at some) (rw none at p.0)) p.1) in
      reading_gives _ _ all (omega (arith, w.cost, ap (threads_reads q) (reading_here all))) (λ m h. h)

  -- what is there is none
  pub threading_broken : {s2 : Seen} (end : ChainEnd) → Threading q l limit i head before s0 s1 threads left at → at ≢ 0 → length threads < thread_limit
      → Reading 1 s1 s2 (λ m. ThreadIs l i (record_at m at l.thread.size) (Ok (Broken end)))
      → ReadingThreads q l limit before i head s0 s2 (λ m. ◌≡◌ {A = ThreadsShown} (record { threads = map thread_front threads; ending = ending_of end }) (front_shown q l m limit before (threads_front l i m head)))
  threading_broken end w some below r =
      let room : thread_limit - length threads ≡ suc (thread_limit - (length threads + 1)) = omega arith in
      let all = reading_then (λ m. ◌≡◌ {A = ThreadsShown} (record { threads = map thread_front threads; ending = ending_of end }) (front_shown q l m limit before (threads_front l i m head))) w.reading r
      (λ m p d.
      let stops = front_stop (thread_of l i m) (thread_limit - (length threads + 1)) at d.0 some (next_is l i m at (Err d.0) d.1) in
      let is : front_at (thread_of l i m) (suc (thread_limit - (length threads + 1))) at ≡ record { members = []; ending = ending_of end } = stops ∙ ap (λ (e : Ending). record { members = []; ending = e }) (sym d.2) in
      shown_ends q l limit i head before threads m (ending_of end) w.members (behind_ends (thread_of l i m) (suc (thread_limit - (length threads + 1))) w.members (threads_front l i m head) at (ending_of end) is (rw room at p.0)) p.1) in
      reading_gives _ _ all (omega (arith, w.cost, ap (threads_reads q) (reading_here all))) (λ m h. h)

  -- memory was wanting at the next record
  pub threading_stops : {n : ℕ} {s2 : Seen} {P : Memory → Type 0} (e : StackError) → Threading q l limit i head before s0 s1 threads left at
      → Reading n s1 s2 P → n ≤ 1 → ((m : Memory) → P m → e ≡ stack.OutOfMemory) → ReadingThreads q l limit before i head s0 s2 (λ m. e ≡ stack.OutOfMemory)
  threading_stops e w r few lost =
      let here = byte_at s0.pieces in
      let p = reading_here w.reading in
      let rest = front_at (thread_of l i here) (thread_limit - length threads) at in
      reading_gives _ _ (reading_then (λ m. e ≡ stack.OutOfMemory) w.reading r (λ m p h. lost m h))
      (omega (
        arith,
        few,
        w.cost,
        ap (sum_by (λ (t : ThreadShown). 1 + thread_reads q t)) p.1,
        shown_part q l here limit before w.members rest.members,
        ap (λ (f : Front). sum_by (λ (t : ThreadShown). 1 + thread_reads q t) (threads_shown q l here limit before f.members)) p.0,
      )) (λ m h. h)

  -- and behind it
  pub threading_lost : {s2 s3 : Seen} {P : Memory → Type 0} (bytes : List ℕ) (next : ℕ) (e : StackError) → Threading q l limit i head before s0 s1 threads left at → at ≢ 0 → length threads < thread_limit
      → Reading 1 s1 s2 (λ m. (record_at m at l.thread.size ≡ Ok bytes) × (after_record l i (record_at m at l.thread.size) ≡ Ok next))
      → Reading (thread_reads q (thread_by q l (byte_at s2.pieces) limit left at bytes)) s2 s3 P → ((m : Memory) → P m → e ≡ stack.OutOfMemory)
      → ReadingThreads q l limit before i head s0 s3 (λ m. e ≡ stack.OutOfMemory)
  threading_lost bytes next e w some below r f lost =
      let here = byte_at s0.pieces in
      let both = reading_both w.reading r in
      let p = reading_here both in
      let room : thread_limit - length threads ≡ suc (thread_limit - (length threads + 1)) = omega arith in
      let rest = front_at (thread_of l i here) (thread_limit - (length threads + 1)) next in
      let front : threads_front l i here head ≡ behind (w.members ++ at ∷ []) rest =
      behind_more (thread_of l i here) (thread_limit - (length threads + 1)) w.members (threads_front l i here head) at next some (next_is l i here at (Ok next) p.1.1) (rw room at p.0.0) in
      let same : left ≡ left_after before (threads_shown q l here limit before w.members) = w.after ∙ ap (left_after before) p.0.1 in
      let one : thread_by q l here limit left at bytes ≡ thread_shown q l here limit (left_after before (threads_shown q l here limit before w.members)) at =
      thread_is q l here limit left at bytes (thread_by q l here limit left at bytes) p.1.0 refl ∙ ap (λ n. thread_shown q l here limit n at) same in
      reading_gives _ _ (reading_then (λ m. e ≡ stack.OutOfMemory) both f (λ m p h. lost m h))
      (omega (
        arith,
        w.cost,
        ap (λ ps. thread_reads q (thread_by q l (byte_at ps) limit left at bytes)) both.pieces,
        ap (thread_reads q) one,
        ap (sum_by (λ (t : ThreadShown). 1 + thread_reads q t)) p.0.1,
        ap (sum_by (λ (t : ThreadShown). 1 + thread_reads q t)) (shown_append q l here limit before w.members at),
        cost_more q (threads_shown q l here limit before w.members) (thread_shown q l here limit (left_after before (threads_shown q l here limit before w.members)) at),
        shown_part q l here limit before (w.members ++ at ∷ []) rest.members,
        ap (λ (f : Front). sum_by (λ (t : ThreadShown). 1 + thread_reads q t) (threads_shown q l here limit before f.members)) front,
      )) (λ m h. h)
