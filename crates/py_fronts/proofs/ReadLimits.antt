-- How many reads fronts take at most, whatever the memory holds.
use Rattle.std.proofs.Common.{◌≡◌, ℕ, suc, ◌+◌, ◌*◌, ◌-◌, ◌≤◌, min, Bool, true, false, leb, List, [], ◌∷◌}
use Rattle.std.proofs.Common.{length, take, drop, refl, ap, arith, length-append}
use Rattle.std.proofs.Math.Nat.{mul-add, mul-le-mul_left}
use Rattle.std.proofs.lemmas.Bool.{leb-false, leb-true}
use Rattle.std.proofs.lemmas.List.{length-drop, length-map, length-take-le}
use Rattle.std.proofs.lemmas.List.Sums.{sum_by-append, sum_by-cons}
use Rattle.std.specs.List.{filter}
use Rattle.std.specs.Prelude.{Ok, Err, flat_map, if◌then◌else◌, sum_by}
use Rattle.process_memory.specs.Memory.{Found, Memory, record_at}
use Rattle.py_fields.specs.declared.layout.Layout.{Layout}
use Rattle.py_stacks.specs.Threads.{first_frame_at, thread_limit}
use Rattle.py_stacks.specs.declared.asked.Asked.{Asked}
use Rattle.py_fronts.specs.declared.interpreters.FoundInterpreter.{FoundInterpreter}
use Rattle.py_fronts.specs.FrameFronts.{chain_from, chain_of_thread, frames_shown, shown_first, shown_last, shown_of}
use Rattle.py_fronts.specs.FrameFronts.{all_members_limit, thread_members_limit}
use Rattle.py_fronts.specs.Fronts.{InterpreterShown, fronts_most, fronts_reads, interpreters_fronts}
use Rattle.py_fronts.specs.Fronts.{all_most, fronts_at}
use Rattle.py_fronts.specs.Interpreters.{interpreters_at, interpreters_reads}
use Rattle.py_process.specs.Facts.{Known}
use Rattle.py_fields.specs.declared.version.Version.{Version}
use Rattle.py_fronts.specs.Members.{Chained, caller_of, is_kept, members_front}
use Rattle.py_fronts.specs.Standings.{standing_at, standing_reads}
use Rattle.py_fronts.specs.ThreadFronts.{ThreadShown, bytes_of, front_shown, left_after, thread_of}
use Rattle.py_fronts.specs.ThreadFronts.{thread_reads, thread_shown, threads_front, threads_most, threads_reads}
use Rattle.py_fronts.specs.ThreadFronts.{threads_shown}
use Rattle.py_fronts.proofs.FrontLaws.{front_found}

-- ---- by what is met and what is shown

abbrev met_in : List ThreadShown → ℕ
met_in ts = sum_by (λ (t : ThreadShown). t.frames.met) ts

abbrev shown_in : List ThreadShown → ℕ
shown_in ts = sum_by (λ (t : ThreadShown). shown_of t.frames) ts

abbrev cost_of : Asked → List ThreadShown → ℕ
cost_of q ts = sum_by (λ (t : ThreadShown). 1 + thread_reads q t) ts

cost_parts : (q : Asked) (ts : List ThreadShown)
    → cost_of q ts ≡ 7 * length ts + 5 * met_in ts + standing_reads q * shown_in ts
cost_parts q [] = omega arith
cost_parts q (t ∷ ts) =
    omega (
      arith,
      sum_by-cons (λ (t : ThreadShown). 1 + thread_reads q t) t ts,
      sum_by-cons (λ (t : ThreadShown). t.frames.met) t ts,
      sum_by-cons (λ (t : ThreadShown). shown_of t.frames) t ts,
      ap (λ n. standing_reads q * n) (sum_by-cons (λ (t : ThreadShown). shown_of t.frames) t ts),
      mul-add (standing_reads q) (shown_of t.frames) (shown_in ts),
      cost_parts q ts,
    )

-- ---- one thread

ends_by : (limit : ℕ) (kept : List ℕ) (few : Bool) → leb (length kept) (2 * limit) ≡ few
    → length (if few then kept else take limit kept) + length (if few then [] else drop (length kept - limit) kept)
    ≤ min (length kept) (2 * limit)
ends_by limit kept true e = omega (arith, leb-true (length kept) (2 * limit) e)
ends_by limit kept false e =
    let more = leb-false (length kept) (2 * limit) e in
    omega (
      arith,
      more,
      length-take-le limit kept (omega (arith, more)),
      length-drop (length kept - limit) kept,
    )

one_kept : (b : Bool) (x : ℕ) (xs : List ℕ) (n : ℕ) → length xs ≤ n → length (if b then x ∷ xs else xs) ≤ suc n
one_kept true x xs n h = omega (arith, h)
one_kept false x xs n h = omega (arith, h)

kept_few : (p : ℕ → Bool) (xs : List ℕ) → length (filter p xs) ≤ length xs
kept_few p [] = omega arith
kept_few p (x ∷ xs) = one_kept (p x) x (filter p xs) (length xs) (kept_few p xs)

record IsFew (limit left : ℕ) (t : ThreadShown) : Type 0 where
  met : t.frames.met ≤ left
  shown : shown_of t.frames ≤ t.frames.met
  ends : shown_of t.frames ≤ 2 * limit

chain_few : (l : Layout) (m : Memory) (most : ℕ) (d : Found ℕ)
    → (length (chain_from l m most d).kept ≤ (chain_from l m most d).met) × ((chain_from l m most d).met ≤ most)
chain_few l m most (Ok first) =
    (kept_few (is_kept l m) (members_front l m most first).members, (front_found (caller_of l m) most first).within)
chain_few l m most (Err f) = (omega arith, omega arith)

frames_few : (q : Asked) (l : Layout) (m : Memory) (limit : ℕ) (c : Chained)
    → shown_of (frames_shown q l m limit c) ≤ min (length c.kept) (2 * limit)
unfolding frames_shown
frames_few q l m limit c =
    omega (
      arith,
      length-map (shown_first limit c.kept) (standing_at q l m),
      length-map (shown_last limit c.kept) (standing_at q l m),
      ends_by limit c.kept (leb (length c.kept) (2 * limit)) refl,
    )

frames_met : (q : Asked) (l : Layout) (m : Memory) (limit : ℕ) (c : Chained) → (frames_shown q l m limit c).met ≡ c.met
unfolding frames_shown
frames_met q l m limit c = refl

thread_few : (q : Asked) (l : Layout) (m : Memory) (limit left a : ℕ)
    → IsFew limit left (thread_shown q l m limit left a)
unfolding thread_shown chain_of_thread
thread_few q l m limit left a =
    let most = min left thread_members_limit in
    let d = first_frame_at l m (bytes_of (record_at m a l.thread.size)) in
    let chain = chain_few l m most d in
    let frames = frames_few q l m limit (chain_from l m most d) in
    let met = frames_met q l m limit (chain_from l m most d) in
    record {
      met = omega (arith, chain.1, met);
      shown = omega (arith, chain.0, frames, met);
      ends = omega (arith, frames);
    }

-- ---- the threads of an interpreter

record AreFew (limit left count : ℕ) (ts : List ThreadShown) : Type 0 where
  number : length ts ≡ count
  met : met_in ts + left_after left ts ≤ left
  shown : shown_in ts ≤ met_in ts
  ends : shown_in ts ≤ 2 * limit * length ts

threads_few : (q : Asked) (l : Layout) (m : Memory) (limit left : ℕ) (xs : List ℕ)
    → AreFew limit left (length xs) (threads_shown q l m limit left xs)
unfolding threads_shown left_after
threads_few q l m limit left [] =
    record { number = refl; met = omega arith; shown = omega arith; ends = omega arith }
threads_few q l m limit left (x ∷ xs) =
    let t = thread_shown q l m limit left x in
    let ts = threads_shown q l m limit (left - t.frames.met) xs in
    let one = thread_few q l m limit left x in
    let rest = threads_few q l m limit (left - t.frames.met) xs in
    let met = sum_by-cons (λ (t : ThreadShown). t.frames.met) t ts in
    let shown = sum_by-cons (λ (t : ThreadShown). shown_of t.frames) t ts in
    record {
      number = omega (arith, rest.number);
      met = omega (arith, met, one.met, rest.met);
      shown = omega (arith, met, shown, one.shown, rest.shown);
      ends = omega (arith, shown, one.ends, rest.ends, mul-add (2 * limit) 1 (length ts));
    }

pub threads_within : (q : Asked) (l : Layout) (m : Memory) (limit left interpreter head : ℕ)
    → threads_reads q (front_shown q l m limit left (threads_front l interpreter m head)) ≤ threads_most q limit left
threads_within q l m limit left interpreter head =
    let xs = (threads_front l interpreter m head).members in
    let ts = threads_shown q l m limit left xs in
    let few = threads_few q l m limit left xs in
    let number : length ts ≤ thread_limit =
    omega (arith, few.number, (front_found (thread_of l interpreter m) thread_limit head).within) in
    let shown : shown_in ts ≤ min left (2 * limit * thread_limit) =
    omega (arith, few.met, few.shown, few.ends, mul-le-mul_left (2 * limit) number) in
    omega (arith, cost_parts q ts, number, few.met, mul-le-mul_left (standing_reads q) shown)

-- ---- all interpreters

abbrev threads_in : List InterpreterShown → List ThreadShown
threads_in is = flat_map (λ (i : InterpreterShown). i.threads.threads) is

fronts_parts : (q : Asked) (is : List InterpreterShown) → fronts_reads q is ≡ length is + cost_of q (threads_in is)
fronts_parts q [] = omega arith
fronts_parts q (i ∷ is) =
    omega (
      arith,
      sum_by-cons (λ (i : InterpreterShown). threads_reads q i.threads) i is,
      sum_by-append (λ (t : ThreadShown). 1 + thread_reads q t) i.threads.threads (threads_in is),
      fronts_parts q is,
    )

record AreAllFew (limit left count : ℕ) (is : List InterpreterShown) : Type 0 where
  number : length is ≡ count
  threads : length (threads_in is) ≤ thread_limit * count
  met : met_in (threads_in is) ≤ left
  shown : shown_in (threads_in is) ≤ met_in (threads_in is)
  ends : shown_in (threads_in is) ≤ 2 * limit * length (threads_in is)

fronts_few : (q : Asked) (l : Layout) (m : Memory) (limit left : ℕ) (found : List FoundInterpreter)
    → AreAllFew limit left (length found) (interpreters_fronts q l m limit left found)
unfolding interpreters_fronts
fronts_few q l m limit left [] =
    record { number = refl; threads = omega arith; met = omega arith; shown = omega arith; ends = omega arith }
fronts_few q l m limit left (one ∷ rest) =
    let xs = (threads_front l one.address m one.head).members in
    let ts = threads_shown q l m limit left xs in
    let few = threads_few q l m limit left xs in
    let next = left_after left ts in
    let is = interpreters_fronts q l m limit next rest in
    let all = fronts_few q l m limit next rest in
    let met = sum_by-append (λ (t : ThreadShown). t.frames.met) ts (threads_in is) in
    let shown = sum_by-append (λ (t : ThreadShown). shown_of t.frames) ts (threads_in is) in
    let long = length-append ts (threads_in is) in
    let within = (front_found (thread_of l one.address m) thread_limit one.head).within in
    record {
      number = omega (arith, all.number);
      threads = omega (arith, long, few.number, within, all.threads);
      met = omega (arith, met, few.met, all.met);
      shown = omega (arith, met, shown, few.shown, all.shown);
      ends = omega (
        arith,
        shown,
        few.ends,
        all.ends,
        ap (λ n. 2 * limit * n) long,
        mul-add (2 * limit) (length ts) (length (threads_in is)),
      );
    }

fronts_within : (q : Asked) (l : Layout) (m : Memory) (limit : ℕ) (found : List FoundInterpreter)
    → fronts_reads q (interpreters_fronts q l m limit all_members_limit found) ≤ fronts_most q limit (length found)
fronts_within q l m limit found =
    let is = interpreters_fronts q l m limit all_members_limit found in
    let ts = threads_in is in
    let few = fronts_few q l m limit all_members_limit found in
    let shown : shown_in ts ≤ min all_members_limit (2 * limit * (thread_limit * length found)) =
    omega (arith, few.met, few.shown, few.ends, mul-le-mul_left (2 * limit) few.threads) in
    omega (
      arith,
      fronts_parts q is,
      cost_parts q ts,
      few.number,
      few.threads,
      few.met,
      mul-le-mul_left (standing_reads q) shown,
    )

pub all_within : (c : ℕ → Bool) (k : Known) (v : Version) (l : Layout) (m : Memory) (q : Asked) (limit : ℕ)
    → interpreters_reads c k v l m + fronts_reads q (fronts_at c k v l m q limit).interpreters
    ≤ all_most c k v l m q limit
unfolding fronts_at
all_within c k v l m q limit = omega (arith, fronts_within q l m limit (interpreters_at c k v l m).found)

pub shown_number : (c : ℕ → Bool) (k : Known) (v : Version) (l : Layout) (m : Memory) (q : Asked) (limit : ℕ)
    → length (fronts_at c k v l m q limit).interpreters ≡ length (interpreters_at c k v l m).found
unfolding fronts_at
shown_number c k v l m q limit = (fronts_few q l m limit all_members_limit (interpreters_at c k v l m).found).number
