-- Interpreters that are found, one after another.
use Rattle.std.proofs.Common.{◌≡◌, ℕ, suc, ◌+◌, ◌*◌, ◌-◌, ◌<◌, ◌≤◌, Bool, true, false, List, [], ◌∷◌, ◌++◌}
use Rattle.std.proofs.Common.{length, refl, sym, ◌∙◌, ap, arith, ltb, subst, take}
use Rattle.std.proofs.lemmas.Bool.Decides.{nat_tests}
use Rattle.std.proofs.lemmas.List.{take_all}
use Rattle.std.proofs.lemmas.List.Sums.{sum_by-append, sum_by-cons, sum_by-take-le, sum_by_more, sum_by_push}
use Rattle.std.specs.Prelude.{Option, Some, None, Result, sum_by}
use Rattle.process_memory.specs.Memory.{Memory, byte_at}
use Rattle.process_memory.specs.Seen.{Reading, ReadingBy, Seen}
use Rattle.process_memory.proofs.Reading.{reading_gives, reading_here, reading_none, reading_then}
use Rattle.py_fields.specs.declared.layout.Layout.{Layout}
use Rattle.py_stacks.specs.declared.error.StackError.{StackError}
use Rattle.py_stacks.specs.declared.error.StackError.TheVariants as stack
use Rattle.py_fronts.specs.declared.interpreters.FoundInterpreters.{FoundInterpreters}
use Rattle.py_fields.specs.declared.version.Version.{Version}
use Rattle.py_process.specs.Facts.{Known}
use Rattle.py_fronts.specs.Candidates.{named_candidates, others_led_to, searched_candidates}
use Rattle.py_fronts.specs.Interpreters.{Finds, Takes, Taking, Turning, address_at, after_candidate, after_candidates}
use Rattle.py_fronts.specs.Interpreters.{after_record_of, after_records, candidate_reads, candidates_reads, finds_of, headed_at}
use Rattle.py_fronts.specs.Interpreters.{interpreter_limit, interpreters_at, is_found, none_found, reads_of_record, record_reads}
use Rattle.py_fronts.specs.Interpreters.{records_reads, taking_reads, with_their_records}
use Rattle.py_fronts.specs.declared.interpreters.FoundInterpreter.{FoundInterpreter}
use Rattle.py_fronts.specs.Interpreters.{shown_head, with_name, with_one}
use Rattle.py_fronts.specs.declared.search.Looked.{Looked}
use Rattle.py_fronts.specs.declared.search.Searching.{Searching}
use Rattle.py_fronts.specs.Interpreters.{Search, after_looks, looked_at, looked_by, search_at, search_begins, search_from}
use Rattle.py_fronts.specs.Interpreters.{search_of, told_at, told_of, walked_by}
use Rattle.py_fronts.proofs.FoundMarks.{addresses, by_addresses, there_below, there_is}
use Rattle.py_fronts.proofs.SearchLaws.{found_part}
use Rattle.py_fronts.proofs.Growing.{Grows, at_still, candidates_grow, grows_on, records_grow}

-- ---- one candidate

pub named_is : (c : ℕ → Bool) (l : Layout) (m : Memory) (a : ℕ) → shown_head false c l m a ≡ headed_at c l m a
unfolding shown_head
named_is c l m a = refl

pub taken_before : (searched : Bool) (c : ℕ → Bool) (l : Layout) (m : Memory) (r new : Finds) (a : ℕ) (known : Bool)
    → known ≡ is_found r.found a → known ≡ true → new ≡ with_name r searched a → new ≡ after_candidate searched c l m r a
taken_before searched c l m r new a known is holds e =
    let there : is_found r.found a ≡ true = sym is ∙ holds in
    rw there e

pub taken_none : (searched : Bool) (c : ℕ → Bool) (l : Layout) (m : Memory) (r : Finds) (a : ℕ) (known : Bool) (head : Option ℕ) → known ≡ is_found r.found a → known ≡ false → head ≡ None → head ≡ shown_head searched c l m a
    → r ≡ after_candidate searched c l m r a
taken_none searched c l m r a known head is fails none h =
    let new : is_found r.found a ≡ false = sym is ∙ fails in
    let nothing : shown_head searched c l m a ≡ None = sym h ∙ none in
    rw (new, nothing) refl

pub taken_one : (searched : Bool) (c : ℕ → Bool) (l : Layout) (m : Memory) (r new : Finds) (a : ℕ) (known : Bool) (found : Option ℕ) (head : ℕ) → known ≡ is_found r.found a → known ≡ false → found ≡ Some head → found ≡ shown_head searched c l m a
    → new ≡ with_one r (record { address = a; head = head; searched = searched }) → new ≡ after_candidate searched c l m r a
taken_one searched c l m r new a known found head is fails e h takes =
    let fresh : is_found r.found a ≡ false = sym is ∙ fails in
    let there : shown_head searched c l m a ≡ Some head = sym h ∙ e in
    rw (fresh, there) takes

-- ---- candidates, in order

candidates_append : (searched : Bool) (c : ℕ → Bool) (l : Layout) (m : Memory) (r : Finds) (xs : List ℕ) (a : ℕ) → after_candidates searched c l m r (xs ++ a ∷ []) ≡ after_candidate searched c l m (after_candidates searched c l m r xs) a
unfolding after_candidates
candidates_append searched c l m r [] a = refl
candidates_append searched c l m r (x ∷ xs) a = candidates_append searched c l m (after_candidate searched c l m r x) xs a

pub taking_init : (searched : Bool) (c : ℕ → Bool) (l : Layout) (finds : FoundInterpreters) (s : Seen) → Taking searched c l (finds_of finds) s s [] finds
unfolding after_candidates
taking_init searched c l finds s = record { reading = reading_none _ s _ (λ m. refl) }

pub taking_more : {searched : Bool} {c : ℕ → Bool} {l : Layout} {start : Finds} {s0 s1 s2 : Seen} {taken : List ℕ} {finds : FoundInterpreters} (new : FoundInterpreters) (a : ℕ) → Taking searched c l start s0 s1 taken finds
    → ReadingBy (λ m. candidate_reads searched c l m a) s1 s2 (λ m. finds_of new ≡ after_candidate searched c l m (finds_of finds) a) → Taking searched c l start s0 s2 (taken ++ a ∷ []) new
taking_more {searched = searched} {c = c} {l = l} {start = start} {s0 = s0} {taken = taken} new a w r = record {
  reading = reading_gives _ _ (reading_then (λ m. finds_of new ≡ after_candidates searched c l m start (taken ++ a ∷ [])) w.reading r
      (λ m p e. e ∙ ap (λ x. after_candidate searched c l m x a) p ∙ sym (candidates_append searched c l m start taken a)))
      (omega (
        arith,
        ap (λ ps. candidate_reads searched c l (byte_at ps) a) w.reading.pieces,
        sum_by_push (candidate_reads searched c l (byte_at s0.pieces)) taken a,
      )) (λ m h. h);
}

pub taking_lost : {searched : Bool} {c : ℕ → Bool} {l : Layout} {start : Finds} {s0 s1 s2 : Seen} {taken : List ℕ} {finds : FoundInterpreters} (e f : StackError) (a : ℕ) (rest all : List ℕ) → Taking searched c l start s0 s1 taken finds → all ≡ (taken ++ a ∷ []) ++ rest
    → ReadingBy (λ m. candidate_reads searched c l m a) s1 s2 (λ m. f ≡ stack.OutOfMemory) → e ≡ f → ReadingBy (λ m. candidates_reads searched c l m all) s0 s2 (λ m. e ≡ stack.OutOfMemory)
taking_lost {searched = searched} {c = c} {l = l} {s0 = s0} {taken = taken} e f a rest all w parts r same =
    let cost = candidate_reads searched c l (byte_at s0.pieces) in
    reading_gives _ _ (reading_then (λ m. e ≡ stack.OutOfMemory) w.reading r (λ m p h. same ∙ h))
    (omega (
      arith,
      ap (λ ps. candidate_reads searched c l (byte_at ps) a) w.reading.pieces,
      sum_by_push cost taken a,
      sum_by-append cost (taken ++ a ∷ []) rest,
      ap (sum_by cost) parts,
    )) (λ m h. h)

pub taking_done : {searched : Bool} {c : ℕ → Bool} {l : Layout} {start : Finds} {s0 s1 : Seen} {taken : List ℕ} {finds : FoundInterpreters} (all : List ℕ) → Taking searched c l start s0 s1 taken finds → taken ≡ all
    → ReadingBy (λ m. candidates_reads searched c l m all) s0 s1 (λ m. finds_of finds ≡ after_candidates searched c l m start all)
taking_done {searched = searched} {c = c} {l = l} {start = start} {s0 = s0} {s1 = s1} {finds = finds} all w e =
    subst (λ xs. ReadingBy (λ m. candidates_reads searched c l m xs) s0 s1 (λ m. finds_of finds ≡ after_candidates searched c l m start xs)) e w.reading

-- ---- records, in turn

records_more : (c : ℕ → Bool) (l : Layout) (m : Memory) (turns index : ℕ) (r : Finds) → after_records c l m (suc turns) index r ≡ after_records c l m turns (index + 1) (after_record_of c l m r (address_at r.found index))
unfolding after_records
records_more c l m turns index r = refl

records_done : (c : ℕ → Bool) (l : Layout) (m : Memory) (index : ℕ) (r : Finds) → after_records c l m 0 index r ≡ r
unfolding after_records
records_done c l m index r = refl

sum_more : (f : FoundInterpreter → ℕ) (xs : List FoundInterpreter) (i : ℕ) (d : FoundInterpreter) (b : Bool)
    → ltb i (length xs) ≡ b → sum_by f (take i xs) ≤ sum_by f (take (i + 1) xs)
sum_more f xs i d true e =
    let below : i < length xs = grind (arith, nat_tests) in
    omega (arith, sum_by_more f xs i d below)
sum_more f xs i d false e =
    let past : length xs ≤ i = grind (arith, nat_tests) in
    omega (arith, ap (sum_by f) (take_all i xs past), ap (sum_by f) (take_all (i + 1) xs (omega (arith, past))))

-- the reads of the records up to an index, and of the one there
record_more : (l : Layout) (m : Memory) (xs : List FoundInterpreter) (i : ℕ) (d : Option ℕ) → ((a : ℕ) → d ≡ Some a
    → address_at xs i ≡ Some a)
    → records_reads l m (take i xs) + reads_of_record l m d ≤ records_reads l m (take (i + 1) xs)
record_more l m xs i None there =
    let none : FoundInterpreter = record { address = 0; head = 0; searched = false } in
    omega (arith, sum_more (λ (one : FoundInterpreter). record_reads l m one.address) xs i none (ltb i (length xs)) refl)
record_more l m xs i (Some a) there =
    let none : FoundInterpreter = record { address = 0; head = 0; searched = false } in
    let at = there a refl in
    let below = there_below xs i a at in
    omega (
      arith,
      sum_by_more (λ (one : FoundInterpreter). record_reads l m one.address) xs i none below,
      ap (record_reads l m) (there_is xs i a none at),
    )

-- in all that are found in the end
record_within : (c : ℕ → Bool) (l : Layout) (m : Memory) (turns index : ℕ) (r all : Finds)
    → all ≡ after_records c l m turns index r → records_reads l m (take index all.found)
    + reads_of_record l m (address_at r.found index) ≤ records_reads l m (take (index + 1) all.found)
record_within c l m turns index r all e =
    record_more l m all.found index (address_at r.found index)
    (λ a is. at_still r all index a (subst (Grows r) (sym e) (records_grow c l m turns index r)) is)

pub turning_init : (c : ℕ → Bool) (l : Layout) (finds : FoundInterpreters) (s : Seen) → Turning c l (finds_of finds) s s 0 finds
turning_init c l finds s = record { within = omega arith; spent = 0; cost = omega arith; reading = reading_none _ s _ (λ m. refl) }

module _ {c : ℕ → Bool} {l : Layout} {start : Finds} {s0 s1 : Seen} {index : ℕ} {finds : FoundInterpreters} where
  -- what was spent so far and goes to one record
  turning_cost : (w : Turning c l start s0 s1 index finds) → w.spent + reads_of_record l (byte_at s1.pieces) (address_at (finds_of finds).found index)
      ≤ records_reads l (byte_at s0.pieces) (take (index + 1) (after_records c l (byte_at s0.pieces) interpreter_limit 0 start).found)
  turning_cost w =
      let here = byte_at s0.pieces in
      omega (
        arith,
        w.cost,
        ap (λ ps. reads_of_record l (byte_at ps) (address_at (finds_of finds).found index)) w.reading.pieces,
        record_within c l here (interpreter_limit - index) index (finds_of finds) (after_records c l here interpreter_limit 0 start) (reading_here w.reading),
      )

  pub turning_more : {s2 : Seen} (new : FoundInterpreters) → Turning c l start s0 s1 index finds → index < interpreter_limit
      → Reading (reads_of_record l (byte_at s1.pieces) (address_at (finds_of finds).found index)) s1 s2 (λ m. finds_of new ≡ after_record_of c l m (finds_of finds) (address_at (finds_of finds).found index)) → Turning c l start s0 s2 (index + 1) new
  turning_more new w below r =
      let room : interpreter_limit - index ≡ suc (interpreter_limit - (index + 1)) = omega arith in
      record {
        within = omega arith;
        spent = w.spent + reads_of_record l (byte_at s1.pieces) (address_at (finds_of finds).found index);
        cost = turning_cost w;
        reading = reading_then (λ m. after_records c l m interpreter_limit 0 start ≡ after_records c l m (interpreter_limit - (index + 1)) (index + 1) (finds_of new)) w.reading r
            (λ m p e. p ∙ ap (λ n. after_records c l m n index (finds_of finds)) room ∙ records_more c l m (interpreter_limit - (index + 1)) index (finds_of finds) ∙ ap (after_records c l m (interpreter_limit - (index + 1)) (index + 1)) (sym e));
      }

  pub turning_done : Turning c l start s0 s1 index finds → index ≡ interpreter_limit
      → Reading (records_reads l (byte_at s0.pieces) (after_records c l (byte_at s0.pieces) interpreter_limit 0 start).found) s0 s1 (λ m. finds_of finds ≡ after_records c l m interpreter_limit 0 start)
  turning_done w all =
      let none : interpreter_limit - index ≡ 0 = omega arith in
      let here = byte_at s0.pieces in
      reading_gives _ _ w.reading
      (omega (arith, w.cost, sum_by-take-le (λ (one : FoundInterpreter). record_reads l here one.address) (after_records c l here interpreter_limit 0 start).found index))
      (λ m p. sym (p ∙ ap (λ n. after_records c l m n index (finds_of finds)) none ∙ records_done c l m index (finds_of finds)))

  pub turning_lost : {s2 : Seen} (e f : StackError) → Turning c l start s0 s1 index finds
      → Reading (reads_of_record l (byte_at s1.pieces) (address_at (finds_of finds).found index)) s1 s2 (λ m. f ≡ stack.OutOfMemory) → e ≡ f
      → Reading (records_reads l (byte_at s0.pieces) (after_records c l (byte_at s0.pieces) interpreter_limit 0 start).found) s0 s2 (λ m. e ≡ stack.OutOfMemory)
  turning_lost e f w r same =
      let here = byte_at s0.pieces in
      reading_gives _ _ (reading_then (λ m. e ≡ stack.OutOfMemory) w.reading r (λ m p h. same ∙ h))
      (omega (arith, turning_cost w, sum_by-take-le (λ (one : FoundInterpreter). record_reads l here one.address) (after_records c l here interpreter_limit 0 start).found (index + 1)))
      (λ m h. h)

pub no_record : (c : ℕ → Bool) (l : Layout) (m : Memory) (r : Finds) (index : ℕ) (address : Option ℕ) → address ≡ address_at r.found index → address ≡ None → r ≡ after_record_of c l m r (address_at r.found index)
no_record c l m r index address is none = let nothing : address_at r.found index ≡ None = sym is ∙ none in rw nothing refl

pub record_taken : (c : ℕ → Bool) (l : Layout) (m : Memory) (r : Finds) (index : ℕ) (address : Option ℕ) (a : ℕ) (words read : List ℕ) (new : FoundInterpreters) (result : Result (Unit {0}) StackError) → address ≡ address_at r.found index → address ≡ Some a
    → words ≡ others_led_to l m a → read ≡ words → Takes (after_candidates false c l m r read) new result → Takes (after_record_of c l m r (address_at r.found index)) new result
record_taken c l m r index address a words read new result is e named whole takes =
    let there : address_at r.found index ≡ Some a = sym is ∙ e in
    let list : read ≡ others_led_to l m a = whole ∙ named in
    rw (there, ← list) takes

-- the reads of a record where one stands at an index
pub record_reads_at : (l : Layout) (m : Memory) (found : List FoundInterpreter) (index : ℕ) (address : Option ℕ) (a : ℕ)
    → address ≡ address_at found index → address ≡ Some a → reads_of_record l m (address_at found index) ≡ record_reads l m a
record_reads_at l m found index address a is e = ap (reads_of_record l m) (sym is ∙ e)

pub records_behind : (c : ℕ → Bool) (l : Layout) (m : Memory) (start wanted : Finds) (new : FoundInterpreters) (result : Result (Unit {0}) StackError) → start ≡ wanted → Takes (after_records c l m 16 0 start) new result
    → Takes (after_records c l m 16 0 wanted) new result
records_behind c l m start wanted new result e takes = rw (← e) takes

-- those that were found first have no more records than all
grows_reads : (l : Layout) (m : Memory) (r new : Finds) → Grows r new
    → records_reads l m r.found ≤ records_reads l m new.found
grows_reads l m r new grows =
    omega (
      arith,
      by_addresses l m r.found,
      by_addresses l m new.found,
      ap (sum_by (record_reads l m)) grows.found,
      sum_by-append (record_reads l m) (addresses r.found) grows.added,
    )

-- those that are named have no more records than all that are found
pub first_reads : (c : ℕ → Bool) (k : Known) (v : Version) (l : Layout) (m : Memory)
    → records_reads l m (with_their_records false c l m none_found (named_candidates k v l m)).found
    ≤ records_reads l m (interpreters_at c k v l m).found
first_reads c k v l m =
    let first = with_their_records false c l m none_found (named_candidates k v l m) in
    let part = found_part c k v l m in
    let searched = after_candidates true c l m first part.looked in
    omega (
      arith,
      grows_reads l m first (with_their_records true c l m first part.looked)
          (grows_on first searched _ (candidates_grow true c l m first part.looked)
          (records_grow c l m interpreter_limit 0 searched)),
      ap (λ (r : Finds). records_reads l m r.found) part.finds,
    )

pub none_is : (start : FoundInterpreters) → start.found.items ≡ [] → start.more ≡ false → finds_of start ≡ none_found
none_is start none no_more = ap (λ xs. record { found = xs; more = start.more }) none
    ∙ ap (λ b. record { found = []; more = b }) no_more

pub two_each : (c : ℕ → Bool) (l : Layout) (m : Memory) (xs : List ℕ) → candidates_reads false c l m xs ≡ 2 * length xs
two_each c l m [] = refl
two_each c l m (x ∷ xs) = omega (arith, sum_by-cons (candidate_reads false c l m) x xs, two_each c l m xs)

-- what those that are named cost
pub named_cost : (c : ℕ → Bool) (k : Known) (v : Version) (l : Layout) (m : Memory) (start : FoundInterpreters)
    (read : List ℕ) → start.found.items ≡ [] → start.more ≡ false → read ≡ named_candidates k v l m
    → taking_reads false c l m (finds_of start) read
    ≡ 2 * length (named_candidates k v l m)
    + records_reads l m (with_their_records false c l m none_found (named_candidates k v l m)).found
named_cost c k v l m start read none no_more e =
    ap (λ r. taking_reads false c l m r read) (none_is start none no_more)
    ∙ ap (taking_reads false c l m none_found) e
    ∙ ap (λ n. n + records_reads l m (with_their_records false c l m none_found (named_candidates k v l m)).found)
    (two_each c l m (named_candidates k v l m))

pub named_found : (c : ℕ → Bool) (k : Known) (v : Version) (l : Layout) (m : Memory) (start one : FoundInterpreters)
    (named read : List ℕ) (count : ℕ) → start.found.items ≡ [] → start.more ≡ false → named ≡ named_candidates k v l m
    → read ≡ named → count ≡ length named → finds_of one ≡ with_their_records false c l m (finds_of start) read
    → search_of (record { finds = one; addresses = count; members = 0 }) ≡ search_begins c k v l m
unfolding search_begins
named_found c k v l m start one named read count none no_more n r long first =
    let one_is : finds_of one ≡ with_their_records false c l m none_found (named_candidates k v l m) =
    first ∙ ap (λ x. with_their_records false c l m x read) (none_is start none no_more)
    ∙ ap (with_their_records false c l m none_found) (r ∙ n) in
    ap (λ x. search_from x count) one_is
    ∙ ap (search_from (with_their_records false c l m none_found (named_candidates k v l m))) (long ∙ ap length n)

-- ---- the search, and all of them

pub search_is : (c : ℕ → Bool) (k : Known) (v : Version) (l : Layout) (m : Memory) (one two : Searching)
    → search_of one ≡ search_begins c k v l m
    → search_of two ≡ after_looks c l m (search_of one) (searched_candidates k m)
    → search_of two ≡ search_at c k v l m
unfolding search_at
search_is c k v l m one two first second = second ∙ ap (λ s. after_looks c l m s (searched_candidates k m)) first

-- as many members are walked as it says
pub search_cost : (c : ℕ → Bool) (k : Known) (v : Version) (l : Layout) (m : Memory) (one : Searching)
    → search_of one ≡ search_begins c k v l m
    → walked_by c l m (search_of one) (searched_candidates k m) ≤ (search_at c k v l m).members
unfolding search_at
search_cost c k v l m one first =
    omega (arith, ap (λ s. (after_looks c l m s (searched_candidates k m)).members) first)

pub records_of_search : (c : ℕ → Bool) (k : Known) (v : Version) (l : Layout) (m : Memory) (two : Searching)
    → search_of two ≡ search_at c k v l m
    → after_records c l m 16 0 (finds_of two.finds) ≡ interpreters_at c k v l m
unfolding interpreters_at
records_of_search c k v l m two e = ap (λ (s : Search). after_records c l m 16 0 s.finds) e

pub told_is : (c : ℕ → Bool) (k : Known) (v : Version) (l : Layout) (m : Memory) (two : Searching)
    (finds : FoundInterpreters) (looked : Looked) → search_of two ≡ search_at c k v l m
    → looked ≡ looked_by k (search_of two) → finds_of finds ≡ after_records c l m 16 0 (finds_of two.finds)
    → told_of (record { finds = finds; looked = looked }) ≡ told_at c k v l m
unfolding looked_at
told_is c k v l m two finds looked e l_is records =
    ap (λ r. record { finds = r; looked = looked }) (records ∙ records_of_search c k v l m two e)
    ∙ ap (λ x. record { finds = interpreters_at c k v l m; looked = x }) (l_is ∙ ap (looked_by k) e)
