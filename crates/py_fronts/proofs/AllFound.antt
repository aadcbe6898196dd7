-- No interpreter is left out, where there are no more than are shown.
use Rattle.std.proofs.Common.{◌≡◌, ◌≢◌, ℕ, zero, suc, ◌+◌, ◌<◌, ◌≤◌, Bool, true, false, ltb, ◌||◌, List, [], ◌∷◌}
use Rattle.std.proofs.Common.{◌++◌, append-nil, length, refl, sym, subst, ◌∙◌, ap, arith, get_or}
use Rattle.std.specs.Prelude.{All, Ok, Err, Option, Some, None, Result, IfOk, option_map, slice_get, nat_eq, not}
use Rattle.std.specs.Prelude.{if◌then◌else◌}
use Rattle.std.proofs.lemmas.Bool.Decides.{nat_tests}
use Rattle.std.proofs.lemmas.List.Elements.{All-cons, All-from_get_or, All-head, All-nil, All-tail, All-weaker}
use Rattle.std.proofs.lemmas.List.Folds.{list_any-append}
use Rattle.std.proofs.lemmas.Option.{slice_get-get_or, slice_get_past}
use Rattle.process_memory.specs.Memory.{Memory}
use Rattle.py_fields.specs.declared.version.Version.{Version}
use Rattle.py_fields.specs.declared.layout.Layout.{Layout}
use Rattle.py_stacks.specs.Interpreter.{interpreter_named_by}
use Rattle.py_stacks.specs.declared.error.StackError.{StackError}
use Rattle.py_process.specs.Facts.{Known}
use Rattle.py_fronts.specs.declared.interpreters.FoundInterpreter.{FoundInterpreter}
use Rattle.py_fronts.specs.declared.interpreters.InterpreterSearch.{InterpreterSearch}
use Rattle.py_fronts.specs.Answers.{IsOrNoMemory}
use Rattle.py_fronts.specs.Candidates.{named_candidates, other_than, others_led_to, record_candidates}
use Rattle.py_fronts.specs.Candidates.{searched_candidates}
use Rattle.py_fronts.specs.Front.Ending.{Whole}
use Rattle.py_fronts.specs.Interpreters.{Finds, address_at, after_candidate, after_candidates, after_record_of}
use Rattle.py_fronts.specs.Interpreters.{after_records, finds_of, headed_at, headed_by, interpreter_limit}
use Rattle.py_fronts.specs.Interpreters.{interpreters_at, is_found, none_found, shown_head, shown_where, whole_head}
use Rattle.py_fronts.specs.Interpreters.{Told, looked_at, told_at, told_result, with_name, with_one, with_their_records}
use Rattle.py_fronts.specs.ShownInterpreters.{AreAllNamed, AreAllSearched, IsHeaded, IsTaken}
use Rattle.py_fronts.specs.ShownInterpreters.{IsTakenWhole}
use Rattle.py_fronts.specs.ThreadFronts.{threads_front}
use Rattle.py_fronts.proofs.FindLaws.{interpreters_shown}
use Rattle.py_fronts.proofs.SearchLaws.{found_part, not_ended}
use Rattle.py_fronts.proofs.Growing.{Grows, at_still, candidates_grow, grows_on, records_grow, same_grows, still}
use Rattle.py_fronts.proofs.FoundMarks.{found_at, found_kept}
use Rattle.py_fronts.proofs.FoundMarks.{same_address, same_by}

-- ---- a candidate that is an interpreter's is taken

names_head : (c : ℕ → Bool) (l : Layout) (m : Memory) (a head : ℕ) → head ≢ 0 → c head ≡ true
    → interpreter_named_by l m head ≡ Ok a → headed_by c l m a (Ok head) ≡ Some head
names_head c l m a zero some lies named = absurd (some refl)
names_head c l m a (suc head) some lies named = rw (lies, named, same_address a) refl

pub is_headed : (c : ℕ → Bool) (l : Layout) (m : Memory) (a head : ℕ) → IsHeaded c l m a head
    → headed_at c l m a ≡ Some head
unfolding headed_at
is_headed c l m a head h =
    let lies = h.lies in
    let names = h.names in
    rw (lies, names) (names_head c l m a head h.some h.head_lies h.named)

is_whole : (c : ℕ → Bool) (l : Layout) (m : Memory) (a head : ℕ) → IsHeaded c l m a head
    → (threads_front l a m head).ending ≡ Whole → shown_head true c l m a ≡ Some head
unfolding shown_head
is_whole c l m a head h whole = ap (shown_where true l m a) (is_headed c l m a head h)
    ∙ ap (λ e. whole_head e head) whole

is_named : (c : ℕ → Bool) (l : Layout) (m : Memory) (a head : ℕ) → IsHeaded c l m a head
    → shown_head false c l m a ≡ Some head
unfolding shown_head
is_named c l m a head h = is_headed c l m a head h

one_taken : (r : Finds) (h : FoundInterpreter) (room : Bool) → ltb (length r.found) interpreter_limit ≡ room
    → (with_one r h).more ≡ false → is_found (with_one r h).found h.address ≡ true
one_taken r h true e few =
    rw e (list_any-append (λ (one : FoundInterpreter). nat_eq one.address h.address) r.found (h ∷ [])
    ∙ rw (same_address h.address) (or_true (is_found r.found h.address)))
  where
    or_true : (b : Bool) → (b || (true || false)) ≡ true
    or_true true = refl
    or_true false = refl
one_taken r h false e few = absurd (full e few)
  where
    full : ltb (length r.found) interpreter_limit ≡ false → (with_one r h).more ≡ false → ⊥
    full e few = let more : (with_one r h).more ≡ true = rw e refl in cc

pub named_found : (r : Finds) (searched : Bool) (b a : ℕ)
    → is_found (with_name r searched b).found a ≡ is_found r.found a
named_found r true b a = refl
named_found r false b a = found_kept b r.found a

taken_one : (searched : Bool) (c : ℕ → Bool) (l : Layout) (m : Memory) (r : Finds) (a head : ℕ) (known : Bool)
    → is_found r.found a ≡ known → shown_head searched c l m a ≡ Some head
    → (after_candidate searched c l m r a).more ≡ false → is_found (after_candidate searched c l m r a).found a ≡ true
taken_one searched c l m r a head true e shown few = rw e (named_found r searched a a ∙ e)
taken_one searched c l m r a head false e shown few =
    let is : after_candidate searched c l m r a ≡ with_one r
    (record { address = a; head = head; searched = searched }) = rw (e, shown) refl in
    ap (λ (x : Finds). is_found x.found a) is
    ∙ one_taken r (record { address = a; head = head; searched = searched }) (ltb (length r.found) interpreter_limit)
    refl (ap (λ (x : Finds). x.more) (sym is) ∙ few)

abbrev IsShownIn : Bool → (ℕ → Bool) → Layout → Memory → Finds → ℕ → Type 0
IsShownIn searched c l m r a = (head : ℕ) → shown_head searched c l m a ≡ Some head → is_found r.found a ≡ true

candidates_taken : (searched : Bool) (c : ℕ → Bool) (l : Layout) (m : Memory) (r : Finds) (xs : List ℕ)
    → (after_candidates searched c l m r xs).more ≡ false
    → All (IsShownIn searched c l m (after_candidates searched c l m r xs)) xs
unfolding after_candidates
candidates_taken searched c l m r [] few = All-nil (IsShownIn searched c l m r)
candidates_taken searched c l m r (a ∷ rest) few =
    let one = after_candidate searched c l m r a in
    let grows = candidates_grow searched c l m one rest in
    All-cons (IsShownIn searched c l m (after_candidates searched c l m one rest)) a rest
    (λ head shown. still a one (after_candidates searched c l m one rest) grows
    (taken_one searched c l m r a head (is_found r.found a) refl shown (grows.fewer few)))
    (candidates_taken searched c l m one rest few)

-- and so it is in all that comes after
taken_then : (searched : Bool) (c : ℕ → Bool) (l : Layout) (m : Memory) (r new : Finds) (xs : List ℕ)
    → Grows (after_candidates searched c l m r xs) new → new.more ≡ false → All (IsShownIn searched c l m new) xs
taken_then searched c l m r new xs grows few =
    All-weaker (IsShownIn searched c l m (after_candidates searched c l m r xs)) (IsShownIn searched c l m new)
    (λ a h head shown. still a (after_candidates searched c l m r xs) new grows (h head shown)) xs
    (candidates_taken searched c l m r xs (grows.fewer few))

named_then : (c : ℕ → Bool) (l : Layout) (m : Memory) (r new : Finds) (xs : List ℕ)
    → Grows (after_candidates false c l m r xs) new → new.more ≡ false → All (IsTaken c l m new) xs
named_then c l m r new xs grows few =
    All-weaker (IsShownIn false c l m new) (IsTaken c l m new)
    (λ a h head headed. h head (is_named c l m a head headed)) xs (taken_then false c l m r new xs grows few)

-- ---- the records of those that were found

-- where none stands at an index, nothing more is taken from there on
none_behind : (c : ℕ → Bool) (l : Layout) (m : Memory) (turns index : ℕ) (r : Finds) → length r.found ≤ index
    → after_records c l m turns index r ≡ r
unfolding after_records
none_behind c l m zero index r past = refl
none_behind c l m (suc turns) index r past =
    let none : slice_get r.found index ≡ None = slice_get_past r.found index past in
    rw none (none_behind c l m turns (index + 1) r (omega (arith, past)))

past_none : (xs : List FoundInterpreter) (i : ℕ) → address_at xs i ≡ None → length xs ≤ i
past_none [] i e = omega arith
past_none (x ∷ xs) zero e = absurd (cc)
past_none (x ∷ xs) (suc i) e = omega (arith, past_none xs i e)

-- what holds of all after those that the record of one leads to, and goes on to hold, holds after the records of all
module _ (c : ℕ → Bool) (l : Layout) (m : Memory) (b : ℕ) (Q : Finds → Type 0) where
  reaches_here : (turns index : ℕ) (r : Finds) (d : Option ℕ)
      → ((r : Finds) → Q (after_candidates false c l m r (others_led_to l m b)))
      → ((turns index : ℕ) (r : Finds) → Q r → Q (after_records c l m turns index r)) → address_at r.found index ≡ d
      → address_at (after_records c l m (suc turns) index r).found index ≡ Some b
      → Q (after_records c l m (suc turns) index r)
  unfolding after_records
  reaches_here turns index r None each kept e at =
      let same = none_behind c l m (suc turns) index r (past_none r.found index e) in
      absurd (let none : address_at (after_records c l m (suc turns) index r).found index ≡ None = ap
      (λ (x : Finds). address_at x.found index) same ∙ e in cc)
  reaches_here turns index r (Some x) each kept e at =
      let here = at_still r (after_records c l m (suc turns) index r) index x (records_grow c l m (suc turns) index r)
      e in
      let same : x ≡ b = let both : Some x ≡ Some b = sym here ∙ at in cc in
      let behind = after_candidates false c l m r (others_led_to l m b) in
      let is : after_records c l m (suc turns) index r ≡ after_records c l m turns (index + 1) behind = ap
      (λ y. after_records c l m turns (index + 1) (after_record_of c l m r y)) (e ∙ ap Some same) in
      subst Q (sym is) (kept turns (index + 1) behind (each r))

  reaches_place : (turns index : ℕ) (r : Finds) (i : ℕ) (place : Bool)
      → ((r : Finds) → Q (after_candidates false c l m r (others_led_to l m b)))
      → ((turns index : ℕ) (r : Finds) → Q r → Q (after_records c l m turns index r)) → nat_eq i index ≡ place
      → index ≤ i → address_at (after_records c l m (suc turns) index r).found i ≡ Some b
      → (index + 1 ≤ i → Q (after_records c l m (suc turns) index r)) → Q (after_records c l m (suc turns) index r)
  reaches_place turns index r i true each kept e from at later =
      let same : i ≡ index = grind (arith, nat_tests) in
      reaches_here turns index r (address_at r.found index) each kept refl
      (ap (address_at (after_records c l m (suc turns) index r).found) (sym same) ∙ at)
  reaches_place turns index r i false each kept e from at later =
      let apart : i ≢ index = grind (arith, nat_tests) in
      later (omega (arith, from, apart))

  pub record_reaches : (turns index : ℕ) (r : Finds) (i : ℕ)
      → ((r : Finds) → Q (after_candidates false c l m r (others_led_to l m b)))
      → ((turns index : ℕ) (r : Finds) → Q r → Q (after_records c l m turns index r)) → index ≤ i → i < index + turns
      → address_at (after_records c l m turns index r).found i ≡ Some b → Q (after_records c l m turns index r)
  unfolding after_records
  record_reaches zero index r i each kept from below at = absurd (omega (arith, from, below))
  record_reaches (suc turns) index r i each kept from below at =
      reaches_place turns index r i (nat_eq i index) each kept refl from at
      (λ later. record_reaches turns (index + 1) (after_record_of c l m r (address_at r.found index)) i each kept later
      (omega (arith, below)) at)

but_by : (P : ℕ → Type 0) (a x : ℕ) (xs others : List ℕ) (b : Bool) → nat_eq x a ≡ b → P a
    → All P (if not b then x ∷ others else others) → (All P others → All P xs) → All P (x ∷ xs)
but_by P a x xs others true e p h rest = All-cons P x xs (subst P (sym (same_by x a e)) p) (rest h)
but_by P a x xs others false e p h rest =
    All-cons P x xs (All-head P x others h) (rest (All-tail P x others h))

-- what holds of an address, and of those of a list that are not it, holds of the list
pub all_but : (P : ℕ → Type 0) (a : ℕ) (xs : List ℕ) → P a → All P (other_than a xs) → All P xs
all_but P a [] p h = All-nil P
all_but P a (x ∷ xs) p h =
    but_by P a x xs (other_than a xs) (nat_eq x a) refl p h (λ others. all_but P a xs p others)

record_taken : (c : ℕ → Bool) (l : Layout) (m : Memory) (r : Finds) (i : ℕ) (d : FoundInterpreter)
    → (after_records c l m interpreter_limit 0 r).more ≡ false
    → i < length (after_records c l m interpreter_limit 0 r).found
    → length (after_records c l m interpreter_limit 0 r).found ≤ interpreter_limit
    → All (IsTaken c l m (after_records c l m interpreter_limit 0 r))
    (record_candidates l m (get_or (after_records c l m interpreter_limit 0 r).found i d).address)
unfolding others_led_to
record_taken c l m r i d few below within =
    let all = after_records c l m interpreter_limit 0 r in
    let one = get_or all.found i d in
    all_but (IsTaken c l m all) one.address (record_candidates l m one.address)
    (λ head headed. found_at all.found i d below)
    (record_reaches c l m one.address
    (λ x. x.more ≡ false → All (IsTaken c l m x) (others_led_to l m one.address)) interpreter_limit 0 r i
    (λ x. named_then c l m x (after_candidates false c l m x (others_led_to l m one.address))
    (others_led_to l m one.address) (same_grows _))
    (λ turns index x h few. let grows = records_grow c l m turns index x in
    All-weaker (IsTaken c l m x) (IsTaken c l m (after_records c l m turns index x))
    (λ a is head headed. still a x (after_records c l m turns index x) grows (is head headed))
    (others_led_to l m one.address) (h (grows.fewer few)))
    (omega arith) (omega (arith, below, within))
    (ap (option_map (λ (x : FoundInterpreter). x.address)) (slice_get-get_or all.found i d below)) few)

-- ---- all of them

module _ (c : ℕ → Bool) (k : Known) (v : Version) (l : Layout) (m : Memory) (xs : List ℕ) (all : Finds)
    (is : all ≡ with_their_records true c l m (with_their_records false c l m none_found (named_candidates k v l m)) xs)
    (within : length all.found ≤ interpreter_limit) (few : all.more ≡ false) where
  abbrev named : Finds
  named = after_candidates false c l m none_found (named_candidates k v l m)

  abbrev first : Finds
  first = after_records c l m interpreter_limit 0 named

  abbrev searched : Finds
  searched = after_candidates true c l m first xs

  abbrev last : Finds
  last = after_records c l m interpreter_limit 0 searched

  fewer : last.more ≡ false
  fewer = ap (λ (r : Finds). r.more) (sym is) ∙ few

  list_named : AreAllNamed c k v l m all
  list_named =
      let one = records_grow c l m interpreter_limit 0 named in
      let two = candidates_grow true c l m first xs in
      let three = records_grow c l m interpreter_limit 0 searched in
      let none : FoundInterpreter = record { address = 0; head = 0; searched = false } in
      let small : length last.found ≤ interpreter_limit =
      omega (arith, within, ap (λ (r : Finds). length r.found) is) in
      subst (AreAllNamed c k v l m) (sym is) (record {
        named = named_then c l m none_found last (named_candidates k v l m)
            (grows_on named first last one (grows_on first searched last two three)) fewer;
        recorded = All-from_get_or
            (λ (h : FoundInterpreter). All (IsTaken c l m last) (record_candidates l m h.address))
            last.found none (λ i below. record_taken c l m searched i none fewer below small);
      })

  list_searched : searched_candidates k m ≡ xs → AreAllSearched c k l m all
  list_searched whole =
      subst (AreAllSearched c k l m) (sym is)
      (subst (λ ys. All (IsTakenWhole c l m last) ys) (sym whole)
      (All-weaker (IsShownIn true c l m last) (IsTakenWhole c l m last)
      (λ a h head headed whole. h head (is_whole c l m a head headed whole)) xs
      (taken_then true c l m first last xs (records_grow c l m interpreter_limit 0 searched) fewer)))

-- those that are named, whether or not the search ended early
pub named_all : (c : ℕ → Bool) (k : Known) (v : Version) (l : Layout) (m : Memory)
    → (interpreters_at c k v l m).more ≡ false → AreAllNamed c k v l m (interpreters_at c k v l m)
named_all c k v l m few =
    let part = found_part c k v l m in
    list_named c k v l m part.looked (interpreters_at c k v l m) part.finds (interpreters_shown c k v l m).few few

pub searched_all : (c : ℕ → Bool) (k : Known) (v : Version) (l : Layout) (m : Memory)
    → (interpreters_at c k v l m).more ≡ false → (looked_at c k v l m).ended ≡ false
    → AreAllSearched c k l m (interpreters_at c k v l m)
searched_all c k v l m few ended =
    let part = found_part c k v l m in
    let rest = part.all (not_ended c k v l m ended).below in
    list_searched c k v l m part.looked (interpreters_at c k v l m) part.finds (interpreters_shown c k v l m).few few
    (part.parts ∙ ap (λ xs. part.looked ++ xs) rest ∙ append-nil part.looked)

pub named_found_all : (c : ℕ → Bool) (k : Known) (v : Version) (l : Layout) (m : Memory)
    (r : Result InterpreterSearch StackError) → IsOrNoMemory (told_at c k v l m) (told_result r)
    → IfOk r (λ search. search.finds.more ≡ false → AreAllNamed c k v l m (finds_of search.finds))
named_found_all c k v l m (Ok search) e = λ few.
    subst (AreAllNamed c k v l m) (sym (ap (λ (t : Told). t.finds) e))
    (named_all c k v l m (ap (λ (t : Told). t.finds.more) (sym e) ∙ few))
named_found_all c k v l m (Err e) h = tt

pub searched_found_all : (c : ℕ → Bool) (k : Known) (v : Version) (l : Layout) (m : Memory)
    (r : Result InterpreterSearch StackError) → IsOrNoMemory (told_at c k v l m) (told_result r)
    → IfOk r (λ search. search.finds.more ≡ false → search.looked.ended ≡ false
    → AreAllSearched c k l m (finds_of search.finds))
searched_found_all c k v l m (Ok search) e = λ few ended.
    subst (AreAllSearched c k l m) (sym (ap (λ (t : Told). t.finds) e))
    (searched_all c k v l m (ap (λ (t : Told). t.finds.more) (sym e) ∙ few)
    (ap (λ (t : Told). t.looked.ended) (sym e) ∙ ended))
searched_found_all c k v l m (Err e) h = tt
