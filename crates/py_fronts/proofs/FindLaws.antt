-- The interpreters that are found are shown, each once.
use Rattle.std.proofs.Common.{◌≡◌, ℕ, zero, suc, ◌+◌, ◌<◌, Bool, true, false, ltb, not, ◌||◌, ◌&&◌, List, [], ◌∷◌, ◌++◌}
use Rattle.std.proofs.Common.{length, map, refl, sym, subst, ◌∙◌, ap, arith, length-append}
use Rattle.std.specs.Prelude.{Ok, Err, Option, Some, None, Result, IfOk, nat_eq, if◌then◌else◌}
use Rattle.std.proofs.lemmas.Bool.Decides.{nat_tests}
use Rattle.std.proofs.lemmas.List.Elements.{All-append, All-cons, All-map, All-nil, All-weaker}
use Rattle.std.proofs.lemmas.List.{length-map}
use Rattle.std.proofs.lemmas.List.Folds.{list_any-append}
use Rattle.process_memory.specs.Memory.{Found, Memory}
use Rattle.py_fields.specs.declared.version.Version.{Version}
use Rattle.py_fields.specs.declared.layout.Layout.{Layout}
use Rattle.py_stacks.specs.Interpreter.{interpreter_named_by, threads_head}
use Rattle.py_stacks.specs.declared.error.StackError.{StackError}
use Rattle.py_process.specs.Facts.{Known}
use Rattle.py_fronts.specs.declared.interpreters.FoundInterpreter.{FoundInterpreter}
use Rattle.py_fronts.specs.declared.interpreters.InterpreterSearch.{InterpreterSearch}
use Rattle.py_fronts.specs.Answers.{IsOrNoMemory}
use Rattle.py_fronts.specs.Candidates.{named_candidates, others_led_to}
use Rattle.py_fronts.specs.Front.{Ending}
use Rattle.py_fronts.specs.Front.Ending.{Whole, Cut, Broken}
use Rattle.py_fronts.specs.Interpreters.{Finds, address_at, after_candidate, after_candidates, after_record_of}
use Rattle.py_fronts.specs.Interpreters.{after_records, finds_of, headed_at, headed_by, interpreter_limit}
use Rattle.py_fronts.specs.Interpreters.{interpreters_at, is_found, names_it, none_found, shown_head, shown_where}
use Rattle.py_fronts.specs.Interpreters.{Told, named_if, told_at, told_result, whole_head, with_head, with_name}
use Rattle.py_fronts.specs.Interpreters.{with_their_records}
use Rattle.py_fronts.specs.ShownInterpreters.{AreShown, EachOnce, IsHeaded, IsShown}
use Rattle.py_fronts.specs.ThreadFronts.{threads_front}
use Rattle.py_fronts.proofs.FoundMarks.{found_kept, same_by}
use Rattle.py_fronts.proofs.SearchLaws.{found_part}

named_by_test : (named a head h : ℕ) (b : Bool) → nat_eq named a ≡ b → ◌≡◌ {A = Option ℕ} (if b then Some head else None) (Some h) → (named ≡ a) × (head ≡ h)
named_by_test named a head h true e s = (same_by named a e, let k : head ≡ h = cc in k)
named_by_test named a head h false e s = absurd (cc)

named_is : (a head h : ℕ) (d : Found ℕ) → names_it a head d ≡ Some h → (d ≡ Ok a) × (head ≡ h)
named_is a head h (Ok named) e =
    let p = named_by_test named a head h (nat_eq named a) refl e in
    (ap Ok p.0, p.1)
named_is a head h (Err f) e = absurd (cc)

lies_by_test : (b : Bool) (x : Option ℕ) (h : ℕ) → (if b then x else None) ≡ Some h → (b ≡ true) × (x ≡ Some h)
lies_by_test true x h e = (refl, e)
lies_by_test false x h e = absurd (cc)

headed_found : (c : ℕ → Bool) (l : Layout) (m : Memory) (a h : ℕ) (d : Found ℕ) → c a ≡ true → threads_head l m a ≡ d → headed_by c l m a d ≡ Some h → IsHeaded c l m a h
headed_found c l m a h (Err f) lies is e = absurd (cc)
headed_found c l m a h (Ok zero) lies is e = absurd (cc)
headed_found c l m a h (Ok (suc head)) lies is e =
    let inside = lies_by_test (c (suc head)) (names_it a (suc head) (interpreter_named_by l m (suc head))) h e in
    let names = named_is a (suc head) h (interpreter_named_by l m (suc head)) inside.1 in
    record {
      lies = lies;
      names = is ∙ ap Ok names.1;
      some = λ z. let no_zero : suc head ≡ 0 = names.1 ∙ z in omega arith;
      head_lies = ap c (sym names.1) ∙ inside.0;
      named = ap (interpreter_named_by l m) (sym names.1) ∙ names.0;
    }

headed_is : (c : ℕ → Bool) (l : Layout) (m : Memory) (a h : ℕ) → headed_at c l m a ≡ Some h → IsHeaded c l m a h
unfolding headed_at
headed_is c l m a h e =
    let inside = lies_by_test (c a) (headed_by c l m a (threads_head l m a)) h e in
    headed_found c l m a h (threads_head l m a) inside.0 refl inside.1

pub whole_by : (e : Ending) (head h : ℕ) → whole_head e head ≡ Some h → (e ≡ Whole) × (head ≡ h)
whole_by Whole head h s = (refl, let k : head ≡ h = cc in k)
whole_by Cut head h s = absurd (cc)
whole_by (Broken why) head h s = absurd (cc)

shown_by : (searched : Bool) (c : ℕ → Bool) (l : Layout) (m : Memory) (a h : ℕ) (d : Option ℕ) → headed_at c l m a ≡ d → shown_where searched l m a d ≡ Some h → IsShown c l m (record { address = a; head = h; searched = searched })
shown_by false c l m a h d is e = record { headed = headed_is c l m a h (is ∙ e); whole = λ no_search. absurd (cc) }
shown_by true c l m a h None is e = absurd (cc)
shown_by true c l m a h (Some head) is e =
    let whole = whole_by (threads_front l a m head).ending head h e in
    record { headed = headed_is c l m a h (is ∙ ap Some whole.1); whole = λ by_search. ap (λ n. (threads_front l a m n).ending) (sym whole.1) ∙ whole.0 }

pub shown_is : (searched : Bool) (c : ℕ → Bool) (l : Layout) (m : Memory) (a h : ℕ) → shown_head searched c l m a ≡ Some h → IsShown c l m (record { address = a; head = h; searched = searched })
unfolding shown_head
shown_is searched c l m a h e = shown_by searched c l m a h (headed_at c l m a) refl e

-- ---- each once

other_way : (a b : ℕ) → nat_eq a b ≡ false → nat_eq b a ≡ false
other_way a b e = grind (arith, nat_tests)

neither : (a b : Bool) → (a || b) ≡ false → (a ≡ false) × (b ≡ false)
neither false b e = (refl, e)
neither true b e = absurd (cc)

not_behind : (xs : List FoundInterpreter) (x h : FoundInterpreter) → is_found xs x.address ≡ false → nat_eq x.address h.address ≡ false → is_found (xs ++ h ∷ []) x.address ≡ false
not_behind xs x h e n =
    let back = other_way x.address h.address n in
    list_any-append (λ (one : FoundInterpreter). nat_eq one.address x.address) xs (h ∷ []) ∙ rw (e, back) refl

pub once_more : (xs : List FoundInterpreter) (h : FoundInterpreter) → EachOnce xs → is_found xs h.address ≡ false → EachOnce (xs ++ h ∷ [])
once_more [] h once new = (refl, tt)
once_more (x ∷ xs) h once new =
    let apart = neither (nat_eq x.address h.address) (is_found xs h.address) new in
    (not_behind xs x h once.0 apart.0, once_more xs h once.1 apart.1)

-- ---- one candidate after another

one_by : (c : ℕ → Bool) (l : Layout) (m : Memory) (r : Finds) (h : FoundInterpreter) (room : Bool) → ltb (length r.found) interpreter_limit ≡ room → AreShown c l m r → IsShown c l m h → is_found r.found h.address ≡ false
    → AreShown c l m (if room then record { found = r.found ++ h ∷ []; more = r.more } else record { found = r.found; more = true })
one_by c l m r h true e s shown new =
    let below : length r.found < interpreter_limit = grind (arith, nat_tests) in
    record {
      each = All-append (IsShown c l m) r.found (h ∷ []) s.each (All-cons (IsShown c l m) h [] shown (All-nil (IsShown c l m)));
      once = once_more r.found h s.once new;
      few = omega (arith, below, length-append r.found (h ∷ []));
    }
one_by c l m r h false e s shown new = record { each = s.each; once = s.once; few = s.few }

head_by_case : (searched : Bool) (c : ℕ → Bool) (l : Layout) (m : Memory) (r : Finds) (a : ℕ) (head : Option ℕ) → shown_head searched c l m a ≡ head → AreShown c l m r → is_found r.found a ≡ false → AreShown c l m (with_head r searched a head)
head_by_case searched c l m r a None e s new = s
head_by_case searched c l m r a (Some h) e s new = one_by c l m r (record { address = a; head = h; searched = searched }) (ltb (length r.found) interpreter_limit) refl s (shown_is searched c l m a h e) new

-- what is named stays what it is

and_first : (a b : Bool) → (a && b) ≡ true → a ≡ true
and_first true b e = refl
and_first false b e = absurd (cc)

once_kept : (a : ℕ) (xs : List FoundInterpreter) → EachOnce xs → EachOnce (map (named_if a) xs)
once_kept a [] once = tt
once_kept a (one ∷ rest) once = (found_kept a rest one.address ∙ once.0, once_kept a rest once.1)

named_shown : (c : ℕ → Bool) (l : Layout) (m : Memory) (r : Finds) (searched : Bool) (a : ℕ) → AreShown c l m r
    → AreShown c l m (with_name r searched a)
named_shown c l m r true a s = s
named_shown c l m r false a s = record {
  each = All-map (IsShown c l m) (named_if a) r.found
      (All-weaker (IsShown c l m) (λ one. IsShown c l m (named_if a one))
      (λ one h. record {
        headed = h.headed;
        whole = λ e. h.whole (and_first one.searched (not (nat_eq one.address a)) e);
      }) r.found s.each);
  once = once_kept a r.found s.once;
  few = omega (arith, s.few, length-map r.found (named_if a));
}

candidate_by : (searched : Bool) (c : ℕ → Bool) (l : Layout) (m : Memory) (r : Finds) (a : ℕ) (known : Bool) → is_found r.found a ≡ known → AreShown c l m r → AreShown c l m (if known then with_name r searched a else with_head r searched a (shown_head searched c l m a))
candidate_by searched c l m r a true e s = named_shown c l m r searched a s
candidate_by searched c l m r a false e s = head_by_case searched c l m r a (shown_head searched c l m a) refl s e

candidates_shown : (searched : Bool) (c : ℕ → Bool) (l : Layout) (m : Memory) (r : Finds) (xs : List ℕ) → AreShown c l m r → AreShown c l m (after_candidates searched c l m r xs)
unfolding after_candidates
candidates_shown searched c l m r [] s = s
candidates_shown searched c l m r (a ∷ rest) s = candidates_shown searched c l m (after_candidate searched c l m r a) rest (candidate_by searched c l m r a (is_found r.found a) refl s)

record_shown : (c : ℕ → Bool) (l : Layout) (m : Memory) (r : Finds) (address : Option ℕ) → AreShown c l m r → AreShown c l m (after_record_of c l m r address)
record_shown c l m r None s = s
record_shown c l m r (Some a) s = candidates_shown false c l m r (others_led_to l m a) s

records_shown : (c : ℕ → Bool) (l : Layout) (m : Memory) (turns index : ℕ) (r : Finds) → AreShown c l m r → AreShown c l m (after_records c l m turns index r)
unfolding after_records
records_shown c l m zero index r s = s
records_shown c l m (suc turns) index r s = records_shown c l m turns (index + 1) (after_record_of c l m r (address_at r.found index)) (record_shown c l m r (address_at r.found index) s)

list_shown : (c : ℕ → Bool) (k : Known) (v : Version) (l : Layout) (m : Memory) (xs : List ℕ)
    → AreShown c l m (with_their_records true c l m
    (with_their_records false c l m none_found (named_candidates k v l m)) xs)
list_shown c k v l m xs =
    let none : AreShown c l m none_found = record { each = All-nil (IsShown c l m); once = tt; few = omega arith } in
    let named = records_shown c l m interpreter_limit 0 _ (candidates_shown false c l m none_found (named_candidates k v l m) none) in
    records_shown c l m interpreter_limit 0 _ (candidates_shown true c l m _ xs named)

pub interpreters_shown : (c : ℕ → Bool) (k : Known) (v : Version) (l : Layout) (m : Memory) → AreShown c l m (interpreters_at c k v l m)
interpreters_shown c k v l m =
    let part = found_part c k v l m in
    subst (AreShown c l m) (sym part.finds) (list_shown c k v l m part.looked)

pub shown_right : (c : ℕ → Bool) (k : Known) (v : Version) (l : Layout) (m : Memory) (r : Result InterpreterSearch StackError)
    → IsOrNoMemory (told_at c k v l m) (told_result r) → IfOk r (λ search. AreShown c l m (finds_of search.finds))
shown_right c k v l m (Ok search) e =
    subst (AreShown c l m) (sym (ap (λ (t : Told). t.finds) e)) (interpreters_shown c k v l m)
shown_right c k v l m (Err e) h = tt
