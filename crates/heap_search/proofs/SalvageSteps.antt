-- What is left, and what a search finds where nothing is.
use Rattle.std.proofs.Common.{◌≡◌, ◌≢◌, ℕ, ◌+◌, ◌≤◌, Bool, List, [], ◌∷◌, length, map, refl, sym, ◌∙◌}
use Rattle.std.proofs.Common.{ap, arith}
use Rattle.std.proofs.lemmas.List.{length-map}
use Rattle.std.specs.Prelude.{Option, Some, None}
use Rattle.elf64_core.specs.declared.header.Machine.{Machine}
use Rattle.image_memory.specs.declared.maps.CoreMapRange.{CoreMapRange}
use Rattle.process_memory.specs.Memory.{Memory}
use Rattle.py_fields.specs.declared.version.Version.{Version}
use Rattle.py_fields.specs.declared.layout.Layout.{Layout}
use Rattle.py_process.specs.Facts.{Known}
use Rattle.py_stacks.specs.declared.asked.Asked.{Asked}
use Rattle.py_fronts.specs.Candidates.{named_candidates}
use Rattle.py_fronts.specs.Fronts.{interpreter_of_front, interpreters_fronts, threads_from}
use Rattle.py_fronts.specs.ThreadFronts.{left_after}
use Rattle.py_fronts.specs.Interpreters.{Search}
use Rattle.py_fronts.specs.Salvaged.{LockedInterpreter, SalvagedShown, locked, salvaged_at, with_lock}
use Rattle.py_fronts.specs.Salvaged.{with_locks}
use Rattle.py_fronts.specs.declared.crash.Crash.{Crash}
use Rattle.py_fronts.specs.declared.fronts.InterpreterFront.{InterpreterFront}
use Rattle.py_fronts.specs.declared.interpreters.FoundInterpreter.{FoundInterpreter}
use Rattle.py_fronts.specs.declared.salvaged.SalvagedInterpreter.{SalvagedInterpreter}
use Rattle.py_fronts.specs.declared.search.Looked.{Looked}
use Rattle.heap_search.specs.Salvaged.{both_looked, code_class, salvaged_or_searched, searched_if, searched_reads}
use Rattle.heap_search.specs.Salvaged.{shown_by, shown_reads, unless_named, where_none}
use Rattle.heap_search.specs.Search.{looked_by, search_at, search_reads}

-- as many interpreters are read as were found
fronts_long : (q : Asked) (l : Layout) (m : Memory) (limit left : ℕ) (xs : List FoundInterpreter)
    → length (interpreters_fronts q l m limit left xs) ≡ length xs
unfolding interpreters_fronts
fronts_long q l m limit left [] = refl
fronts_long q l m limit left (x ∷ xs) =
    omega (arith, fronts_long q l m limit (left_after left (threads_from q l m limit left x).threads) xs)

pub fronts_few : (q : Asked) (l : Layout) (m : Memory) (limit : ℕ) (found : List FoundInterpreter)
    (fronts : List InterpreterFront)
    → map interpreter_of_front fronts ≡ interpreters_fronts q l m limit 4194304 found
    → length fronts ≡ length found
fronts_few q l m limit found fronts e =
    omega (arith, ap length e, length-map fronts interpreter_of_front, fronts_long q l m limit 4194304 found)

pub shown_is : (machine : Machine) (k : Known) (v : Version) (l : Layout) (m : Memory) (q : Asked) (limit : ℕ)
    (crash : Option Crash) (segments : List CoreMapRange) (looked both : Looked) (s : Search)
    (fronts : List InterpreterFront) (shown : List SalvagedInterpreter)
    → map interpreter_of_front fronts ≡ interpreters_fronts q l m limit 4194304 s.finds.found
    → map locked shown ≡ with_locks machine k v l m fronts → both ≡ both_looked looked (looked_by segments s)
    → ◌≡◌ {A = SalvagedShown}
    (record { interpreters = map locked shown; more = s.finds.more; looked = both; crash = crash })
    (shown_by machine k v l m q limit crash segments looked s)
shown_is machine k v l m q limit crash segments looked both s fronts shown e h is =
    ap (λ xs. record { interpreters = xs; more = s.finds.more; looked = both; crash = crash })
    (h ∙ ap (map (with_lock machine k v l m)) e)
    ∙ ap (λ x. record {
      interpreters = map (with_lock machine k v l m) (interpreters_fronts q l m limit 4194304 s.finds.found);
      more = s.finds.more;
      looked = x;
      crash = crash;
    }) is

-- where one is shown, that is what is left
some_first : (xs : List LockedInterpreter) (one first : SalvagedShown) → length xs ≢ 0 → first ≡ where_none xs one first
some_first [] one first some = absurd (some refl)
some_first (x ∷ xs) one first some = refl

none_first : (xs : List LockedInterpreter) (one first : SalvagedShown) → length xs ≡ 0 → one ≡ where_none xs one first
none_first [] one first e = refl
none_first (x ∷ xs) one first e = absurd (omega (arith, e))

unless_same : (xs : List ℕ) (first : SalvagedShown) → first ≡ unless_named xs first first
unless_same [] first = refl
unless_same (x ∷ xs) first = refl

named_first : (xs : List ℕ) (one first : SalvagedShown) → length xs ≢ 0 → first ≡ unless_named xs one first
named_first [] one first some = absurd (some refl)
named_first (x ∷ xs) one first some = refl

unnamed_first : (xs : List ℕ) (one first : SalvagedShown) → length xs ≡ 0 → one ≡ unless_named xs one first
unnamed_first [] one first e = refl
unnamed_first (x ∷ xs) one first e = absurd (omega (arith, e))

module _ (c : ℕ → Bool) (machine : Machine) (k : Known) (v : Version) (l : Layout) (m : Memory) (q : Asked)
    (limit : ℕ) (crash : Option Crash) (segments : List CoreMapRange) (pointers : List ℕ) where
  -- what is left, before the heap is looked at
  abbrev at_first : SalvagedShown
  at_first = salvaged_at c machine k v l m q limit crash

  -- as many are shown as their values say
  long_as : (xs : List SalvagedInterpreter) (first : SalvagedShown) → first ≡ at_first
      → first.interpreters ≡ map locked xs → length xs ≡ length at_first.interpreters
  long_as xs first is e =
      omega (arith, length-map xs locked, ap length e, ap (λ (s : SalvagedShown). length s.interpreters) is)

  pub first_is : (xs : List SalvagedInterpreter) (first : SalvagedShown) → first ≡ at_first
      → first.interpreters ≡ map locked xs → length xs ≢ 0
      → first ≡ salvaged_or_searched c machine k v l m q limit crash segments pointers
  unfolding salvaged_or_searched
  first_is xs first is e some =
      is ∙ some_first at_first.interpreters
      (unless_named (named_candidates k v l m)
      (searched_if c machine k v l m q limit crash segments pointers (code_class k) at_first) at_first) at_first
      (λ z. some (long_as xs first is e ∙ z))

  -- none is shown, and the class of codes isn't known
  pub unknown_is : (xs : List SalvagedInterpreter) (first : SalvagedShown) → first ≡ at_first
      → first.interpreters ≡ map locked xs → length xs ≡ 0 → code_class k ≡ None
      → first ≡ salvaged_or_searched c machine k v l m q limit crash segments pointers
  unfolding salvaged_or_searched
  unknown_is xs first is e none unknown =
      let zero : length at_first.interpreters ≡ 0 = sym (long_as xs first is e) ∙ none in
      rw unknown (is ∙ unless_same (named_candidates k v l m) at_first
      ∙ none_first at_first.interpreters (unless_named (named_candidates k v l m) at_first at_first) at_first zero)

  -- none is shown, and something names one
  pub named_is : (xs : List SalvagedInterpreter) (first : SalvagedShown) (named : List ℕ) → first ≡ at_first
      → first.interpreters ≡ map locked xs → length xs ≡ 0 → named ≡ named_candidates k v l m → length named ≢ 0
      → first ≡ salvaged_or_searched c machine k v l m q limit crash segments pointers
  unfolding salvaged_or_searched
  named_is xs first named is e none names some =
      let zero : length at_first.interpreters ≡ 0 = sym (long_as xs first is e) ∙ none in
      let one = searched_if c machine k v l m q limit crash segments pointers (code_class k) at_first in
      is ∙ named_first (named_candidates k v l m) one at_first (λ z. some (ap length names ∙ z))
      ∙ none_first at_first.interpreters (unless_named (named_candidates k v l m) one at_first) at_first zero

  -- none is shown, and the heap is looked at
  pub searched_is : (xs : List SalvagedInterpreter) (first shown : SalvagedShown) (named : List ℕ) (class : ℕ)
      (s : Search) → first ≡ at_first → first.interpreters ≡ map locked xs → length xs ≡ 0
      → named ≡ named_candidates k v l m → length named ≡ 0 → code_class k ≡ Some class
      → s ≡ search_at c l m pointers class segments
      → shown ≡ shown_by machine k v l m q limit crash segments first.looked s
      → shown ≡ salvaged_or_searched c machine k v l m q limit crash segments pointers
  unfolding salvaged_or_searched
  searched_is xs first shown named class s is e none names unnamed known found same =
      let zero : length at_first.interpreters ≡ 0 = sym (long_as xs first is e) ∙ none in
      rw known (same
      ∙ ap (λ (f : SalvagedShown). shown_by machine k v l m q limit crash segments f.looked s) is
      ∙ ap (shown_by machine k v l m q limit crash segments at_first.looked) found
      ∙ unnamed_first (named_candidates k v l m)
      (shown_by machine k v l m q limit crash segments at_first.looked (search_at c l m pointers class segments))
      at_first (sym (ap length names) ∙ unnamed)
      ∙ none_first at_first.interpreters (unless_named (named_candidates k v l m)
      (shown_by machine k v l m q limit crash segments at_first.looked (search_at c l m pointers class segments))
      at_first) at_first zero)

-- what the search of a known class costs
pub searched_cost : (c : ℕ → Bool) (l : Layout) (m : Memory) (q : Asked) (limit : ℕ) (segments : List CoreMapRange)
    (pointers : List ℕ) (known : Option ℕ) (class : ℕ) (s : Search) → known ≡ Some class
    → s ≡ search_at c l m pointers class segments
    → searched_reads c l m q limit segments pointers known
    ≡ search_reads c l m pointers class segments + shown_reads l m q limit s
searched_cost c l m q limit segments pointers known class s is e = rw (is, e) refl

pub searched_first : (c : ℕ → Bool) (l : Layout) (m : Memory) (q : Asked) (limit : ℕ) (segments : List CoreMapRange)
    (pointers : List ℕ) (known : Option ℕ) (class : ℕ) → known ≡ Some class
    → search_reads c l m pointers class segments ≤ searched_reads c l m q limit segments pointers known
searched_first c l m q limit segments pointers known class is = rw is (omega arith)

-- ---- laws

where_crash : (xs : List LockedInterpreter) (one two : SalvagedShown) (crash : Option Crash) → one.crash ≡ crash
    → two.crash ≡ crash → (where_none xs one two).crash ≡ crash
where_crash [] one two crash e h = e
where_crash (x ∷ xs) one two crash e h = h

unless_crash : (xs : List ℕ) (one two : SalvagedShown) (crash : Option Crash) → one.crash ≡ crash → two.crash ≡ crash
    → (unless_named xs one two).crash ≡ crash
unless_crash [] one two crash e h = e
unless_crash (x ∷ xs) one two crash e h = h

if_crash : (c : ℕ → Bool) (machine : Machine) (k : Known) (v : Version) (l : Layout) (m : Memory) (q : Asked)
    (limit : ℕ) (crash : Option Crash) (segments : List CoreMapRange) (pointers : List ℕ) (class : Option ℕ)
    (first : SalvagedShown) → first.crash ≡ crash
    → (searched_if c machine k v l m q limit crash segments pointers class first).crash ≡ crash
if_crash c machine k v l m q limit crash segments pointers None first e = e
if_crash c machine k v l m q limit crash segments pointers (Some class) first e = refl

-- the thread that got the signal is handed on
pub crash_kept : (c : ℕ → Bool) (machine : Machine) (k : Known) (v : Version) (l : Layout) (m : Memory) (q : Asked)
    (limit : ℕ) (crash : Option Crash) (segments : List CoreMapRange) (pointers : List ℕ)
    → (salvaged_or_searched c machine k v l m q limit crash segments pointers).crash ≡ crash
unfolding salvaged_or_searched salvaged_at
crash_kept c machine k v l m q limit crash segments pointers =
    let first = salvaged_at c machine k v l m q limit crash in
    let one = searched_if c machine k v l m q limit crash segments pointers (code_class k) first in
    where_crash first.interpreters (unless_named (named_candidates k v l m) one first) first crash
    (unless_crash (named_candidates k v l m) one first crash
    (if_crash c machine k v l m q limit crash segments pointers (code_class k) first refl) refl) refl

where_same : (xs : List LockedInterpreter) (one two other more : SalvagedShown)
    → one.interpreters ≡ other.interpreters → two.interpreters ≡ more.interpreters
    → (where_none xs one two).interpreters ≡ (where_none xs other more).interpreters
where_same [] one two other more e h = e
where_same (x ∷ xs) one two other more e h = h

unless_alike : (xs : List ℕ) (one two other more : SalvagedShown)
    → one.interpreters ≡ other.interpreters → two.interpreters ≡ more.interpreters
    → (unless_named xs one two).interpreters ≡ (unless_named xs other more).interpreters
unless_alike [] one two other more e h = e
unless_alike (x ∷ xs) one two other more e h = h

if_same : (c : ℕ → Bool) (machine : Machine) (k : Known) (v : Version) (l : Layout) (m : Memory) (q : Asked)
    (limit : ℕ) (crash another : Option Crash) (segments : List CoreMapRange) (pointers : List ℕ) (class : Option ℕ)
    (first other : SalvagedShown) → first.interpreters ≡ other.interpreters
    → (searched_if c machine k v l m q limit crash segments pointers class first).interpreters
    ≡ (searched_if c machine k v l m q limit another segments pointers class other).interpreters
if_same c machine k v l m q limit crash another segments pointers None first other e = e
if_same c machine k v l m q limit crash another segments pointers (Some class) first other e = refl

-- the interpreters that are shown don't depend on which thread got the signal
pub interpreters_same : (c : ℕ → Bool) (machine : Machine) (k : Known) (v : Version) (l : Layout) (m : Memory)
    (q : Asked) (limit : ℕ) (crash another : Option Crash) (segments : List CoreMapRange) (pointers : List ℕ)
    → (salvaged_or_searched c machine k v l m q limit crash segments pointers).interpreters
    ≡ (salvaged_or_searched c machine k v l m q limit another segments pointers).interpreters
unfolding salvaged_or_searched salvaged_at
interpreters_same c machine k v l m q limit crash another segments pointers =
    let first = salvaged_at c machine k v l m q limit crash in
    let other = salvaged_at c machine k v l m q limit another in
    let one = searched_if c machine k v l m q limit crash segments pointers (code_class k) first in
    let two = searched_if c machine k v l m q limit another segments pointers (code_class k) other in
    let named = named_candidates k v l m in
    where_same first.interpreters (unless_named named one first) first (unless_named named two other) other
    (unless_alike named one first two other
    (if_same c machine k v l m q limit crash another segments pointers (code_class k) first other refl) refl) refl
