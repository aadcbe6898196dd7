-- What is found is of the process.
use Rattle.std.proofs.Common.{◌≡◌, ℕ, ◌<◌, Bool, true, false, List, [], ◌∷◌, ◌++◌}
use Rattle.std.proofs.Common.{length, refl, sym, subst, ◌∙◌, ap, arith, length-append}
use Rattle.std.specs.Prelude.{Ok, Err, Option, Some, None, Result, IfOk, nat_lt, if◌then◌else◌}
use Rattle.std.proofs.lemmas.Bool.Decides.{nat_tests}
use Rattle.std.proofs.lemmas.List.Elements.{All-append, All-cons, All-nil}
use Rattle.process_memory.specs.Memory.{Memory}
use Rattle.py_fields.specs.declared.layout.Layout.{Layout}
use Rattle.image_memory.specs.declared.maps.CoreMapRange.{CoreMapRange}
use Rattle.py_stacks.specs.declared.error.StackError.{StackError}
use Rattle.py_fronts.specs.Answers.{IsOrNoMemory}
use Rattle.py_fronts.specs.declared.interpreters.FoundInterpreter.{FoundInterpreter}
use Rattle.py_fronts.specs.Interpreters.{Finds, Search, finds_of, interpreter_limit, is_found, search_limit, shown_head}
use Rattle.py_fronts.specs.Interpreters.{with_head}
use Rattle.py_fronts.proofs.FindLaws.{once_more, shown_is}
use Rattle.heap_search.specs.declared.search.HeapSearch.{HeapSearch}
use Rattle.heap_search.specs.Known.{has_known}
use Rattle.heap_search.specs.OfProcess.{AreOfProcess, IsOfProcess}
use Rattle.heap_search.specs.Search.{after_looks, look_at, look_within, search_at, search_result}
use Rattle.heap_search.specs.Search.{taken_by, taken_head}

module _ (c : ℕ → Bool) (l : Layout) (m : Memory) (pointers : List ℕ) (class : ℕ) where
  some_if : (b : Bool) (head h : ℕ) → ◌≡◌ {A = Option ℕ} (if b then Some head else None) (Some h)
      → (b ≡ true) × (head ≡ h)
  some_if true head h e = (refl, let k : head ≡ h = cc in k)
  some_if false head h e = absurd (cc)

  by_head : (a h : ℕ) (head : Option ℕ) → shown_head true c l m a ≡ head
      → taken_by l m pointers class a head ≡ Some h
      → IsOfProcess c l m pointers class (record { address = a; head = h; searched = true })
  by_head a h None is e = absurd (cc)
  by_head a h (Some head) is e =
      let p = some_if (has_known l m pointers class a head) head h e in
      record {
        shown = shown_is true c l m a h (is ∙ ap Some p.1);
        searched = refl;
        known = ap (has_known l m pointers class a) (sym p.1) ∙ p.0;
      }

  taken_is : (a h : ℕ) → taken_head c l m pointers class a ≡ Some h
      → IsOfProcess c l m pointers class (record { address = a; head = h; searched = true })
  unfolding taken_head
  taken_is a h e = by_head a h (shown_head true c l m a) refl e

  one_by : (r : Finds) (h : FoundInterpreter) (room : Bool) → nat_lt (length r.found) interpreter_limit ≡ room
      → AreOfProcess c l m pointers class r → IsOfProcess c l m pointers class h → is_found r.found h.address ≡ false
      → AreOfProcess c l m pointers class
      (if room then record { found = r.found ++ h ∷ []; more = r.more } else record { found = r.found; more = true })
  one_by r h true e s is new =
      let below : length r.found < interpreter_limit = grind (arith, nat_tests) in
      record {
        each = All-append (IsOfProcess c l m pointers class) r.found (h ∷ []) s.each
            (All-cons (IsOfProcess c l m pointers class) h [] is (All-nil (IsOfProcess c l m pointers class)));
        once = once_more r.found h s.once new;
        few = omega (arith, below, length-append r.found (h ∷ []));
      }
  one_by r h false e s is new = record { each = s.each; once = s.once; few = s.few }

  head_by : (r : Finds) (a : ℕ) (head : Option ℕ) → taken_head c l m pointers class a ≡ head
      → AreOfProcess c l m pointers class r → is_found r.found a ≡ false
      → AreOfProcess c l m pointers class (with_head r true a head)
  head_by r a None e s new = s
  head_by r a (Some h) e s new =
      one_by r (record { address = a; head = h; searched = true }) (nat_lt (length r.found) interpreter_limit) refl s
      (taken_is a h e) new

  finds_by : (r : Finds) (a : ℕ) (known : Bool) → is_found r.found a ≡ known → AreOfProcess c l m pointers class r
      → AreOfProcess c l m pointers class
      (if known then r else with_head r true a (taken_head c l m pointers class a))
  finds_by r a true e s = s
  finds_by r a false e s = head_by r a (taken_head c l m pointers class a) refl s e

  within_by : (s : Search) (a : ℕ) (b : Bool) → AreOfProcess c l m pointers class s.finds
      → AreOfProcess c l m pointers class (if b then look_at c l m pointers class s a else s).finds
  within_by s a true is = finds_by s.finds a (is_found s.finds.found a) refl is
  within_by s a false is = is

  pub looks_are : (s : Search) (xs : List ℕ) → AreOfProcess c l m pointers class s.finds
      → AreOfProcess c l m pointers class (after_looks c l m pointers class s xs).finds
  unfolding after_looks
  looks_are s [] is = is
  looks_are s (x ∷ xs) is =
      looks_are (look_within c l m pointers class s x) xs (within_by s x (nat_lt s.members search_limit) is)

  search_are : (maps : List CoreMapRange) → AreOfProcess c l m pointers class (search_at c l m pointers class maps).finds
  unfolding search_at
  search_are maps =
      looks_are _ _ (record { each = All-nil (IsOfProcess c l m pointers class); once = tt; few = omega arith })

  -- what the answer says
  pub found_right : (maps : List CoreMapRange) (r : Result HeapSearch StackError)
      → IsOrNoMemory (search_at c l m pointers class maps) (search_result r)
      → IfOk r (λ search. AreOfProcess c l m pointers class (finds_of search.finds))
  found_right maps (Ok search) e =
      subst (AreOfProcess c l m pointers class) (sym (ap (λ (s : Search). s.finds) e)) (search_are maps)
  found_right maps (Err e) h = tt
