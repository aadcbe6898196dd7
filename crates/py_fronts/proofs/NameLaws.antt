-- What is found was found by search alone where nothing names it, and nowhere else.
use Rattle.std.proofs.Common.{◌≡◌, ◌≢◌, ℕ, zero, suc, ◌+◌, ◌<◌, Bool, true, false, ltb, not, ◌||◌, ◌&&◌, List, [], ◌∷◌}
use Rattle.std.proofs.Common.{length, refl, sym, subst, ◌∙◌, ap, arith, get_or, inl, inr}
use Rattle.std.specs.Prelude.{◌⊎◌, All, Contains, Ok, Err, Option, Some, None, Result, IfOk, option_map}
use Rattle.std.specs.Prelude.{nat_eq}
use Rattle.std.proofs.lemmas.List.{length-map}
use Rattle.std.proofs.lemmas.List.Elements.{All-cons, All-contains, All-contains_itself, All-filter, All-from_get_or}
use Rattle.std.proofs.lemmas.List.Elements.{All-get_or, All-head, All-map, All-nil, All-push, All-tail, All-weaker}
use Rattle.std.proofs.lemmas.List.Elements.{Contains-get_or, at_from_Contains, filter_passes}
use Rattle.std.proofs.lemmas.List.Folds.{Any-from_list_any}
use Rattle.std.proofs.lemmas.Option.{slice_get-get_or}
use Rattle.process_memory.specs.Memory.{Memory}
use Rattle.py_fields.specs.declared.version.Version.{Version}
use Rattle.py_fields.specs.declared.layout.Layout.{Layout}
use Rattle.py_stacks.specs.declared.error.StackError.{StackError}
use Rattle.py_process.specs.Facts.{Known}
use Rattle.py_fronts.specs.declared.interpreters.FoundInterpreter.{FoundInterpreter}
use Rattle.py_fronts.specs.declared.interpreters.InterpreterSearch.{InterpreterSearch}
use Rattle.py_fronts.specs.Answers.{IsOrNoMemory}
use Rattle.py_fronts.specs.Candidates.{named_candidates, other_than, others_led_to, record_candidates}
use Rattle.py_fronts.specs.Interpreters.{Finds, address_at, after_candidate, after_candidates, after_record_of}
use Rattle.py_fronts.specs.Interpreters.{after_records, finds_of, headed_at, interpreter_limit}
use Rattle.py_fronts.specs.Interpreters.{interpreters_at, is_found, named_if, none_found, shown_head, with_head}
use Rattle.py_fronts.specs.Interpreters.{Told, told_at, told_result, with_name, with_one, with_their_records}
use Rattle.py_fronts.specs.ShownInterpreters.{AreMarked, AreShown, IsMarked, IsNamed, IsShown}
use Rattle.py_fronts.proofs.AllFound.{all_but, is_headed, record_reaches}
use Rattle.py_fronts.proofs.Growing.{Grows, candidates_grow, grows_on, records_grow, same_grows, still}
use Rattle.py_fronts.proofs.FindLaws.{interpreters_shown}
use Rattle.py_fronts.proofs.SearchLaws.{found_part}
use Rattle.py_fronts.proofs.FoundMarks.{found_at, found_kept, found_more, is_searched, less_searched, mark_at}
use Rattle.py_fronts.proofs.FoundMarks.{none_searched, not_searched, same_address, same_by, searched_more}

-- ---- what is named has its name

-- an address stands there as named, or it doesn't, and there is no room for more
abbrev HasName : ℕ → Finds → Type 0
HasName a r = ((is_found r.found a ≡ true) × (is_searched r.found a ≡ false))
    ⊎ ((is_found r.found a ≡ false) × (ltb (length r.found) interpreter_limit ≡ false))

name_kept : (a : ℕ) (r : Finds) (searched : Bool) (b : ℕ) → HasName a r → HasName a (with_name r searched b)
name_kept a r true b h = h
name_kept a r false b (inl h) = inl (found_kept b r.found a ∙ h.0, less_searched b a r.found h.1)
name_kept a r false b (inr h) =
    inr (found_kept b r.found a ∙ h.0, ap (λ n. ltb n interpreter_limit) (length-map r.found (named_if b)) ∙ h.1)

apart_by : (xs : List FoundInterpreter) (a b : ℕ) (t : Bool) → nat_eq b a ≡ t → is_found xs a ≡ true
    → is_found xs b ≡ false → t ≡ false
apart_by xs a b false e there new = refl
apart_by xs a b true e there new =
    absurd (let both : true ≡ false = sym there ∙ ap (is_found xs) (sym (same_by b a e)) ∙ new in cc)

one_kept : (a : ℕ) (r : Finds) (h : FoundInterpreter) (room : Bool) → ltb (length r.found) interpreter_limit ≡ room
    → is_found r.found h.address ≡ false → HasName a r → HasName a (with_one r h)
one_kept a r h false e new has = rw e has
one_kept a r h true e new (inr has) = absurd (let both : true ≡ false = sym e ∙ has.1 in cc)
one_kept a r h true e new (inl has) =
    let apart : nat_eq h.address a ≡ false = apart_by r.found a h.address (nat_eq h.address a) refl has.0 new in
    rw e (inl (found_more r.found h a ∙ rw has.0 refl, searched_more r.found h a ∙ rw (has.1, apart) refl))

head_kept : (a : ℕ) (r : Finds) (searched : Bool) (b : ℕ) (head : Option ℕ) → is_found r.found b ≡ false
    → HasName a r → HasName a (with_head r searched b head)
head_kept a r searched b None new has = has
head_kept a r searched b (Some h) new has =
    one_kept a r (record { address = b; head = h; searched = searched }) (ltb (length r.found) interpreter_limit) refl
    new has

candidate_kept : (searched : Bool) (c : ℕ → Bool) (l : Layout) (m : Memory) (a : ℕ) (r : Finds) (b : ℕ) (known : Bool)
    → is_found r.found b ≡ known → HasName a r → HasName a (after_candidate searched c l m r b)
candidate_kept searched c l m a r b true e has = rw e (name_kept a r searched b has)
candidate_kept searched c l m a r b false e has = rw e (head_kept a r searched b (shown_head searched c l m b) e has)

candidates_kept : (searched : Bool) (c : ℕ → Bool) (l : Layout) (m : Memory) (a : ℕ) (r : Finds) (xs : List ℕ)
    → HasName a r → HasName a (after_candidates searched c l m r xs)
unfolding after_candidates
candidates_kept searched c l m a r [] has = has
candidates_kept searched c l m a r (x ∷ rest) has =
    candidates_kept searched c l m a (after_candidate searched c l m r x) rest
    (candidate_kept searched c l m a r x (is_found r.found x) refl has)

record_kept : (c : ℕ → Bool) (l : Layout) (m : Memory) (a : ℕ) (r : Finds) (address : Option ℕ) → HasName a r
    → HasName a (after_record_of c l m r address)
record_kept c l m a r None has = has
record_kept c l m a r (Some b) has = candidates_kept false c l m a r (others_led_to l m b) has

records_kept : (c : ℕ → Bool) (l : Layout) (m : Memory) (a turns index : ℕ) (r : Finds) → HasName a r
    → HasName a (after_records c l m turns index r)
unfolding after_records
records_kept c l m a zero index r has = has
records_kept c l m a (suc turns) index r has =
    records_kept c l m a turns (index + 1) (after_record_of c l m r (address_at r.found index))
    (record_kept c l m a r (address_at r.found index) has)

one_given : (r : Finds) (a head : ℕ) (room : Bool) → ltb (length r.found) interpreter_limit ≡ room
    → is_found r.found a ≡ false → HasName a (with_one r (record { address = a; head = head; searched = false }))
one_given r a head false e new = rw e (inr (new, e))
one_given r a head true e new =
    let none = none_searched a r.found new in
    let h : FoundInterpreter = record { address = a; head = head; searched = false } in
    rw e
    (inl (found_more r.found h a ∙ rw (new, same_address a) refl, searched_more r.found h a ∙ rw (none, same_address a) refl))

named_head : (c : ℕ → Bool) (l : Layout) (m : Memory) (a head : ℕ) → headed_at c l m a ≡ Some head
    → shown_head false c l m a ≡ Some head
unfolding shown_head
named_head c l m a head e = e

name_given : (c : ℕ → Bool) (l : Layout) (m : Memory) (a head : ℕ) (r : Finds) (known : Bool)
    → is_found r.found a ≡ known → headed_at c l m a ≡ Some head → HasName a (after_candidate false c l m r a)
name_given c l m a head r true e headed = rw e (inl (found_kept a r.found a ∙ e, not_searched a r.found))
name_given c l m a head r false e headed =
    rw (e, named_head c l m a head headed) (one_given r a head (ltb (length r.found) interpreter_limit) refl e)

abbrev IsNamedIn : (ℕ → Bool) → Layout → Memory → Finds → ℕ → Type 0
IsNamedIn c l m r a = (head : ℕ) → headed_at c l m a ≡ Some head → HasName a r

names_given : (c : ℕ → Bool) (l : Layout) (m : Memory) (r : Finds) (xs : List ℕ)
    → All (IsNamedIn c l m (after_candidates false c l m r xs)) xs
unfolding after_candidates
names_given c l m r [] = All-nil (IsNamedIn c l m r)
names_given c l m r (a ∷ rest) =
    let one = after_candidate false c l m r a in
    All-cons (IsNamedIn c l m (after_candidates false c l m one rest)) a rest
    (λ head headed. candidates_kept false c l m a one rest (name_given c l m a head r (is_found r.found a) refl headed))
    (names_given c l m one rest)

-- those that the record of one leads to, but for itself
abbrev IsOtherNamed : (ℕ → Bool) → Layout → Memory → ℕ → Finds → ℕ → Type 0
IsOtherNamed c l m b r a = b ≢ a → IsNamedIn c l m r a

others_given : (c : ℕ → Bool) (l : Layout) (m : Memory) (b : ℕ) (r : Finds)
    → All (IsOtherNamed c l m b (after_candidates false c l m r (others_led_to l m b))) (record_candidates l m b)
unfolding others_led_to
others_given c l m b r =
    let new = after_candidates false c l m r (others_led_to l m b) in
    all_but (IsOtherNamed c l m b new) b (record_candidates l m b) (λ other. absurd (other refl))
    (All-weaker (IsNamedIn c l m new) (IsOtherNamed c l m b new) (λ a h other. h) (others_led_to l m b)
    (names_given c l m r (others_led_to l m b)))

others_named : (c : ℕ → Bool) (l : Layout) (m : Memory) (r : Finds) (i b : ℕ) → i < interpreter_limit
    → address_at (after_records c l m interpreter_limit 0 r).found i ≡ Some b
    → All (IsOtherNamed c l m b (after_records c l m interpreter_limit 0 r)) (record_candidates l m b)
others_named c l m r i b below at =
    record_reaches c l m b (λ x. All (IsOtherNamed c l m b x) (record_candidates l m b)) interpreter_limit 0 r i
    (λ x. others_given c l m b x)
    (λ turns index x h.
    All-weaker (IsOtherNamed c l m b x) (IsOtherNamed c l m b (after_records c l m turns index x))
    (λ a named other head headed. records_kept c l m a turns index x (named other head headed))
    (record_candidates l m b) h)
    (omega arith) (omega (arith, below)) at

-- ---- what was found by name is named

abbrev ByName : (ℕ → Type 0) → FoundInterpreter → Type 0
ByName P one = one.searched ≡ false → P one.address

name_by : (P : ℕ → Type 0) (b : ℕ) (one : FoundInterpreter) → P b → ByName P one → (s t : Bool) → one.searched ≡ s
    → nat_eq one.address b ≡ t → (s && not t) ≡ false → P one.address
name_by P b one p h false t is e none = h is
name_by P b one p h true true is e none = subst P (sym (same_by one.address b e)) p
name_by P b one p h true false is e none = absurd (cc)

told_name : (P : ℕ → Type 0) (r : Finds) (searched : Bool) (b : ℕ) → (searched ≡ false → P b)
    → All (ByName P) r.found → All (ByName P) (with_name r searched b).found
told_name P r true b p h = h
told_name P r false b p h =
    All-map (ByName P) (named_if b) r.found
    (All-weaker (ByName P) (λ one. ByName P (named_if b one))
    (λ one is none. name_by P b one (p refl) is one.searched (nat_eq one.address b) refl refl none) r.found h)

told_one : (P : ℕ → Type 0) (r : Finds) (h : FoundInterpreter) (room : Bool)
    → ltb (length r.found) interpreter_limit ≡ room → ByName P h → All (ByName P) r.found
    → All (ByName P) (with_one r h).found
told_one P r h true e by_name all = rw e (All-push (ByName P) r.found h all by_name)
told_one P r h false e by_name all = rw e all

told_head : (P : ℕ → Type 0) (r : Finds) (searched : Bool) (b : ℕ) (head : Option ℕ) → (searched ≡ false → P b)
    → All (ByName P) r.found → All (ByName P) (with_head r searched b head).found
told_head P r searched b None p h = h
told_head P r searched b (Some head) p h =
    told_one P r (record { address = b; head = head; searched = searched }) (ltb (length r.found) interpreter_limit)
    refl p h

told_candidate : (P : ℕ → Type 0) (searched : Bool) (c : ℕ → Bool) (l : Layout) (m : Memory) (r : Finds) (b : ℕ)
    (known : Bool) → is_found r.found b ≡ known → (searched ≡ false → P b) → All (ByName P) r.found
    → All (ByName P) (after_candidate searched c l m r b).found
told_candidate P searched c l m r b true e p h = rw e (told_name P r searched b p h)
told_candidate P searched c l m r b false e p h = rw e (told_head P r searched b (shown_head searched c l m b) p h)

told_candidates : (P : ℕ → Type 0) (searched : Bool) (c : ℕ → Bool) (l : Layout) (m : Memory) (r : Finds)
    (xs : List ℕ) → All (λ b. searched ≡ false → P b) xs → All (ByName P) r.found
    → All (ByName P) (after_candidates searched c l m r xs).found
unfolding after_candidates
told_candidates P searched c l m r [] p h = h
told_candidates P searched c l m r (b ∷ rest) p h =
    told_candidates P searched c l m (after_candidate searched c l m r b) rest
    (All-tail (λ b. searched ≡ false → P b) b rest p)
    (told_candidate P searched c l m r b (is_found r.found b) refl (All-head (λ b. searched ≡ false → P b) b rest p) h)

-- P holds of the others that the record of each that is found leads to
abbrev LedTo : (ℕ → Type 0) → Layout → Memory → Finds → Type 0
LedTo P l m all = (b : ℕ) → is_found all.found b ≡ true → All P (others_led_to l m b)

there_at : (xs : List FoundInterpreter) (i b : ℕ) → address_at xs i ≡ Some b → is_found xs b ≡ true
there_at [] i b e = absurd (cc)
there_at (one ∷ rest) zero b e =
    let same : one.address ≡ b = cc in
    ap (λ t. t || is_found rest b) (ap (λ n. nat_eq n b) same ∙ same_address b)
there_at (one ∷ rest) (suc i) b e = ap (λ t. nat_eq one.address b || t) (there_at rest i b e)
    ∙ either (nat_eq one.address b)
  where
    either : (t : Bool) → (t || true) ≡ true
    either true = refl
    either false = refl

told_record : (P : ℕ → Type 0) (c : ℕ → Bool) (l : Layout) (m : Memory) (r : Finds) (address : Option ℕ)
    → ((b : ℕ) → address ≡ Some b → All P (others_led_to l m b)) → All (ByName P) r.found
    → All (ByName P) (after_record_of c l m r address).found
told_record P c l m r None p h = h
told_record P c l m r (Some b) p h =
    told_candidates P false c l m r (others_led_to l m b)
    (All-weaker P (λ x. false ≡ false → P x) (λ x is e. is) (others_led_to l m b) (p b refl)) h

told_records : (P : ℕ → Type 0) (c : ℕ → Bool) (l : Layout) (m : Memory) (all : Finds) (turns index : ℕ) (r : Finds)
    → LedTo P l m all → Grows (after_records c l m turns index r) all → All (ByName P) r.found
    → All (ByName P) (after_records c l m turns index r).found
unfolding after_records
told_records P c l m all zero index r p grows h = h
told_records P c l m all (suc turns) index r p grows h =
    let next = after_record_of c l m r (address_at r.found index) in
    let on = grows_on r (after_records c l m (suc turns) index r) all (records_grow c l m (suc turns) index r) grows in
    told_records P c l m all turns (index + 1) next p grows
    (told_record P c l m r (address_at r.found index)
    (λ b at. p b (still b r all on (there_at r.found index b at))) h)

-- ---- all of them

others_hold : (l : Layout) (m : Memory) (b : ℕ)
    → All (λ a. (b ≢ a) × Contains (record_candidates l m b) a) (others_led_to l m b)
unfolding others_led_to
others_hold l m b k d below =
    let xs = record_candidates l m b in (
      λ same. other b (get_or (other_than b xs) k d) (filter_passes (λ x. not (nat_eq x b)) xs k d below) same,
      All-filter (λ x. not (nat_eq x b)) (Contains xs) xs (All-contains_itself xs) k d below,
    )
  where
    other : (b a : ℕ) → not (nat_eq a b) ≡ true → b ≡ a → ⊥
    other b a e same =
        let is : nat_eq a b ≡ true = ap (nat_eq a) same ∙ same_address a in
        let none : false ≡ true = rw is at e in
        cc

led_to_named : (k : Known) (v : Version) (l : Layout) (m : Memory) (all : Finds)
    → LedTo (IsNamed k v l m all.found) l m all
led_to_named k v l m all b there =
    let any = Any-from_list_any (λ (one : FoundInterpreter). nat_eq one.address b) all.found there in
    let one = get_or all.found any.0 any.1 in
    let same : one.address ≡ b = same_by one.address b
    (ap (λ (x : FoundInterpreter). nat_eq x.address b) any.3 ∙ any.4) in
    All-weaker (λ a. (b ≢ a) × Contains (record_candidates l m b) a) (IsNamed k v l m all.found)
    (λ a h. inr (
      one,
      Contains-get_or all.found any.0 any.1 any.2,
      λ e. h.0 (sym same ∙ e),
      subst (λ n. Contains (record_candidates l m n) a) (sym same) h.1,
    )) (others_led_to l m b) (others_hold l m b)

found_name : (a : ℕ) (r : Finds) (i : ℕ) (d : FoundInterpreter) → i < length r.found
    → HasName (get_or r.found i d).address r → (get_or r.found i d).searched ≡ false
found_name a r i d below (inl has) = mark_at r.found i d below has.1
found_name a r i d below (inr has) =
    absurd (let both : true ≡ false = sym (found_at r.found i d below) ∙ has.0 in cc)

list_marked : (c : ℕ → Bool) (k : Known) (v : Version) (l : Layout) (m : Memory) (xs : List ℕ)
    → AreShown c l m (with_their_records true c l m
    (with_their_records false c l m none_found (named_candidates k v l m)) xs)
    → AreMarked k v l m (with_their_records true c l m
    (with_their_records false c l m none_found (named_candidates k v l m)) xs)
list_marked c k v l m xs shown =
    let named = after_candidates false c l m none_found (named_candidates k v l m) in
    let first = after_records c l m interpreter_limit 0 named in
    let searched = after_candidates true c l m first xs in
    let all = after_records c l m interpreter_limit 0 searched in
    let P = IsNamed k v l m all.found in
    let two = candidates_grow true c l m first xs in
    let three = records_grow c l m interpreter_limit 0 searched in
    let led = led_to_named k v l m all in
    let none : FoundInterpreter = record { address = 0; head = 0; searched = false } in
    let one_told = told_candidates P false c l m none_found (named_candidates k v l m)
    (All-weaker (Contains (named_candidates k v l m)) (λ b. false ≡ false → P b) (λ b h e. inl h)
    (named_candidates k v l m) (All-contains_itself (named_candidates k v l m))) (All-nil (ByName P)) in
    let first_told = told_records P c l m all interpreter_limit 0 named led (grows_on first searched all two three)
    one_told in
    let two_told = told_candidates P true c l m first xs
    (All-weaker (Contains xs) (λ b. true ≡ false → P b) (λ b h e. absurd (cc))
    xs (All-contains_itself xs)) first_told in
    let all_told = told_records P c l m all interpreter_limit 0 searched led (same_grows all) two_told in
    All-from_get_or (IsMarked k v l m all.found) all.found none
    (λ i below.
    let one = get_or all.found i none in
    let headed = is_headed c l m one.address one.head (All-get_or (IsShown c l m) all.found i none below shown.each).headed in
    record {
      found_by_name = All-get_or (ByName P) all.found i none below all_told;
      named = λ is. found_name one.address all i none below (elim is [
        | inl by_head ↦ records_kept c l m one.address interpreter_limit 0 searched
            (candidates_kept true c l m one.address first xs
            (records_kept c l m one.address interpreter_limit 0 named
            (All-contains (IsNamedIn c l m named) (named_candidates k v l m) one.address
            (names_given c l m none_found (named_candidates k v l m)) by_head one.head headed)))
        | inr by_record ↦
            let place = at_from_Contains all.found by_record.0 by_record.1 in
            let at : address_at all.found place.0 ≡ Some by_record.0.address =
            ap (option_map (λ (x : FoundInterpreter). x.address)) (slice_get-get_or all.found place.0 none place.1)
            ∙ ap (λ (x : FoundInterpreter). Some x.address) (place.2 none) in
            All-contains (IsOtherNamed c l m by_record.0.address all) (record_candidates l m by_record.0.address)
            one.address (others_named c l m searched place.0 by_record.0.address (omega (arith, place.1, shown.few)) at)
            by_record.3 by_record.2 one.head headed
      ]);
    })

pub interpreters_marked : (c : ℕ → Bool) (k : Known) (v : Version) (l : Layout) (m : Memory)
    → AreMarked k v l m (interpreters_at c k v l m)
interpreters_marked c k v l m =
    let part = found_part c k v l m in
    subst (AreMarked k v l m) (sym part.finds)
    (list_marked c k v l m part.looked (subst (AreShown c l m) part.finds (interpreters_shown c k v l m)))

pub marked_right : (c : ℕ → Bool) (k : Known) (v : Version) (l : Layout) (m : Memory)
    (r : Result InterpreterSearch StackError) → IsOrNoMemory (told_at c k v l m) (told_result r)
    → IfOk r (λ search. AreMarked k v l m (finds_of search.finds))
marked_right c k v l m (Ok search) e =
    subst (AreMarked k v l m) (sym (ap (λ (t : Told). t.finds) e)) (interpreters_marked c k v l m)
marked_right c k v l m (Err e) h = tt
