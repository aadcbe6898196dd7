-- What stands at an address of those that were found, and whether it was found by search alone.
use Rattle.std.proofs.Common.{◌≡◌, ℕ, zero, suc, ◌<◌, ◌≤◌, Bool, true, false, not, ◌||◌, ◌&&◌, List, [], ◌∷◌, ◌++◌, length}
use Rattle.std.proofs.Common.{map, refl, sym, ◌∙◌, ap, arith, get_or, set, take, drop, ◌+◌}
use Rattle.std.specs.Prelude.{Some, slice_get, nat_eq, sum_by}
use Rattle.std.proofs.lemmas.List.Sums.{sum_by-cons}
use Rattle.process_memory.specs.Memory.{Memory}
use Rattle.py_fields.specs.declared.layout.Layout.{Layout}
use Rattle.std.specs.List.{list_any}
use Rattle.std.proofs.lemmas.Bool.Decides.{nat_tests}
use Rattle.std.proofs.lemmas.List.{map-append, take_more, take_more_set, take_all, drop_more, drop-set-lt, length-set}
use Rattle.std.proofs.lemmas.List.Folds.{list_any-append, list_any_at}
use Rattle.py_fronts.specs.declared.interpreters.FoundInterpreter.{FoundInterpreter}
use Rattle.py_fronts.specs.Interpreters.{address_at, is_found, named_if, record_reads, records_reads}

abbrev pub addresses : List FoundInterpreter → List ℕ
addresses found = map (λ (one : FoundInterpreter). one.address) found

pub same_address : (a : ℕ) → nat_eq a a ≡ true
same_address a = grind (arith, nat_tests)

pub same_by : (a b : ℕ) → nat_eq a b ≡ true → a ≡ b
same_by a b e = grind (arith, nat_tests)

-- ---- by their addresses

pub found_by_address : (xs : List FoundInterpreter) (a : ℕ) → is_found xs a ≡ list_any (λ x. nat_eq x a) (addresses xs)
found_by_address [] a = refl
found_by_address (one ∷ rest) a = ap (λ b. nat_eq one.address a || b) (found_by_address rest a)

pub at_by_address : (xs : List FoundInterpreter) (i : ℕ) → address_at xs i ≡ slice_get (addresses xs) i
at_by_address [] i = refl
at_by_address (one ∷ rest) zero = refl
at_by_address (one ∷ rest) (suc i) = at_by_address rest i

pub addresses_kept : (b : ℕ) (xs : List FoundInterpreter) → addresses (map (named_if b) xs) ≡ addresses xs
addresses_kept b [] = refl
addresses_kept b (one ∷ rest) = ap (λ xs. one.address ∷ xs) (addresses_kept b rest)

pub found_kept : (b : ℕ) (xs : List FoundInterpreter) (a : ℕ) → is_found (map (named_if b) xs) a ≡ is_found xs a
found_kept b xs a = found_by_address (map (named_if b) xs) a ∙ ap (list_any (λ x. nat_eq x a)) (addresses_kept b xs)
    ∙ sym (found_by_address xs a)

pub found_at : (xs : List FoundInterpreter) (i : ℕ) (d : FoundInterpreter) → i < length xs
    → is_found xs (get_or xs i d).address ≡ true
found_at xs i d below = list_any_at (λ (h : FoundInterpreter). nat_eq h.address (get_or xs i d).address) xs i d below
    (same_address (get_or xs i d).address)

pub there_below : (xs : List FoundInterpreter) (i a : ℕ) → address_at xs i ≡ Some a → i < length xs
there_below [] i a e = absurd (cc)
there_below (x ∷ xs) zero a e = omega arith
there_below (x ∷ xs) (suc i) a e = omega (arith, there_below xs i a e)

pub there_is : (xs : List FoundInterpreter) (i a : ℕ) (d : FoundInterpreter) → address_at xs i ≡ Some a
    → (get_or xs i d).address ≡ a
there_is [] i a d e = absurd (cc)
there_is (x ∷ xs) zero a d e = cc
there_is (x ∷ xs) (suc i) a d e = there_is xs i a d e

pub by_addresses : (l : Layout) (m : Memory) (xs : List FoundInterpreter)
    → records_reads l m xs ≡ sum_by (record_reads l m) (addresses xs)
by_addresses l m [] = refl
by_addresses l m (x ∷ xs) =
    omega (
      arith,
      sum_by-cons (λ (one : FoundInterpreter). record_reads l m one.address) x xs,
      sum_by-cons (record_reads l m) x.address (addresses xs),
      by_addresses l m xs,
    )

-- ---- by search alone

abbrev pub is_searched : List FoundInterpreter → ℕ → Bool
is_searched found a = list_any (λ (one : FoundInterpreter). nat_eq one.address a && one.searched) found

neither : (a b : Bool) → (a || b) ≡ false → (a ≡ false) × (b ≡ false)
neither false b e = (refl, e)
neither true b e = absurd (cc)

still_none : (p q r : Bool) → (p && q) ≡ false → (p && (q && r)) ≡ false
still_none false q r e = refl
still_none true false r e = refl
still_none true true r e = absurd (cc)

not_there : (p q : Bool) → (p && (q && not p)) ≡ false
not_there false q = refl
not_there true false = refl
not_there true true = refl

none_either : (a b : Bool) → a ≡ false → b ≡ false → (a || b) ≡ false
none_either a b p q = rw (p, q) refl

-- a name takes the mark of the search from no other address, and from its own
pub less_searched : (b a : ℕ) (xs : List FoundInterpreter) → is_searched xs a ≡ false
    → is_searched (map (named_if b) xs) a ≡ false
less_searched b a [] e = refl
less_searched b a (one ∷ rest) e =
    let p = neither (nat_eq one.address a && one.searched) (is_searched rest a) e in
    none_either (nat_eq one.address a && (one.searched && not (nat_eq one.address b)))
    (is_searched (map (named_if b) rest) a)
    (still_none (nat_eq one.address a) one.searched (not (nat_eq one.address b)) p.0) (less_searched b a rest p.1)

pub not_searched : (a : ℕ) (xs : List FoundInterpreter) → is_searched (map (named_if a) xs) a ≡ false
not_searched a [] = refl
not_searched a (one ∷ rest) =
    none_either (nat_eq one.address a && (one.searched && not (nat_eq one.address a)))
    (is_searched (map (named_if a) rest) a) (not_there (nat_eq one.address a) one.searched) (not_searched a rest)

pub none_searched : (a : ℕ) (xs : List FoundInterpreter) → is_found xs a ≡ false → is_searched xs a ≡ false
none_searched a [] e = refl
none_searched a (one ∷ rest) e =
    let p = neither (nat_eq one.address a) (is_found rest a) e in
    none_either (nat_eq one.address a && one.searched) (is_searched rest a) (ap (λ b. b && one.searched) p.0)
    (none_searched a rest p.1)

pub found_more : (xs : List FoundInterpreter) (h : FoundInterpreter) (a : ℕ)
    → is_found (xs ++ h ∷ []) a ≡ (is_found xs a || (nat_eq h.address a || false))
found_more xs h a = list_any-append (λ (one : FoundInterpreter). nat_eq one.address a) xs (h ∷ [])

pub searched_more : (xs : List FoundInterpreter) (h : FoundInterpreter) (a : ℕ)
    → is_searched (xs ++ h ∷ []) a ≡ (is_searched xs a || ((nat_eq h.address a && h.searched) || false))
searched_more xs h a =
    list_any-append (λ (one : FoundInterpreter). nat_eq one.address a && one.searched) xs (h ∷ [])

mark_of : (xs : List FoundInterpreter) (i : ℕ) (d : FoundInterpreter) (b : Bool) → i < length xs
    → (get_or xs i d).searched ≡ b → is_searched xs (get_or xs i d).address ≡ false → b ≡ false
mark_of xs i d false below is none = refl
mark_of xs i d true below is none =
    let there : is_searched xs (get_or xs i d).address ≡ true =
    list_any_at (λ (h : FoundInterpreter). nat_eq h.address (get_or xs i d).address && h.searched) xs i d below
    (rw (same_address (get_or xs i d).address) is) in
    absurd (let both : true ≡ false = sym there ∙ none in cc)

-- so one that stands there was not found by search alone
pub mark_at : (xs : List FoundInterpreter) (i : ℕ) (d : FoundInterpreter) → i < length xs
    → is_searched xs (get_or xs i d).address ≡ false → (get_or xs i d).searched ≡ false
mark_at xs i d below none = mark_of xs i d (get_or xs i d).searched below refl none

-- ---- one after another

-- those before an index have their mark by the name, and those from it on are as they were
pub record Renamed (b : ℕ) (old new : List FoundInterpreter) (i : ℕ) : Type 0 where
  pub same : length new ≡ length old
  pub before : take i new ≡ map (named_if b) (take i old)
  pub after : drop i new ≡ drop i old

pub renamed_init : (b : ℕ) (old : List FoundInterpreter) → Renamed b old old 0
renamed_init b old = record { same = refl; before = refl; after = refl }

heads : (x y : FoundInterpreter) (xs ys : List FoundInterpreter) → x ∷ xs ≡ y ∷ ys → x ≡ y
heads x y xs ys e = cc

tails : (x y : FoundInterpreter) (xs ys : List FoundInterpreter) → x ∷ xs ≡ y ∷ ys → xs ≡ ys
tails x y xs ys e = cc

pub renamed_more : (b : ℕ) (old new : List FoundInterpreter) (i : ℕ) (x d : FoundInterpreter) → i < length new
    → Renamed b old new i → x ≡ named_if b (get_or new i d) → Renamed b old (set new i x) (i + 1)
renamed_more b old new i x d lt h is =
    let lt_old : i < length old = omega (arith, h.same, lt) in
    let both : get_or new i d ∷ drop (i + 1) new ≡ get_or old i d ∷ drop (i + 1) old =
    sym (drop_more new i d lt) ∙ h.after ∙ drop_more old i d lt_old in
    let here : get_or new i d ≡ get_or old i d = heads _ _ _ _ both in
    record {
      same = length-set new i x ∙ h.same;
      before = take_more_set new i x lt ∙ ap (λ xs. xs ++ x ∷ []) h.before
          ∙ ap (λ y. map (named_if b) (take i old) ++ y ∷ []) (is ∙ ap (named_if b) here)
          ∙ sym (ap (map (named_if b)) (take_more old i d lt_old)
          ∙ map-append (named_if b) (take i old) (get_or old i d ∷ []));
      after = drop-set-lt (i + 1) new i x (omega arith) ∙ tails _ _ _ _ both;
    }

pub renamed_all : (b : ℕ) (old new : List FoundInterpreter) (i : ℕ) → length new ≤ i → Renamed b old new i
    → new ≡ map (named_if b) old
renamed_all b old new i le h =
    sym (take_all i new le) ∙ h.before ∙ ap (map (named_if b)) (take_all i old (omega (arith, h.same, le)))

pub set_mark : (b : ℕ) (one : FoundInterpreter) (mark : Bool) → mark ≡ (one.searched && not (nat_eq one.address b))
    → ◌≡◌ {A = FoundInterpreter} (record { address = one.address; head = one.head; searched = mark }) (named_if b one)
set_mark b one mark e = ap (λ t. record { address = one.address; head = one.head; searched = t }) e

pub mark_kept : (searched named mark : Bool) → searched ≡ true → mark ≡ not named → mark ≡ (searched && not named)
mark_kept true named mark e is = is
mark_kept false named mark e is = absurd (cc)

pub mark_none : (searched named mark : Bool) → searched ≡ false → mark ≡ searched → mark ≡ (searched && not named)
mark_none false named mark e is = is
mark_none true named mark e is = absurd (cc)
