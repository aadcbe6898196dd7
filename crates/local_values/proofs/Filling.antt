-- Values that are read one after another, until no node is left.
use Rattle.std.proofs.Common.{◌≡◌, ◌≢◌, ℕ, zero, suc, ◌+◌, ◌-◌, ◌<◌, ◌≤◌, Bool, true, false, ◌||◌, nat_eq, if◌then◌else◌}
use Rattle.std.proofs.Common.{◌*◌, List, [], ◌∷◌, ◌++◌, get_or, take, drop, length, ap, sym, ◌∙◌, refl, arith, eqb-true, drop-cons}
use Rattle.std.proofs.Common.{append_assoc, append-nil, add-one, length-drop}
use Rattle.std.specs.Prelude.{Option, Some, cond, option_map}
use Rattle.std.specs.BTreeMap.{is_at}
use Rattle.std.specs.Ordering.{nat_cmp}
use Rattle.std.specs.List.{list_any}
use Rattle.std.proofs.lemmas.List.{length-take-le, nil_from_length, take_all, take_more}
use Rattle.process_memory.specs.Memory.{Memory}
use Rattle.process_memory.specs.Seen.{Reading, Seen}
use Rattle.process_memory.proofs.Reading.{reading_gives, reading_none, reading_then}
use Rattle.py_reprs.specs.declared.repr.Repr.{Repr}
use Rattle.py_reprs.specs.Trees.{Tree, tree_of}
use Rattle.local_values.specs.Nodes.{nodes_of}
use Rattle.local_values.specs.Values.{node_limit, value_among, within}
use Rattle.local_values.proofs.Once.{among_more, same_key}

pub or_true : (b : Bool) → (b || true) ≡ true
or_true true = refl
or_true false = refl

pub or_false : (b : Bool) → (b || false) ≡ b
or_false true = refl
or_false false = refl

-- the value at an address, where one more was kept
pub kept_at : (k a : ℕ) (value : Repr) (had has : Option Repr) → has ≡ cond (is_at (nat_cmp k) a) (Some value) had
    → option_map tree_of has ≡ (if nat_eq a k then Some (tree_of value) else option_map tree_of had)
kept_at k a value had has is =
    ap (option_map tree_of) (is ∙ ap (λ b. cond b (Some value) had) (same_key k a)) ∙ by_test (nat_eq a k)
  where
    by_test : (b : Bool) → option_map tree_of (cond b (Some value) had)
        ≡ (if b then Some (tree_of value) else option_map tree_of had)
    by_test true = refl
    by_test false = refl

-- of one address behind others the value is that of memory
among_one : (value : ℕ → Tree) (xs : List ℕ) (x a : ℕ) (before held : Option Tree) → held ≡ value_among value xs before a
    → (if nat_eq a x then Some (value x) else held) ≡ value_among value (xs ++ x ∷ []) before a
among_one value xs x a before held is = by_test (nat_eq a x) refl
  where
    by_test : (b : Bool) → nat_eq a x ≡ b
        → (if b then Some (value x) else held) ≡ value_among value (xs ++ x ∷ []) before a
    by_test true e =
        ap (λ y. Some (value y)) (sym (eqb-true a x e))
        ∙ sym (ap (λ b. if b then Some (value a) else before) (among_more xs x a ∙ ap (λ b. list_any (nat_eq a) xs || b) e
        ∙ or_true (list_any (nat_eq a) xs)))
    by_test false e =
        is ∙ sym (ap (λ b. if b then Some (value a) else before) (among_more xs x a
        ∙ ap (λ b. list_any (nat_eq a) xs || b) e ∙ or_false (list_any (nat_eq a) xs)))

-- the first of some addresses were read, where so many nodes are left; the values are held by these
pub record Filled (value : ℕ → Tree) (all : List ℕ) (number left : ℕ) (before held : ℕ → Option Tree) : Type 0 where
  pub read : within value node_limit all ≡ take number all ++ within value left (drop number all)
  pub holds : (a : ℕ) → held a ≡ value_among value (take number all) (before a) a

within_more : (value : ℕ → Tree) (left a : ℕ) (rest : List ℕ) → left ≢ 0
    → within value left (a ∷ rest) ≡ a ∷ within value (left - nodes_of (value a)) rest
unfolding within
within_more value zero a rest some = absurd (some refl)
within_more value (suc left) a rest some = refl

within_none : (value : ℕ → Tree) (xs : List ℕ) → within value 0 xs ≡ []
unfolding within
within_none value [] = refl
within_none value (a ∷ rest) = refl

within_end : (value : ℕ → Tree) (left : ℕ) → within value left [] ≡ []
unfolding within
within_end value left = refl

drop_more : (xs : List ℕ) (n : ℕ) → n < length xs → drop n xs ≡ get_or xs n 0 ∷ drop (n + 1) xs
drop_more xs n less = drop-cons xs n 0 less ∙ ap (λ k. get_or xs n 0 ∷ drop k xs) (sym (add-one n))

drop_end : (xs : List ℕ) (n : ℕ) → length xs ≤ n → drop n xs ≡ []
drop_end xs n le = nil_from_length (drop n xs) (omega (arith, length-drop n xs))

pub filled_none : (value : ℕ → Tree) (all : List ℕ) (held : ℕ → Option Tree) → Filled value all 0 node_limit held held
filled_none value all held = record { read = refl; holds = λ a. refl }

module _ {value : ℕ → Tree} {all : List ℕ} {number left : ℕ} {before held : ℕ → Option Tree} where
  -- one more was read
  pub filled_more : {next : ℕ} {holds : ℕ → Option Tree} (tree : Tree) → Filled value all number left before held → left ≢ 0
      → number < length all → tree ≡ value (get_or all number 0) → next ≡ left - nodes_of tree
      → ((a : ℕ) → holds a ≡ (if nat_eq a (get_or all number 0) then Some tree else held a))
      → Filled value all (number + 1) next before holds
  filled_more {next = next} {holds = holds} tree t some less is rest same = record {
    read =
        t.read ∙ ap (λ xs. take number all ++ within value left xs) (drop_more all number less)
        ∙ ap (λ xs. take number all ++ xs) (within_more value left (get_or all number 0) (drop (number + 1) all) some)
        ∙ sym (append_assoc (take number all) (get_or all number 0 ∷ []) (within value (left - nodes_of (value (get_or all number 0))) (drop (number + 1) all)))
        ∙ ap (λ xs. xs ++ within value (left - nodes_of (value (get_or all number 0))) (drop (number + 1) all)) (sym (take_more all number 0 less))
        ∙ ap (λ n. take (number + 1) all ++ within value n (drop (number + 1) all)) (ap (λ y. left - nodes_of y) (sym is) ∙ sym rest);
    holds = λ a. same a ∙ ap (λ y. if nat_eq a (get_or all number 0) then Some y else held a) is
        ∙ among_one value (take number all) (get_or all number 0) a (before a) (held a) (t.holds a)
        ∙ ap (λ xs. value_among value xs (before a) a) (sym (take_more all number 0 less));
  }

  -- what was read is all that is within the limit, where no node is left, or no address
  pub filled_full : Filled value all number left before held → left ≡ 0 → within value node_limit all ≡ take number all
  filled_full t none =
      t.read ∙ ap (λ n. take number all ++ within value n (drop number all)) none
      ∙ ap (λ xs. take number all ++ xs) (within_none value (drop number all)) ∙ append-nil (take number all)

  pub filled_end : Filled value all number left before held → length all ≤ number → within value node_limit all ≡ take number all
  filled_end t full =
      t.read ∙ ap (λ xs. take number all ++ within value left xs) (drop_end all number full)
      ∙ ap (λ xs. take number all ++ xs) (within_end value left) ∙ append-nil (take number all)

pub more_cost : (cost number : ℕ) → cost * number + cost ≡ cost * (number + 1)
more_cost cost number = grind arith

pub le_cost : (cost number count : ℕ) → number ≤ count → cost * number ≤ count * cost
le_cost cost number count le = grind arith

-- the same of what is read in a process's memory, with its reads
pub record Filling (value : Memory → ℕ → Tree) (cost : ℕ) (s0 s1 : Seen) (all : List ℕ) (number left : ℕ)
    (before held : ℕ → Option Tree) : Type 0 where
  pub within : number ≤ length all
  pub spent : ℕ
  pub few : spent ≡ cost * number
  pub reading : Reading spent s0 s1 (λ m. Filled (value m) all number left before held)

pub filling_none : (value : Memory → ℕ → Tree) (cost : ℕ) (s : Seen) (all : List ℕ) (held : ℕ → Option Tree)
    → Filling value cost s s all 0 node_limit held held
filling_none value cost s all held = record {
  within = omega arith;
  spent = 0;
  few = grind arith;
  reading = reading_none 0 s _ (λ m. filled_none (value m) all held);
}

module _ {value : Memory → ℕ → Tree} {cost : ℕ} {s0 s1 : Seen} {all : List ℕ} {number left : ℕ}
    {before held : ℕ → Option Tree} where
  pub filling_more : {s2 : Seen} {next : ℕ} {holds : ℕ → Option Tree} (tree : Tree)
      → Filling value cost s0 s1 all number left before held → left ≢ 0 → number < length all
      → Reading cost s1 s2 (λ m. tree ≡ value m (get_or all number 0)) → next ≡ left - nodes_of tree
      → ((a : ℕ) → holds a ≡ (if nat_eq a (get_or all number 0) then Some tree else held a))
      → Filling value cost s0 s2 all (number + 1) next before holds
  filling_more tree t some less read rest same = record {
    within = omega (arith, less);
    spent = t.spent + cost;
    few = ap (λ n. n + cost) t.few ∙ more_cost cost number;
    reading = reading_then _ t.reading read (λ m f is. filled_more tree f some less is rest same);
  }

  -- what was read is all, where no node is left, or no address
  pub filling_full : (P : Memory → Type 0) → Filling value cost s0 s1 all number left before held → left ≡ 0
      → ((m : Memory) → ((a : ℕ) → held a ≡ value_among (value m) (within (value m) node_limit all) (before a) a)
      → length (within (value m) node_limit all) ≡ number → P m) → Reading (length all * cost) s0 s1 P
  filling_full P t none gives =
      reading_gives _ P t.reading (rw t.few (le_cost cost number (length all) t.within)) (λ m f.
      let is = filled_full f none in gives m
      (λ a. f.holds a ∙ ap (λ xs. value_among (value m) xs (before a) a) (sym is))
      (ap length is ∙ take_length all number t.within))
    where
      take_length : (xs : List ℕ) (n : ℕ) → n ≤ length xs → length (take n xs) ≡ n
      take_length xs n le = length-take-le n xs le

  pub filling_end : (P : Memory → Type 0) → Filling value cost s0 s1 all number left before held → length all ≤ number
      → ((m : Memory) → ((a : ℕ) → held a ≡ value_among (value m) (within (value m) node_limit all) (before a) a)
      → length (within (value m) node_limit all) ≡ length all → P m) → Reading (length all * cost) s0 s1 P
  filling_end P t full gives =
      reading_gives _ P t.reading (rw t.few (le_cost cost number (length all) t.within)) (λ m f.
      let is = filled_end f full in gives m
      (λ a. f.holds a ∙ ap (λ xs. value_among (value m) xs (before a) a) (sym is))
      (ap length is ∙ ap length (take_all number all full)))

  -- a read that failed
  pub filling_lost : {s2 : Seen} {P : Memory → Type 0} → Filling value cost s0 s1 all number left before held
      → number < length all → Reading cost s1 s2 P → Reading (length all * cost) s0 s2 P
  filling_lost {P = P} t less read =
      let whole : cost * (number + 1) ≤ length all * cost = le_cost cost (number + 1) (length all) (omega (arith, less)) in
      let sum = more_cost cost number in
      reading_gives _ _ (reading_then P t.reading read (λ m a b. b)) (omega (arith, whole, sum, t.few)) (λ m h. h)
