-- The names of the types of values, read one after another.
use Rattle.std.proofs.Common.{◌≡◌, ℕ, ◌+◌, ◌<◌, ◌≤◌, ◌*◌, Bool, true, false, ◌||◌, nat_eq, if◌then◌else◌}
use Rattle.std.proofs.Common.{List, [], ◌∷◌, ◌++◌, get_or, take, length, ap, sym, ◌∙◌, refl, arith, eqb-true}
use Rattle.std.specs.Prelude.{Option, Some, None, cond}
use Rattle.std.specs.BTreeMap.{is_at}
use Rattle.std.specs.List.{list_any}
use Rattle.std.specs.Ordering.{nat_cmp}
use Rattle.std.proofs.lemmas.List.{take_all, take_more}
use Rattle.process_memory.specs.Memory.{Memory}
use Rattle.process_memory.specs.Seen.{Reading, Seen}
use Rattle.process_memory.proofs.Reading.{reading_gives, reading_none, reading_then}
use Rattle.py_reprs.specs.declared.repr.Repr.{Repr}
use Rattle.py_reprs.specs.declared.repr.Repr.TheVariants as read
use Rattle.py_reprs.specs.declared.repr.Repr.TheVariants.{rolls-Class}
use Rattle.py_reprs.specs.declared.repr.Repr.TheFolds.{fold-roll-Repr, ind-Repr}
use Rattle.py_reprs.specs.declared.repr.Repr.TheViews.{roll-Repr}
use Rattle.py_reprs.specs.declared.repr.Repr.TheOpen.{Repr-F}
use Rattle.py_reprs.specs.Trees.{Tree, tree_of, tree_step}
use Rattle.py_reprs.proofs.Views.{tree-Class}
use Rattle.local_values.specs.Types.{class_name, known_name, name_among}
use Rattle.local_values.proofs.Filling.{le_cost, more_cost, or_false, or_true}
use Rattle.local_values.proofs.Once.{among_more, same_key}

-- ---- the name of a value that is a class

pub name_of : (v : Repr) (name : Option (List ℕ)) (addr : ℕ) → v ≡ read.Class name addr → name ≡ class_name (tree_of v)
name_of v name addr is = sym (ap (λ x. class_name (tree_of x)) is ∙ ap class_name (tree-Class name addr))

-- a value that is no class has none
abbrev IsUnnamed : Repr → Type 0
IsUnnamed v = ((name : Option (List ℕ)) (addr : ℕ) → v ≡ read.Class name addr → ⊥) → class_name (tree_of v) ≡ None

rolled : (x : Repr-F Repr) → IsUnnamed (roll-Repr x)
rolled (Repr-F.Class name addr) no_class = absurd (no_class name addr (rolls-Class name addr))
rolled x no_class = ap class_name (fold-roll-Repr Tree tree_step x)

pub leaf_name : (v : Repr) → IsUnnamed v
leaf_name = ind-Repr IsUnnamed (λ x y is. rolled x)

-- ---- names by addresses

-- the name for an address, where one more was kept
pub name_kept : (k a : ℕ) (name : Option (List ℕ)) (had has : Option (Option (List ℕ)))
    → has ≡ cond (is_at (nat_cmp k) a) (Some name) had
    → known_name has ≡ (if nat_eq a k then name else known_name had)
name_kept k a name had has is =
    ap known_name (is ∙ ap (λ b. cond b (Some name) had) (same_key k a)) ∙ by_test (nat_eq a k)
  where
    by_test : (b : Bool) → known_name (cond b (Some name) had) ≡ (if b then name else known_name had)
    by_test true = refl
    by_test false = refl

-- of one address behind others the name is that of memory
named_one : (name : ℕ → Option (List ℕ)) (xs : List ℕ) (x a : ℕ) (held : Option (List ℕ)) → held ≡ name_among name xs a
    → (if nat_eq a x then name x else held) ≡ name_among name (xs ++ x ∷ []) a
named_one name xs x a held is = by_test (nat_eq a x) refl
  where
    by_test : (b : Bool) → nat_eq a x ≡ b → (if b then name x else held) ≡ name_among name (xs ++ x ∷ []) a
    by_test true e =
        ap name (sym (eqb-true a x e))
        ∙ sym (ap (λ b. if b then name a else None) (among_more xs x a ∙ ap (λ b. list_any (nat_eq a) xs || b) e
        ∙ or_true (list_any (nat_eq a) xs)))
    by_test false e =
        is ∙ sym (ap (λ b. if b then name a else None) (among_more xs x a
        ∙ ap (λ b. list_any (nat_eq a) xs || b) e ∙ or_false (list_any (nat_eq a) xs)))

-- the names for the first of some addresses, with their reads
pub record Naming (name : Memory → ℕ → Option (List ℕ)) (cost : ℕ) (s0 s1 : Seen) (all : List ℕ) (number : ℕ)
    (held : ℕ → Option (List ℕ)) : Type 0 where
  pub within : number ≤ length all
  pub spent : ℕ
  pub few : spent ≡ cost * number
  pub reading : Reading spent s0 s1 (λ m. (a : ℕ) → held a ≡ name_among (name m) (take number all) a)

pub naming_none : (name : Memory → ℕ → Option (List ℕ)) (cost : ℕ) (s : Seen) (all : List ℕ)
    (held : ℕ → Option (List ℕ)) → ((a : ℕ) → held a ≡ None) → Naming name cost s s all 0 held
naming_none name cost s all held none = record {
  within = omega arith;
  spent = 0;
  few = grind arith;
  reading = reading_none 0 s _ (λ m. none);
}

module _ {name : Memory → ℕ → Option (List ℕ)} {cost : ℕ} {s0 s1 : Seen} {all : List ℕ} {number : ℕ}
    {held : ℕ → Option (List ℕ)} where
  pub naming_more : {s2 : Seen} {one : Option (List ℕ)} {holds : ℕ → Option (List ℕ)}
      → Naming name cost s0 s1 all number held → number < length all
      → Reading cost s1 s2 (λ m. one ≡ name m (get_or all number 0))
      → ((a : ℕ) → holds a ≡ (if nat_eq a (get_or all number 0) then one else held a))
      → Naming name cost s0 s2 all (number + 1) holds
  naming_more t less read same = record {
    within = omega (arith, less);
    spent = t.spent + cost;
    few = ap (λ n. n + cost) t.few ∙ more_cost cost number;
    reading = reading_then _ t.reading read (λ m f is a.
        same a ∙ ap (λ y. if nat_eq a (get_or all number 0) then y else held a) is
        ∙ named_one (name m) (take number all) (get_or all number 0) a (held a) (f a)
        ∙ ap (λ xs. name_among (name m) xs a) (sym (take_more all number 0 less)));
  }

  -- those for all
  pub naming_end : Naming name cost s0 s1 all number held → length all ≤ number
      → Reading (length all * cost) s0 s1 (λ m. (a : ℕ) → held a ≡ name_among (name m) all a)
  naming_end t full =
      reading_gives _ _ t.reading (rw t.few (le_cost cost number (length all) t.within)) (λ m f a.
      f a ∙ ap (λ xs. name_among (name m) xs a) (take_all number all full))

  -- a read that failed
  pub naming_lost : {s2 : Seen} {P : Memory → Type 0} → Naming name cost s0 s1 all number held → number < length all
      → Reading cost s1 s2 P → Reading (length all * cost) s0 s2 P
  naming_lost {P = P} t less read =
      let whole : cost * (number + 1) ≤ length all * cost =
      le_cost cost (number + 1) (length all) (omega (arith, less)) in
      let sum = more_cost cost number in
      reading_gives _ _ (reading_then P t.reading read (λ m a b. b)) (omega (arith, whole, sum, t.few)) (λ m h. h)
