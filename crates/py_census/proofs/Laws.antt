-- What was counted is the census, and there is one alone.
use Rattle.std.proofs.Common.{◌≡◌, ℕ, ◌<◌, ◌^◌, true, false, List, [], ◌∷◌, length, map}
use Rattle.std.proofs.Common.{refl, sym, ◌∙◌}
use Rattle.std.proofs.Common.{ap, arith, subst, nat_eq, Option, Result}
use Rattle.std.specs.Prelude.{None, Some, Ok, Err, IfOk}
use Rattle.std.specs.BTreeMap.{BTreeMap, IsOrdered, get}
use Rattle.std.specs.List.{All, AllByRecursion, AllPairs, Contains}
use Rattle.std.specs.List.Sorted.{IsPermutation, IsStrictlySortedBy}
use Rattle.std.specs.Map.{keys_of, values_of}
use Rattle.std.specs.Ordering.{nat_cmp}
use Rattle.std.specs.declared.cmp.Ordering.TheVariants.{Less}
use Rattle.std.proofs.lemmas.Cmp.{nat_cmp_total}
use Rattle.std.proofs.lemmas.List.Elements.{All-cons, All-contains, All-head, All-map, All-nil}
use Rattle.std.proofs.lemmas.List.Elements.{All-tail, All-weaker}
use Rattle.std.proofs.lemmas.List.Kept.{AllPairs-cons}
use Rattle.std.proofs.lemmas.List.Sorted.{All-permutation, Contains-permutation}
use Rattle.std.proofs.lemmas.Map.Keys.{sorted_head, sorted_tail}
use Rattle.std.proofs.lemmas.Map.Lookups.{exact_unsigned}
use Rattle.std.proofs.lemmas.Map.Views.{All-found, btree_map_get_iff}
use Rattle.process_memory.specs.Memory.{Memory}
use Rattle.py_fields.specs.declared.layout.Layout.{Layout}
use Rattle.py_census.specs.declared.census.Census.{Census}
use Rattle.py_census.specs.declared.census.CountedClass.{CountedClass}
use Rattle.py_census.specs.declared.places.SizePlaces.{SizePlaces}
use Rattle.py_census.specs.declared.sizes.ClassSize.{ClassSize}
use Rattle.py_census.specs.declared.tallies.Tally.{Tally}
use Rattle.py_census.specs.Large.{capped}
use Rattle.py_census.specs.Censuses.{Counted, IsCensus, IsCounted, Precedes, counted_by, counted_class}
use Rattle.py_census.specs.Censuses.{counted_of, is_class, own}
use Rattle.py_census.specs.Blocks.{more_at}
use Rattle.py_census.specs.Sizes.{class_at, class_size_at, size_at}
use Rattle.py_census.specs.Tallies.{AreTallied, tally_by, tally_of}
use Rattle.py_census.proofs.Members.{from_mapped, mapped, passes, same_list, some_passes}
use Rattle.py_census.proofs.Orders.{precedes_once}

same : (x y : ℕ) → nat_eq x y ≡ true → x ≡ y
same x y e = grind arith

itself : (x : ℕ) → nat_eq x x ≡ true
itself x = grind arith

no_true : false ≡ true → ⊥
no_true e = cc

no_tally : (v : Tally) → None ≡ Some v → ⊥
no_tally v e = cc

the_same : (v w : Tally) → Some v ≡ Some w → v ≡ w
the_same v w e = cc

-- an object of a class, and the class of an object
is_of : (class : ℕ) (o : Option ℕ) → is_class class o ≡ true → o ≡ Some class
is_of class None e = absurd (no_true e)
is_of class (Some c) e = ap Some (same c class e)

of_it : (class : ℕ) (o : Option ℕ) → o ≡ Some class → is_class class o ≡ true
of_it class o e = ap (is_class class) e ∙ itself class

less : (m n : ℕ) → nat_cmp m n ≡ Less → m < n
less m n e = grind arith

capped_below : (n : ℕ) → capped n < 2 ^ 64
capped_below n = grind arith

-- ---- of one list there is one census

module _ {klass : ℕ → Option ℕ} {size more : (class object : ℕ) → Option ℕ} {objects : List ℕ} where
  -- a class that one census tells is told by the other
  has : (a b : Counted) → IsCensus klass size more objects a → IsCensus klass size more objects b
      → (c : CountedClass) → Contains a.classes c → Contains b.classes c
  has a b p q c h =
      let mine : IsCounted klass size more objects c = All-contains
      (IsCounted klass size more objects) a.classes c p.none_else h in
      let some = passes (λ object. is_class c.class (klass object)) objects mine.some in
      let told = from_mapped (λ (d : CountedClass). d.class) b.classes c.class
      (q.all some.0 c.class some.1 (is_of c.class (klass some.0) some.2)) in
      let its : IsCounted klass size more objects told.0 =
      All-contains (IsCounted klass size more objects) b.classes told.0 q.none_else told.1 in
      subst (Contains b.classes) (its.is ∙ ap (counted_class klass size more objects) told.2 ∙ sym mine.is) told.1

  pub one_census : (a b : Counted) → IsCensus klass size more objects a → IsCensus klass size more objects b → a ≡ b
  one_census a b p q =
      let classes = same_list Precedes precedes_once a.classes b.classes p.order q.order (has a b p q) (has b a q p) in
      ap (λ cs. record { classes = cs; unreadable = a.unreadable }) classes
      ∙ ap (λ n. record { classes = b.classes; unreadable = n }) (p.unreadable ∙ sym q.unreadable)

  pub is_only : {E : Type 0} (r : Result Census E) → IfOk r (λ census. IsCensus klass size more objects
      (counted_of census))
      → (other : Counted) → IsCensus klass size more objects other → IfOk r (λ census. counted_of census ≡ other)
  is_only (Ok census) h other is = one_census (counted_of census) other h is
  is_only (Err e) h other is = tt

-- ---- what was counted is one

tally_is : (sized : Option ClassSize) (size more : ℕ → Option ℕ) (class : ℕ) (xs : List ℕ) (v : Tally)
    → tally_by sized size more class xs ≡ Some v
    → (0 < length xs) × (v.counted ≡ counted_by size more class xs)
tally_is sized size more class [] v e = absurd (no_tally v e)
tally_is sized size more class (x ∷ xs) v e =
    let t : Tally = record { sized = sized; counted = counted_by size more class (x ∷ xs) } in
    (omega arith, ap (λ (w : Tally). w.counted) (sym (the_same t v e)))

some_tally : (sized : Option ClassSize) (size more : ℕ → Option ℕ) (class : ℕ) (xs : List ℕ) → 0 < length xs
    → (v : Tally) × (tally_by sized size more class xs ≡ Some v)
some_tally sized size more class [] h = absurd (omega (arith, h))
some_tally sized size more class (x ∷ xs) h = (
  record {
    sized = sized;
    counted = counted_by size more class
        (x ∷ xs);
  },
  refl,
)

abbrev Entry : Type 0
Entry = ℕ × Tally

abbrev Rises : CountedClass → CountedClass → Type 0
Rises x y = x.class < y.class

abbrev classes_in : List Entry → List CountedClass
classes_in es = map (λ (t : Tally). t.counted) (values_of es)

abbrev IsOwn : Entry → Type 0
IsOwn e = e.1.counted.class ≡ e.0

above : (x : CountedClass) (k : ℕ) → x.class ≡ k → (es : List Entry) → AllByRecursion (λ y. nat_cmp k y ≡ Less)
    (keys_of es)
    → All IsOwn es → All (Rises x) (classes_in es)
above x k is [] h own = All-nil (Rises x)
above x k is (e ∷ es) h own =
    let its : e.1.counted.class ≡ e.0 = All-head IsOwn e es own in
    All-cons (Rises x) e.1.counted (classes_in es) (omega (arith, is, its, less k e.0 h.0))
    (above x k is es h.1 (All-tail IsOwn e es own))

rising : (es : List Entry) → IsStrictlySortedBy nat_cmp (keys_of es) → All IsOwn es → AllPairs Rises (classes_in es)
rising [] h own = λ i j d le lt. absurd (omega (arith, lt))
rising (e ∷ es) h own = AllPairs-cons Rises e.1.counted (classes_in es)
    (above e.1.counted e.0 (All-head IsOwn e es own) es (sorted_head nat_cmp e.0 (keys_of es) h)
    (All-tail IsOwn e es own))
    (rising es (sorted_tail nat_cmp e.0 (keys_of es) h) (All-tail IsOwn e es own))

module _ (l : Layout) (p : SizePlaces) (m : Memory) (objects : List ℕ) where
  abbrev Is : CountedClass → Type 0
  Is c = IsCounted (class_at l m) (size_at l p m) (more_at l p m) objects c

  abbrev IsSo : Entry → Type 0
  IsSo e = Is e.1.counted × IsOwn e

  entry_is : (e : Entry) → tally_of l p m objects e.0 ≡ Some e.1 → IsSo e
  entry_is e h =
      let r = tally_is (class_size_at l p m e.0) (size_at l p m e.0) (more_at l p m e.0) e.0 (own
      (class_at l m) objects e.0) e.1 h in
      let is : e.1.counted.class ≡ e.0 = ap (λ (c : CountedClass). c.class) r.1 in (
        record {
          some = subst (λ k. 0 < length (own (class_at l m) objects k)) (sym is) r.0;
          is = r.1 ∙ ap (counted_class (class_at l m) (size_at l p m) (more_at l p m) objects) (sym is);
        },
        is,
      )

  module _ {t : BTreeMap ℕ Tally} {u : ℕ} (a : AreTallied l p m objects t u) (o : IsOrdered nat_cmp t) where
    each : All IsSo t.entries
    each = All-weaker (λ e. get nat_cmp t e.0 ≡ Some e.1) IsSo (λ e h. entry_is e (sym (a.classes e.0)
        ∙ h)) t.entries (All-found nat_cmp_total t o)

    told : All Is (classes_in t.entries)
    told = All-map Is (λ (v : Tally). v.counted) (values_of t.entries)
        (All-map (λ (v : Tally). Is v.counted) (λ (e : Entry). e.1) t.entries
        (All-weaker IsSo (λ e. Is e.1.counted) (λ e h. h.0) t.entries each))

    pub rise : (cs : List CountedClass) → cs ≡ classes_in t.entries → AllPairs (λ x y. x.class < y.class) cs
    rise cs e = subst (AllPairs Rises) (sym e) (rising t.entries o (All-weaker IsSo IsOwn (λ e h. h.1) t.entries each))

    pub small : (cs : List CountedClass) → cs ≡ classes_in t.entries → All (λ c. c.bytes < 2 ^ 64) cs
    small cs e = subst (All (λ c. c.bytes < 2 ^ 64)) (sym e)
        (All-weaker Is (λ c. c.bytes < 2 ^ 64) (λ c h. bytes_below c h) (classes_in t.entries) told)
      where
        bytes_below : (c : CountedClass) → Is c → c.bytes < 2 ^ 64
        bytes_below c h = subst (λ n. n < 2 ^ 64) (sym (ap (λ (d : CountedClass). d.bytes) h.is)) (capped_below _)

    found : (object class : ℕ) → Contains objects object → class_at l m object ≡ Some class
        → (c : CountedClass) × Contains (classes_in t.entries) c × (c.class ≡ class)
    found object class h e =
        let n = some_passes (λ x. is_class class (class_at l m x)) objects object h (of_it class
        (class_at l m object) e) in
        let v = some_tally (class_size_at l p m class) (size_at l p m class) (more_at l p m class) class (own
        (class_at l m) objects class) n in
        let held = (btree_map_get_iff nat_cmp_total exact_unsigned t o class v.0).0 (a.classes class ∙ v.1) in (
          v.0.counted,
          mapped (λ (w : Tally). w.counted) (values_of t.entries) v.0 (mapped (λ (x : Entry). x.1) t.entries
              (class, v.0) held),
          (entry_is (class, v.0) v.1).1,
        )

    pub census : (cs ys : List CountedClass) → cs ≡ classes_in t.entries → IsPermutation cs ys → AllPairs Precedes ys
        → IsCensus (class_at l m) (size_at l p m) (more_at l p m) objects (record { classes = ys; unreadable = u })
    census cs ys e moved order = record {
      all = λ object class h k.
          let f = found object class h k in
          subst (Contains (map (λ c. c.class) ys)) f.2
          (mapped (λ (c : CountedClass). c.class) ys f.0 (Contains-permutation cs ys f.0 moved (subst
          (λ xs. Contains xs f.0) (sym e) f.1)));
      none_else = All-permutation Is cs ys moved (subst (All Is) (sym e) told);
      order = order;
      unreadable = a.unreadable_is;
    }
