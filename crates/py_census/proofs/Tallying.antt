-- What is kept of each class, with one more object.
use Rattle.std.proofs.Common.{◌≡◌, ℕ, ◌+◌, Bool, true, false, cond, Option, List, [], ◌∷◌, ◌++◌}
use Rattle.std.proofs.Common.{length, refl, sym}
use Rattle.std.proofs.Common.{◌∙◌, ap, arith, append-nil, nat_eq}
use Rattle.std.specs.Prelude.{None, Some, if◌then◌else◌, is_none, unwrap_or}
use Rattle.std.specs.BTreeMap.{BTreeMap, Updates, get, is_at}
use Rattle.std.specs.Cmp.{Equal-is, nat_cmp_is}
use Rattle.std.specs.Ordering.{nat_cmp}
use Rattle.std.specs.declared.cmp.Ordering.TheVariants.{Equal}
use mir.Val.{bool_byte}
use Rattle.std.proofs.lemmas.List.{length_push}
use Rattle.std.proofs.lemmas.List.Elements.{filter-append}
use Rattle.std.proofs.lemmas.List.Sums.{sum_by_push}
use Rattle.std.proofs.lemmas.Map.Lookups.{exact_unsigned}
use Rattle.process_memory.specs.Memory.{Memory}
use Rattle.py_fields.specs.declared.layout.Layout.{Layout}
use Rattle.py_census.specs.declared.places.SizePlaces.{SizePlaces}
use Rattle.py_census.specs.declared.sizes.ClassSize.{ClassSize}
use Rattle.py_census.specs.declared.tallies.Tally.{Tally}
use Rattle.py_census.specs.Censuses.{is_class, own, sizes, unknown}
use Rattle.py_census.specs.Large.{capped, large_of, largest, with_large}
use Rattle.py_census.specs.declared.large.Largest.{Largest}
use Rattle.py_census.specs.Blocks.{more_at}
use Rattle.py_census.proofs.Larger.{larger}
use Rattle.py_census.specs.Sizes.{class_at, class_size_at, size_at}
use Rattle.py_census.specs.Tallies.{AreTallied, IsMet, tally_after, tally_by, tally_of, tally_or_new, tally_with}

same : (x y : ℕ) → nat_eq x y ≡ true → y ≡ x
same x y e = grind arith

apart : (x y : ℕ) → nat_eq x y ≡ false → y ≡ x → ⊥
apart x y e s = grind arith

at_itself : (k q : ℕ) → q ≡ k → is_at (nat_cmp k) q ≡ true
at_itself k q h = (Equal-is (nat_cmp k q)).1 (sym (nat_cmp_is k q Equal (sym h)))

at_other : (k q : ℕ) → (q ≡ k → ⊥) → is_at (nat_cmp k) q ≡ false
at_other k q ne = by (is_at (nat_cmp k) q) refl
  where
    by : (b : Bool) → is_at (nat_cmp k) q ≡ b → b ≡ false
    by true e = absurd (ne (sym (exact_unsigned k q ((Equal-is (nat_cmp k q)).0 e))))
    by false e = refl

-- a map into which a tally was put
pub put : (old new : BTreeMap ℕ Tally) (its : ℕ) (t : Tally) → Updates nat_cmp old new its (Some t)
    → (class : ℕ) → get nat_cmp new class ≡ (if nat_eq its class then Some t else get nat_cmp old class)
put old new its t u class = by (nat_eq its class) refl
  where
    by : (b : Bool) → nat_eq its class ≡ b → get nat_cmp new class ≡
        (if nat_eq its class then Some t else get nat_cmp old class)
    by true e = rw e (u.0 class ∙ ap (λ b. cond b (Some t) (get nat_cmp old class)) (at_itself its class
        (same its class e)))
    by false e = rw e (u.2 class (at_other its class (apart its class e)))

capped_more : (n k : ℕ) → capped (capped n + k) ≡ capped (n + k)
capped_more n k = grind arith

byte_is : (b : Bool) → bool_byte b ≡ cond b 1 0
byte_is true = refl
byte_is false = refl

-- ---- the objects of a class, and one more

own_more : (klass : ℕ → Option ℕ) (xs : List ℕ) (x class : ℕ) (b : Bool) → is_class class (klass x) ≡ b
    → own klass (xs ++ x ∷ []) class ≡ own klass xs class ++ cond b (x ∷ []) []
own_more klass xs x class b e = filter-append (λ object. is_class class (klass object)) xs (x ∷ [])
    ∙ ap (λ b. own klass xs class ++ cond b (x ∷ []) []) e

abbrev made : Option ClassSize → (class objects bytes more unread unknown : ℕ) → Largest → Option Tally
made s class o b w n u t = Some (record {
  sized = s;
  counted = record { class = class; objects = o; bytes = b; more = w; unread = n; unknown = u; largest = t };
})

-- a sum of what is known, and of one more
known_more : (f : ℕ → Option ℕ) (zs : List ℕ) (x : ℕ) → capped (capped (sizes f zs) + unwrap_or (f x) 0) ≡ capped
    (sizes f (zs ++ x ∷ []))
known_more f zs x = capped_more (sizes f zs) (unwrap_or (f x) 0) ∙ ap capped (sym (sum_by_push (λ a. unwrap_or
    (f a) 0) zs x))

-- and how many are not known
unknown_more : (f : ℕ → Option ℕ) (zs : List ℕ) (x : ℕ) → capped (capped (unknown f zs) + cond (is_none (f x)) 1 0)
    ≡ capped (unknown f (zs ++ x ∷ []))
unknown_more f zs x = capped_more (unknown f zs) (cond (is_none (f x)) 1 0)
    ∙ ap capped (sym (sum_by_push (λ a. cond (is_none (f a)) 1 0) zs x))

one_more : (l : Layout) (p : SizePlaces) (m : Memory) (class x : ℕ) (ys : List ℕ)
    → Some (tally_with l p m x (tally_or_new (class_size_at l p m class) class
    (tally_by (class_size_at l p m class) (size_at l p m class) (more_at l p m class) class ys)))
    ≡ tally_by (class_size_at l p m class) (size_at l p m class) (more_at l p m class) class (ys ++ x ∷ [])
one_more l p m class x [] = refl
one_more l p m class x (y ∷ ys) =
    let s = class_size_at l p m class in
    let size = size_at l p m class in
    let more = more_at l p m class in
    let zs = y ∷ ys in
    let all = zs ++ x ∷ [] in
    let o = capped_more (length zs) 1 ∙ ap capped (sym (length_push zs x)) in
    let b' = capped (capped (sizes size zs) + unwrap_or (size x) 0) in
    let w' = capped (capped (sizes more zs) + unwrap_or (more x) 0) in
    let n' = capped (capped (unknown more zs) + cond (is_none (more x)) 1 0) in
    let u' = capped (capped (unknown size zs) + cond (is_none (size x)) 1 0) in
    let count = capped (length all) in
    let bytes = capped (sizes size all) in
    let blocks = capped (sizes more all) in
    let t' = with_large (largest size more zs) (large_of x (size x) (more x)) in
    let lost = capped (unknown more all) in
    ap (λ k. made s class k b' w' n' u' t') o
    ∙ ap (λ k. made s class count k w' n' u' t') (known_more size zs x)
    ∙ ap (λ k. made s class count bytes k n' u' t') (known_more more zs x)
    ∙ ap (λ k. made s class count bytes blocks k u' t') (unknown_more more zs x)
    ∙ ap (λ k. made s class count bytes blocks lost k t') (unknown_more size zs x)
    ∙ ap (λ k. made s class count bytes blocks lost (capped (unknown size all)) k) (larger size more zs x)

module _ (l : Layout) (p : SizePlaces) (m : Memory) (xs : List ℕ) (x : ℕ) where
  -- an object of another class
  others : (class : ℕ) → is_class class (class_at l m x) ≡ false → tally_of l p m xs class ≡ tally_of l p m
      (xs ++ x ∷ []) class
  others class e = ap (tally_by (class_size_at l p m class) (size_at l p m class) (more_at l p m class) class)
      (sym (own_more (class_at l m) xs x class false e ∙ append-nil (own (class_at l m) xs class)))

  -- and one of this
  ours : (class : ℕ) → is_class class (class_at l m x) ≡ true
      → Some (tally_with l p m x (tally_or_new (class_size_at l p m class) class (tally_of l p m xs class)))
      ≡ tally_of l p m (xs ++ x ∷ []) class
  ours class e = one_more l p m class x (own (class_at l m) xs class)
      ∙ ap (tally_by (class_size_at l p m class) (size_at l p m class) (more_at l p m class) class) (sym (own_more
      (class_at l m) xs x class true e))

  after : (its : Option ℕ) (f : ℕ → Option Tally) → class_at l m x ≡ its → ((c : ℕ) → f c ≡ tally_of l p m xs c)
      → (class : ℕ) → tally_after l p m x its f class ≡ tally_of l p m (xs ++ x ∷ []) class
  after None f e h class = h class ∙ others class (ap (is_class class) e)
  after (Some its) f e h class = by (nat_eq its class) refl
    where
      by : (b : Bool) → nat_eq its class ≡ b → tally_after l p m x (Some its) f class ≡ tally_of l p m
          (xs ++ x ∷ []) class
      by false q = rw q (h class ∙ others class (ap (is_class class) e ∙ q))
      by true q = rw q (rw (← same its class q)
          (ap (λ t. Some (tally_with l p m x (tally_or_new (class_size_at l p m class) class t))) (h class)
          ∙ ours class (ap (is_class class) e ∙ q)))

  pub met_more : {t t' : BTreeMap ℕ Tally} {u : ℕ} {lost : Bool} → AreTallied l p m xs t u → IsMet l p m x t t' lost
      → AreTallied l p m (xs ++ x ∷ []) t' (capped (u + bool_byte lost))
  met_more {t} {t'} {u} {lost} a b = record {
    classes = λ class. b.classes class ∙ after (class_at l m x) (get nat_cmp t) refl a.classes class;
    unreadable_is = ap (λ n. capped (u + n)) (byte_is lost) ∙ ap (λ n. capped (n + cond lost 1 0)) a.unreadable_is
        ∙ ap (λ c. capped (capped (unknown (class_at l m) xs) + cond c 1 0)) b.lost_is
        ∙ capped_more (unknown (class_at l m) xs) (cond (is_none (class_at l m x)) 1 0)
        ∙ ap capped (sym (sum_by_push (λ a. cond (is_none (class_at l m a)) 1 0) xs x));
  }

-- before any object
pub none_met : (l : Layout) (p : SizePlaces) (m : Memory) (t : BTreeMap ℕ Tally) → ((class : ℕ)
    → get nat_cmp t class ≡ None)
    → AreTallied l p m [] t 0
none_met l p m t none = record { classes = none; unreadable_is = refl }
