-- The values of locals, kept one behind the other.
use Rattle.std.proofs.Common.{◌≡◌, ◌∙◌, ap, sym, subst, refl, ℕ, Bool, true, false, List, [], ◌∷◌, ◌++◌, Option, Some, None}
use Rattle.std.proofs.Common.{eq-eqb, eqb-true, ne_eqb, take, get_or, length, ◌<◌, ◌+◌, if◌then◌else◌}
use Rattle.std.proofs.lemmas.Bool.{eqb-false}
use Rattle.std.proofs.lemmas.List.{take_more}
use Rattle.std.specs.Prelude.{nat_eq, ◌||◌, OnOk, Result, Ok, Err}
use Rattle.std.specs.List.{list_any}
use Rattle.serde_json.specs.Data.{Data}
use Rattle.py_reprs.specs.Trees.{Tree}
use Rattle.repr_json.specs.Shown.{HasNoFloat, KeepsJson, KeepsText, KeepsType, data_in, kept_float, text_in, type_in}
use Rattle.repr_json.specs.declared.shown.ShownValues.{ShownValues}
use Rattle.local_values.specs.Values.{value_in}
use Rattle.local_values.specs.Values.{type_in as type_read}
use Rattle.local_values.specs.declared.values.LocalValues.{LocalValues}
use Rattle.shown_values.specs.Values.{AreShown, IsJsonOf, IsTextOf, Keeps, KeepsFound, KeepsOne, KeepsTree}
use Rattle.shown_values.specs.Values.{for_json, type_of, value_of}

pub on_ok : {T E P Q : Type 0} (r : Result T E) → (P → Q) → OnOk r P → OnOk r Q
on_ok (Ok x) f h = f h
on_ok (Err e) f h = h

-- ---- one value

itself : (a : ℕ) → nat_eq a a ≡ true
itself a = eq-eqb a a refl

at_itself : {X : Type 0} (a : ℕ) (x y : X) → (if nat_eq a a then x else y) ≡ x
at_itself a x y = ap (λ (t : Bool). if t then x else y) (itself a)

elsewhere : {X : Type 0} (a b : ℕ) (x y : X) → nat_eq a b ≡ false → (if nat_eq a b then x else y) ≡ y
elsewhere a b x y apart = ap (λ (t : Bool). if t then x else y) apart

-- its text alone
pub keeps_text : (addr : ℕ) (value : Tree) (old new : ShownValues) → KeepsText addr value old new
    → Keeps false addr value old new
keeps_text addr value old new h = record {
  text = subst (IsTextOf (Some value)) (sym (h.texts addr ∙ at_itself addr (Some h.text) (text_in old addr))) h.written;
  texts = λ a apart. h.texts a ∙ elsewhere addr a (Some h.text) (text_in old a) apart;
  tree = h.trees;
  types = h.types;
}

-- its text and its JSON
pub keeps_both : (addr : ℕ) (value : Tree) (old mid new : ShownValues) → KeepsText addr value old mid
    → KeepsJson addr value mid new → Keeps true addr value old new
keeps_both addr value old mid new h k = record {
  text = subst (IsTextOf (Some value))
      (sym (k.texts addr ∙ h.texts addr ∙ at_itself addr (Some h.text) (text_in old addr))) h.written;
  texts = λ a apart. k.texts a ∙ h.texts a ∙ elsewhere addr a (Some h.text) (text_in old a) apart;
  tree = (
    subst (IsJsonOf (Some value)) (sym (k.trees addr ∙ at_itself addr (Some k.tree) (data_in mid addr)))
        (k.is_json, k.no_float),
    λ a apart. k.trees a ∙ elsewhere addr a (Some k.tree) (data_in mid a) apart ∙ h.trees a,
  );
  types = λ a. k.types a ∙ h.types a;
}

-- ---- all of them

or_false : (b : Bool) → (b || false) ≡ b
or_false true = refl
or_false false = refl

or_assoc : (a b c : Bool) → (a || (b || c)) ≡ ((a || b) || c)
or_assoc true b c = refl
or_assoc false b c = refl

any_more : (p : ℕ → Bool) (xs : List ℕ) (x : ℕ) → list_any p (xs ++ x ∷ []) ≡ (list_any p xs || p x)
any_more p [] x = or_false (p x)
any_more p (y ∷ xs) x = ap (λ b. p y || b) (any_more p xs x) ∙ or_assoc (p y) (list_any p xs) (p x)

or_true : (b : Bool) → (b || true) ≡ true
or_true true = refl
or_true false = refl

flipped : (x a : ℕ) → nat_eq x a ≡ false → nat_eq a x ≡ false
flipped x a h = ne_eqb a x (λ e. eqb-false x a h (sym e))

-- what there is at an address, where that is among some
abbrev picked : {X : Type 0} → (ℕ → Option X) → List ℕ → ℕ → Option X
picked look xs a = if list_any (nat_eq a) xs then look a else None

-- the address is among them
among : {X : Type 0} (look : ℕ → Option X) (xs : List ℕ) (x a : ℕ) → x ≡ a → picked look (xs ++ x ∷ []) a ≡ look a
among look xs x a is = ap (λ (t : Bool). if t then look a else None)
    (any_more (nat_eq a) xs x ∙ ap (λ b. list_any (nat_eq a) xs || b) (eq-eqb a x (sym is))
    ∙ or_true (list_any (nat_eq a) xs))

-- another one is as it was
apart_from : {X : Type 0} (look : ℕ → Option X) (xs : List ℕ) (x a : ℕ) → nat_eq x a ≡ false
    → picked look (xs ++ x ∷ []) a ≡ picked look xs a
apart_from look xs x a h = ap (λ (t : Bool). if t then look a else None)
    (any_more (nat_eq a) xs x ∙ ap (λ b. list_any (nat_eq a) xs || b) (flipped x a h) ∙ or_false (list_any (nat_eq a) xs))

-- one that has no value has none, wherever it stands
without : (v : LocalValues) (xs : List ℕ) (a : ℕ) → value_in v a ≡ None → value_of (Some v) xs a ≡ None
without v xs a none = elim (list_any (nat_eq a) xs) as (λ t. (if t then value_in v a else None) ≡ None)
    [ true ↦ none | false ↦ refl ]

-- where a value is kept, or there is none
module _ {D : Type 0} (R : Option Tree → Option D → Type 0) (v : LocalValues) (xs : List ℕ) (x a : ℕ) (old new : Option D)
    (before : R (value_of (Some v) xs a) old) where
  pub kept_none : value_in v x ≡ None → new ≡ old → R (value_of (Some v) (xs ++ x ∷ []) a) new
  kept_none none same = by (nat_eq x a) refl
    where
      by : (t : Bool) → nat_eq x a ≡ t → R (value_of (Some v) (xs ++ x ∷ []) a) new
      by true e =
          let here : value_in v a ≡ None = subst (λ y. value_in v y ≡ None) (eqb-true x a e) none in
          subst (λ o. R o new) (sym (among (value_in v) xs x a (eqb-true x a e) ∙ here))
          (subst (R None) (sym same) (subst (λ o. R o old) (without v xs a here) before))
      by false e = subst (λ o. R o new) (sym (apart_from (value_in v) xs x a e)) (subst (R (value_of (Some v) xs a)) (sym same) before)

  pub kept_some : (t : Tree) → value_in v x ≡ Some t → (x ≡ a → R (Some t) new) → (nat_eq x a ≡ false → new ≡ old)
      → R (value_of (Some v) (xs ++ x ∷ []) a) new
  kept_some t some here else_ = by (nat_eq x a) refl
    where
      by : (b : Bool) → nat_eq x a ≡ b → R (value_of (Some v) (xs ++ x ∷ []) a) new
      by true e =
          let is = eqb-true x a e in
          subst (λ o. R o new) (sym (among (value_in v) xs x a is ∙ subst (λ y. value_in v y ≡ Some t) is some)) (here is)
      by false e =
          subst (λ o. R o new) (sym (apart_from (value_in v) xs x a e))
          (subst (R (value_of (Some v) xs a)) (sym (else_ e)) before)

-- JSON, where it is asked for
abbrev JsonIf : Bool → Option Tree → Option Data → Type 0
JsonIf json value d = IsJsonOf (for_json json value) d

tree_none : (json : Bool) (v : LocalValues) (xs : List ℕ) (x a : ℕ) (old new : Option Data)
    → JsonIf json (value_of (Some v) xs a) old → value_in v x ≡ None → new ≡ old
    → JsonIf json (value_of (Some v) (xs ++ x ∷ []) a) new
tree_none json v xs x a old new before none same = kept_none (JsonIf json) v xs x a old new before none same

tree_some : (json : Bool) (v : LocalValues) (xs : List ℕ) (x a : ℕ) (old new : ShownValues) (t : Tree)
    → JsonIf json (value_of (Some v) xs a) (data_in old a) → value_in v x ≡ Some t → KeepsTree json x t old new
    → JsonIf json (value_of (Some v) (xs ++ x ∷ []) a) (data_in new a)
tree_some true v xs x a old new t before some kept =
    kept_some (JsonIf true) v xs x a (data_in old a) (data_in new a) before t some
    (λ is. subst (λ y. IsJsonOf (Some t) (data_in new y)) is kept.0) (kept.1 a)
tree_some false v xs x a old new t before some kept = subst (IsJsonOf None) (sym (kept a)) before

-- the name of the type of one more
type_more : (v : LocalValues) (xs : List ℕ) (x a : ℕ) (held new : Option (List ℕ)) → held ≡ type_of (Some v) xs a
    → new ≡ (if nat_eq x a then type_read v x else held) → new ≡ type_of (Some v) (xs ++ x ∷ []) a
type_more v xs x a held new before is = by (nat_eq x a) refl
  where
    by : (t : Bool) → nat_eq x a ≡ t → new ≡ type_of (Some v) (xs ++ x ∷ []) a
    by true e =
        let same = eqb-true x a e in
        is ∙ ap (λ (t : Bool). if t then type_read v x else held) e ∙ ap (λ y. type_read v y) same
        ∙ sym (among (type_read v) xs x a same)
    by false e =
        is ∙ ap (λ (t : Bool). if t then type_read v x else held) e ∙ before ∙ sym (apart_from (type_read v) xs x a e)

found_by : (json : Bool) (v : LocalValues) (xs : List ℕ) (x : ℕ) (old mid new : ShownValues) (o : Option Tree)
    → AreShown json (Some v) xs old → value_in v x ≡ o → KeepsFound json x o old mid
    → KeepsType x (type_read v x) mid new → AreShown json (Some v) (xs ++ x ∷ []) new
found_by json v xs x old mid new None are none same named = record {
  texts = λ a. kept_none IsTextOf v xs x a (text_in old a) (text_in new a) (are.texts a) none
      (named.texts a ∙ ap (λ s. text_in s a) same);
  trees = λ a. tree_none json v xs x a (data_in old a) (data_in new a) (are.trees a) none
      (named.trees a ∙ ap (λ s. data_in s a) same);
  types = λ a. type_more v xs x a (type_in old a) (type_in new a) (are.types a)
      (named.types a ∙ ap (λ s. if nat_eq x a then type_read v x else type_in s a) same);
}
found_by json v xs x old mid new (Some t) are some kept named = record {
  texts = λ a. kept_some IsTextOf v xs x a (text_in old a) (text_in new a) (are.texts a) t some
      (λ is. subst (IsTextOf (Some t)) (sym (named.texts a))
      (subst (λ y. IsTextOf (Some t) (text_in mid y)) is kept.text))
      (λ apart. named.texts a ∙ kept.texts a apart);
  trees = λ a. subst (JsonIf json (value_of (Some v) (xs ++ x ∷ []) a)) (sym (named.trees a))
      (tree_some json v xs x a old mid t (are.trees a) some kept.tree);
  types = λ a. type_more v xs x a (type_in old a) (type_in new a) (are.types a)
      (named.types a ∙ ap (λ o. if nat_eq x a then type_read v x else o) (kept.types a));
}

-- one more of some addresses
pub shown_more : (json : Bool) (v : LocalValues) (xs : List ℕ) (i : ℕ) (x d : ℕ) (old new : ShownValues) → i < length xs
    → x ≡ get_or xs i d → AreShown json (Some v) (take i xs) old
    → KeepsOne json x (value_in v x) (type_read v x) old new → AreShown json (Some v) (take (i + 1) xs) new
shown_more json v xs i x d old new less is are kept =
    subst (λ ys. AreShown json (Some v) ys new) (ap (λ y. take i xs ++ y ∷ []) is ∙ sym (take_more xs i d less))
    (found_by json v (take i xs) x old kept.between new (value_in v x) are refl kept.found kept.named)

-- at first none is
pub none_shown : (json : Bool) (values : Option LocalValues) (new : ShownValues) → ((a : ℕ) → text_in new a ≡ None)
    → ((a : ℕ) → data_in new a ≡ None) → ((a : ℕ) → type_in new a ≡ None) → ((a : ℕ) → value_of values [] a ≡ None)
    → AreShown json values [] new
none_shown json values new texts trees types none = record {
  texts = λ a. subst (IsTextOf (value_of values [] a)) (sym (texts a)) (subst (λ o. IsTextOf o None) (sym (none a)) tt);
  trees = λ a. subst (IsJsonOf (for_json json (value_of values [] a))) (sym (trees a))
      (subst (λ o. IsJsonOf (for_json json o) None) (sym (none a)) (no_json json));
  types = λ a. types a ∙ no_type values a;
}
  where
    no_type : (read : Option LocalValues) (a : ℕ) → None ≡ type_of read [] a
    no_type None a = refl
    no_type (Some v) a = refl

    no_json : (b : Bool) → IsJsonOf (for_json b None) None
    no_json true = tt
    no_json false = tt

-- nor is one where no values were read
pub none_read : (json : Bool) (addresses : List ℕ) (new : ShownValues) → ((a : ℕ) → text_in new a ≡ None)
    → ((a : ℕ) → data_in new a ≡ None) → ((a : ℕ) → type_in new a ≡ None) → AreShown json None addresses new
none_read json addresses new texts trees types = record {
  texts = λ a. subst (IsTextOf None) (sym (texts a)) tt;
  trees = λ a. subst (IsJsonOf (for_json json None)) (sym (trees a)) (no_json json);
  types = types;
}
  where
    no_json : (b : Bool) → IsJsonOf (for_json b None) None
    no_json true = tt
    no_json false = tt

-- ---- none of JSON's floats

plain : (value : Option Tree) (d : Option Data) → IsJsonOf value d → kept_float d ≡ false
plain value None h = refl
plain (Some value) (Some d) h = h.1
plain None (Some d) h = absurd h

pub shown_plain : (json : Bool) (values : Option LocalValues) (addresses : List ℕ) (shown : ShownValues)
    → AreShown json values addresses shown → HasNoFloat shown
shown_plain json values addresses shown are a =
    plain (for_json json (value_of values addresses a)) (data_in shown a) (are.trees a)
