-- No member is twice in a list, and none is in two.
use Rattle.std.proofs.Common.{◌≡◌, ◌≢◌, ℕ, zero, suc, ◌<◌, List, [], ◌∷◌, length, get_or, refl, sym, ◌∙◌, ap, arith, subst}
use Rattle.std.proofs.Common.{Option, Some, None}
use Rattle.std.specs.List.{AllPairs, Contains}
use Rattle.gc_lists.specs.declared.links.Links.{Links}
use Rattle.gc_lists.specs.Rings.{AreApart, IsListedBy, IsMember, Leads, Listed, Listing}

module _ (links : ℕ → Option Links) (heads : List ℕ) where
  -- each member of a list has the one before it as its link back
  member_at : (head before at : ℕ) (members : List ℕ) (last to k d : ℕ) → Leads links heads head before at members last to → k < length members
      → (next : ℕ) × IsMember links heads head (get_or (before ∷ members) k d) (get_or members k d) next
  unfolding Leads
  member_at head before at [] last to k d leads lt = absurd (omega (arith, lt))
  member_at head before at (x ∷ xs) last to zero d (is, next, h, leads) lt = (next, h)
  member_at head before at (x ∷ xs) last to (suc k) d (is, next, h, leads) lt = member_at head x next xs last to k d leads (omega (arith, lt))

  -- the members of a list from its head on
  abbrev AreMembers : ℕ → List ℕ → Type 0
  AreMembers head xs = (k d : ℕ) → k < length xs → (next : ℕ) × IsMember links heads head (get_or (head ∷ xs) k d) (get_or xs k d) next

  one_back : (x y before other next further : ℕ) → x ≡ y → links x ≡ Some (record { next = next; back = before }) → links y ≡ Some (record { next = further; back = other }) → before ≡ other
  one_back x y before other next further e h g =
      let t : Some (record { next = next; back = before }) ≡ Some (record { next = further; back = other }) = sym h ∙ ap links e ∙ g in
      ap (λ o. elim o as (λ v. ℕ) [ Some l ↦ l.back | None ↦ 0 ]) t

  -- one address stands at one place of a list, and in one list alone
  one_place : (a b : ℕ) (xs ys : List ℕ) → AreMembers a xs → AreMembers b ys
      → ((k d : ℕ) → k < length xs → get_or xs k d ≢ b) → ((k d : ℕ) → k < length ys → get_or ys k d ≢ a)
      → (i j d : ℕ) → i < length xs → j < length ys → get_or xs i d ≡ get_or ys j d → (i ≡ j) × (a ≡ b)
  one_place a b xs ys p q far near zero zero d lt lt' e =
      let f = p zero d lt in
      let g = q zero d lt' in
      (refl, one_back _ _ a b f.0 g.0 e f.1.here g.1.here)
  one_place a b xs ys p q far near zero (suc j) d lt lt' e =
      let f = p zero d lt in
      let g = q (suc j) d lt' in
      absurd (near j d (omega (arith, lt')) (sym (one_back _ _ a (get_or ys j d) f.0 g.0 e f.1.here g.1.here)))
  one_place a b xs ys p q far near (suc i) zero d lt lt' e =
      let f = p (suc i) d lt in
      let g = q zero d lt' in
      absurd (far i d (omega (arith, lt)) (one_back _ _ (get_or xs i d) b f.0 g.0 e f.1.here g.1.here))
  one_place a b xs ys p q far near (suc i) (suc j) d lt lt' e =
      let f = p (suc i) d lt in
      let g = q (suc j) d lt' in
      let before = one_back _ _ (get_or xs i d) (get_or ys j d) f.0 g.0 e f.1.here g.1.here in
      let r = one_place a b xs ys p q far near i j d (omega (arith, lt)) (omega (arith, lt')) before in
      (ap suc r.0, r.1)

  once : (a : ℕ) (xs : List ℕ) → AreMembers a xs → AllPairs (λ x y. x ≢ y) xs
  once a xs p i j d lt within e =
      let far : (k d : ℕ) → k < length xs → get_or xs k d ≢ a = λ k d b. (p k d b).1.apart.0 in
      let r = one_place a a xs xs p p far far i j d (omega (arith, lt, within)) within e in
      absurd (omega (arith, lt, r.0))

  apart : (a b : ℕ) (xs ys : List ℕ) → AreMembers a xs → AreMembers b ys → a ≢ b → Contains heads a → Contains heads b → AreApart xs ys
  apart a b xs ys p q other first second x (i, lt, e) (j, lt', e') =
      let far : (k d : ℕ) → k < length xs → get_or xs k d ≢ b = λ k d l is. (p k d l).1.apart.1 (subst (Contains heads) (sym is) second) in
      let near : (k d : ℕ) → k < length ys → get_or ys k d ≢ a = λ k d l is. (q k d l).1.apart.1 (subst (Contains heads) (sym is) first) in
      other (one_place a b xs ys p q far near i j x lt lt' (e ∙ sym e')).1

  listed_members : (limit head : ℕ) (list : Listing) → Listed links heads limit head list → AreMembers head list.members
  listed_members limit head list h = by (links head) h
    where
      by : (o : Option Links) → IsListedBy o links heads limit head list → AreMembers head list.members
      by None (none, end) k d lt = absurd (omega (arith, lt, ap length none))
      by (Some first) r k d lt = member_at head head first.next list.members r.last r.to k d r.leads lt

  pub listed_once : (limit head : ℕ) (list : Listing) → Listed links heads limit head list → AllPairs (λ x y. x ≢ y) list.members
  listed_once limit head list h = once head list.members (listed_members limit head list h)

  pub listed_apart : (limit head : ℕ) (list : Listing) (limit' head' : ℕ) (list' : Listing) → Listed links heads limit head list → Listed links heads limit' head' list'
      → head ≢ head' → Contains heads head → Contains heads head' → AreApart list.members list'.members
  listed_apart limit head list limit' head' list' h h' other first second =
      apart head head' list.members list'.members (listed_members limit head list h) (listed_members limit' head' list' h') other first second
