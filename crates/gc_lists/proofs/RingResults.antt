-- What was followed is the list of its head, as a result.
use Rattle.std.proofs.Common.{◌≡◌, ◌≢◌, ℕ, sym, ◌∙◌, List, Option, Ok, Err, Result}
use Rattle.std.specs.Prelude.{IfOk}
use Rattle.std.specs.List.{AllPairs, Contains}
use Rattle.gc_lists.specs.declared.links.Links.{Links}
use Rattle.gc_lists.specs.declared.walk.GcList.{GcList}
use Rattle.gc_lists.specs.Rings.{AreApart, Listed, Listing, list_at}
use Rattle.gc_lists.specs.Walks.{listing_of}
use Rattle.gc_lists.proofs.RingLaws.{listed_found, listed_unique}
use Rattle.gc_lists.proofs.Onces.{listed_apart, listed_once}

module _ {E : Type 0} (links : ℕ → Option Links) (heads : List ℕ) (limit head : ℕ) where
  pub is_right : (r : Result GcList E) → IfOk r (λ list. listing_of list ≡ list_at links heads limit head) → IfOk r (λ list. Listed links heads limit head (listing_of list))
  is_right (Ok list) h = rw h (listed_found links heads limit head)
  is_right (Err e) h = tt

  pub is_only : (r : Result GcList E) → IfOk r (λ list. listing_of list ≡ list_at links heads limit head) → (other : Listing) → Listed links heads limit head other → IfOk r (λ list. listing_of list ≡ other)
  is_only (Ok list) h other is = h ∙ listed_unique links heads limit head other is
  is_only (Err e) h other is = tt

  pub is_once : (r : Result GcList E) → IfOk r (λ list. listing_of list ≡ list_at links heads limit head) → IfOk r (λ list. AllPairs (λ x y. x ≢ y) list.members.items)
  is_once (Ok list) h = listed_once links heads limit head (listing_of list) (is_right (Ok list) h)
  is_once (Err e) h = tt

  pub is_apart : (r : Result GcList E) → IfOk r (λ list. listing_of list ≡ list_at links heads limit head) → (h : ℕ) (other : Listing) → h ≢ head → Contains heads h → Contains heads head
      → Listed links heads limit h other → IfOk r (λ list. AreApart list.members.items other.members)
  is_apart (Ok list) e h other some there here is =
      listed_apart links heads limit head (listing_of list) limit h other (is_right (Ok list) e) is (λ s. some (sym s)) here there
  is_apart (Err error) e h other some there here is = tt
