-- Circular lists in which the link back of each member names the member before it, as Modules/gcmodule.c keeps those of
-- the collector (`gc_list_append`, `gc_list_merge`): the members from a head on, and how the list ends. That it ends at
-- the first link that is wrong, at the head of another list and at a limit is this project's rule.
use Rattle.std.specs.Prelude.{◌≡◌, ◌≢◌, ℕ, zero, suc, ◌-◌, ◌≤◌, ◌⊎◌, List, [], ◌∷◌, length, Option, Some, None}
use Rattle.std.specs.List.{Contains}
use Rattle.gc_lists.specs.declared.links.Links.{Links}
use Rattle.gc_lists.specs.declared.turn.ListEnd.{ListEnd}
use Rattle.gc_lists.specs.declared.turn.ListEnd.TheVariants.{Whole, Torn, Unreadable, Cut}
use Rattle.gc_lists.specs.declared.turn.Turn.{Turn}
use Rattle.gc_lists.specs.declared.turn.Turn.TheVariants.{Member, Stops}
use Rattle.gc_lists.specs.Turns.{turn_at}

-- the members of a list, in order, and how it ends
pub record Listing : Type 0 where
  pub members : List ℕ
  pub end : ListEnd

-- neither the list's own head nor another one's
abbrev pub IsNoHead : List ℕ → (head at : ℕ) → Type 0
IsNoHead heads head at = (at ≢ head) × (Contains heads at → ⊥)

-- at an address stands a member: it is no head, and its link back names the one before it
pub record IsMember (links : ℕ → Option Links) (heads : List ℕ) (head before at : ℕ) (next : ℕ) : Type 0 where
  pub apart : IsNoHead heads head at
  pub here : links at ≡ Some (record { next = next; back = before })

-- from `before` on, which leads to `at`, each of some members stands where the one before it leads to; the last of them
-- leads to `to`
unfoldable pub Leads : (ℕ → Option Links) → List ℕ → (head before at : ℕ) → List ℕ → (last to : ℕ) → Type 0
Leads links heads head before at [] last to = (before ≡ last) × (at ≡ to)
Leads links heads head before at (x ∷ xs) last to =
    (x ≡ at) × (next : ℕ) × IsMember links heads head before x next × Leads links heads head x next xs last to

-- a link back at an address that is no head's names another one than the member that leads to it
pub record IsWrong (links : ℕ → Option Links) (heads : List ℕ) (head last to : ℕ) : Type 0 where
  pub apart : IsNoHead heads head to
  pub found : Links
  pub here : links to ≡ Some found
  pub other : found.back ≢ last

-- a list whose last member leads to `to` is torn there: its head's link back is another one's; another list's head
-- stands there; or a member whose link back is wrong
abbrev pub IsTorn : (ℕ → Option Links) → List ℕ → (head back last to : ℕ) → Type 0
IsTorn links heads head back last to =
    ((to ≡ head) × (back ≢ last)) ⊎ ((to ≢ head) × Contains heads to) ⊎ IsWrong links heads head last to

-- how a list ends, of whose members the last one leads to `to`, where so many more may be met
abbrev pub EndsAt : (ℕ → Option Links) → List ℕ → (head back left last to : ℕ) → ListEnd → Type 0
EndsAt links heads head back left last to Whole = (to ≡ head) × (back ≡ last)
EndsAt links heads head back left last to (Torn a) = (a ≡ to) × IsTorn links heads head back last to
EndsAt links heads head back left last to (Unreadable a) = (a ≡ to) × IsNoHead heads head to × (links to ≡ None)
EndsAt links heads head back left last to (Cut a) =
    (a ≡ to) × (left ≡ 0) × (next : ℕ) × IsMember links heads head last to next

-- the list of a head whose links are these
pub record IsRing (links : ℕ → Option Links) (heads : List ℕ) (limit head : ℕ) (first : Links) (list : Listing) : Type 0
  where
    pub last : ℕ
    pub to : ℕ
    pub leads : Leads links heads head head first.next list.members last to
    pub within : length list.members ≤ limit
    pub ends : EndsAt links heads head first.back (limit - length list.members) last to list.end

-- a list from its head on, where the head's links can be read
abbrev pub IsListedBy : Option Links → (ℕ → Option Links) → List ℕ → (limit head : ℕ) → Listing → Type 0
IsListedBy None links heads limit head list = (list.members ≡ []) × (list.end ≡ Unreadable head)
IsListedBy (Some first) links heads limit head list = IsRing links heads limit head first list

-- the list of a head, at most `limit` members of it: all its members up to where it ends, in order, with none left out
abbrev pub Listed : (ℕ → Option Links) → List ℕ → (limit head : ℕ) → Listing → Type 0
Listed links heads limit head list = IsListedBy (links head) links heads limit head list

-- no address is in both lists
abbrev pub AreApart : List ℕ → List ℕ → Type 0
AreApart xs ys = (a : ℕ) → Contains xs a → Contains ys a → ⊥

-- ---- the same, as it is read

-- an end for the limit of members, unless the list ends here
abbrev pub cut_by : (at : ℕ) → Turn → Listing
cut_by at (Member next) = record { members = []; end = Cut at }
cut_by at (Stops end) = record { members = []; end = end }

-- a member and what follows it, or the list's end
abbrev pub go_by : (at : ℕ) → Turn → (ℕ → Listing) → Listing
go_by at (Member next) rest = let l = rest next in record { members = at ∷ l.members; end = l.end }
go_by at (Stops end) rest = record { members = []; end = end }

-- the members from an address on, to which `before` leads, where so many may be met
unfoldable pub list_from : (turn : ℕ → ℕ → Turn) → (left before at : ℕ) → Listing
list_from turn zero before at = cut_by at (turn before at)
list_from turn (suc left) before at = go_by at (turn before at) (λ next. list_from turn left at next)

-- a list from its head on; none where the head's links can't be read
abbrev pub list_by : Option Links → (ℕ → Option Links) → List ℕ → (limit head : ℕ) → Listing
list_by None links heads limit head = record { members = []; end = Unreadable head }
list_by (Some first) links heads limit head =
    list_from (turn_at links heads head first.back) limit head first.next

-- the list of a head, by the links that memory has
abbrev pub list_at : (ℕ → Option Links) → List ℕ → (limit head : ℕ) → Listing
list_at links heads limit head = list_by (links head) links heads limit head
