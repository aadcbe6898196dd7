-- What stands where a member of a list leads to: one more member, or how the list ends there.
use Rattle.std.specs.Prelude.{ℕ, nat_eq, Bool, if◌then◌else◌, List, Option, Some, None}
use Rattle.std.specs.List.{list_any}
use Rattle.gc_lists.specs.declared.links.Links.{Links}
use Rattle.gc_lists.specs.declared.turn.ListEnd.{ListEnd}
use Rattle.gc_lists.specs.declared.turn.ListEnd.TheVariants.{Whole, Torn, Unreadable}
use Rattle.gc_lists.specs.declared.turn.Turn.{Turn}
use Rattle.gc_lists.specs.declared.turn.Turn.TheVariants.{Member, Stops}

-- an address is that of one of some heads
abbrev pub is_head : List ℕ → ℕ → Bool
is_head heads at = list_any (λ h. nat_eq h at) heads

-- at the head where the list began, whose back link is to name the member that leads to it
abbrev pub closed_by : (back before at : ℕ) → ListEnd
closed_by back before at = if nat_eq back before then Whole else Torn at

-- how a list ends at the address of a head, its own or another list's
abbrev pub head_end : List ℕ → (head back before at : ℕ) → Option ListEnd
head_end heads head back before at =
    if nat_eq at head then Some (closed_by back before at) else (if is_head heads at then Some (Torn at) else None)

-- what stands at an address that is no head's, by the links there, whose link back is to name the member that leads to
-- it
abbrev pub turn_by : Option Links → (before at : ℕ) → Turn
turn_by None before at = Stops (Unreadable at)
turn_by (Some l) before at = if nat_eq l.back before then Member l.next else Stops (Torn at)

-- a turn, unless something has ended the list before
abbrev pub turn_past : Option ListEnd → Turn → Turn
turn_past (Some end) turn = Stops end
turn_past None turn = turn

-- what stands at an address to which the member `before` leads. The list's head has the link back `back`
abbrev pub turn_at : (ℕ → Option Links) → List ℕ → (head back before at : ℕ) → Turn
turn_at links heads head back before at =
    turn_past (head_end heads head back before at) (turn_by (links at) before at)
