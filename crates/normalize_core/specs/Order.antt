-- What stands in order.
use Rattle.std.specs.Prelude.{ℕ, nat_le, Bool, true, ◌&&◌, List, [], ◌∷◌}
use Rattle.std.specs.List.{list_all}
use Rattle.maps_text.specs.declared.entry.MapsEntry.{MapsEntry}

-- an element stands so to the first of those behind it, if there is one
abbrev pub first_behind : {X : Type 0} → (X → X → Bool) → X → List X → Bool
first_behind test x [] = true
first_behind test x (y ∷ ys) = test x y

-- each two neighbours stand so
abbrev pub adjacent : {X : Type 0} → (X → X → Bool) → List X → Bool
adjacent test [] = true
adjacent test (x ∷ xs) = first_behind test x xs && adjacent test xs

-- no number is below the one before it
abbrev pub ascends : List ℕ → Bool
ascends numbers = adjacent nat_le numbers

-- the start doesn't pass the end
abbrev pub is_forward : MapsEntry → Bool
is_forward entry = nat_le entry.range.start entry.range.end

-- the first ends before the second starts
abbrev pub ends_before : MapsEntry → MapsEntry → Bool
ends_before first second = nat_le first.range.end second.range.start

-- entries ascend and are disjoint
abbrev pub in_order : List MapsEntry → Bool
in_order entries = list_all is_forward entries && adjacent ends_before entries
