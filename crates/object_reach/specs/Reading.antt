-- What the readers of objects read: an object's parts as code has them, and how many reads they take.
use Rattle.std.specs.Prelude.{◌≡◌, ◌<◌, ◌≤◌, ◌+◌, ◌*◌, ◌^◌, ℕ, List, [], ◌∷◌, Option, Some, IsSome, length, Result, Ok}
use Rattle.std.specs.Prelude.{Err, ⊤}
use Rattle.py_builtins.specs.declared.error.ObjectError.{ObjectError}
use Rattle.py_builtins.specs.ObjectError.{object_fault}
use Rattle.object_reach.specs.declared.parts.Place.{Place}
use Rattle.object_reach.specs.declared.parts.Place.TheVariants.{Nowhere as NoPlace, Items as ItemPlace}
use Rattle.object_reach.specs.declared.parts.Place.TheVariants.{Slots as SlotPlace}
use Rattle.object_reach.specs.declared.parts.Parts.{Parts}
use Rattle.object_reach.specs.declared.parts.Part.{Part}
use Rattle.object_reach.specs.declared.parts.Part.TheVariants.{Nothing, Item, Slot as SlotPart}
use Rattle.object_reach.specs.declared.objects.ObjectRead.{ObjectRead}
use Rattle.object_reach.specs.declared.reached.ReachError.{ReachError}
use Rattle.object_reach.specs.declared.reached.ReachError.TheVariants.{ReachLimit, OutOfMemory}
use Rattle.object_reach.specs.declared.reached.ReachObject.{ReachObject}
use Rattle.object_reach.specs.Objects.{Object, PartsSpot, PartsRead, slot_words}
use Rattle.object_reach.specs.Objects.PartsSpot.{Nowhere, ItemsAt, SlotsAt}
use Rattle.object_reach.specs.Reach.{IsBrokenBy, addresses, slots_in_all}

-- where parts stand that were read
abbrev pub spot_of : Place → PartsSpot
spot_of NoPlace = Nowhere
spot_of (ItemPlace items) = ItemsAt items
spot_of (SlotPlace cursor) = SlotsAt cursor.slots

-- the parts of an object as they were read
abbrev pub parts_told : Parts → PartsRead
parts_told p = record { count = p.count; place = spot_of p.place }

-- a result with the parts of an object
abbrev pub parts_got : {E : Type 0} → Result Parts E → Result PartsRead E
parts_got (Ok p) = Ok (parts_told p)
parts_got (Err e) = Err e

-- the words of a part that was read
abbrev pub words_told : Part → List ℕ
words_told Nothing = []
words_told (Item item) = item ∷ []
words_told (SlotPart slot) = slot_words slot

-- a result with the addresses that a part leads to
abbrev pub words_read : {E : Type 0} → Result Part E → Result (List ℕ) E
words_read (Ok part) = Ok (words_told part)
words_read (Err e) = Err e

-- what was read is this object, of at most `room` slots
pub record ShowsObject (object : Object) (room : ℕ) (found : ObjectRead) : Type 0 where
  pub slots : found.slots ≡ object.slots
  pub fits : object.slots ≤ room
  pub words : found.words.items ≡ object.words
  pub broken : IsBrokenBy object.failure found.broken

-- an object, or that it has more slots than there is room for
abbrev pub ShowsOr : Object → ℕ → Result ObjectRead ReachError → Type 0
ShowsOr object room (Ok found) = ShowsObject object room found
ShowsOr object room (Err ReachLimit) = room < object.slots
ShowsOr object room (Err OutOfMemory) = ⊤

-- how many reads its slots take, two each at most, and the first missing one
abbrev pub slots_cost : ℕ → Result ObjectRead ReachError → ℕ
slots_cost room (Ok found) = 2 + 2 * found.slots
slots_cost room (Err error) = 2 + 2 * room

-- an object that is broken by an error that is not out of memory, behind so many slots
abbrev pub IsBroken : ObjectError → ℕ → Result ObjectRead ReachError → Type 0
IsBroken error slots (Ok found) =
    (found.slots ≡ slots) × (found.words.items ≡ []) × (found.broken ≡ Some error) × IsSome (object_fault error)
IsBroken error slots (Err ReachLimit) = ⊥
IsBroken error slots (Err OutOfMemory) = ⊤

-- how many reads a search takes at most: six for each object and two for each slot
abbrev pub reach_cost : (ℕ → Object) → Result (List ReachObject) ReachError → ℕ
reach_cost heap (Ok objects) = 6 * length objects + 2 * slots_in_all heap (addresses objects)
reach_cost heap (Err error) = 6 * 2 ^ 20 + 2 * 2 ^ 24

-- an entry of what a search has read, as it lists it
abbrev pub listed_as : ℕ × Option ObjectError → ReachObject
listed_as entry = record { addr = entry.0; broken = entry.1 }
