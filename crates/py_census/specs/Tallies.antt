-- What is kept of each class while objects are counted.
use Rattle.std.specs.Prelude.{◌≡◌, ℕ, ◌+◌, nat_eq, Bool, if◌then◌else◌, List, [], ◌∷◌, Option, Some, None, is_none}
use Rattle.std.specs.Prelude.{unwrap_or}
use Rattle.std.specs.BTreeMap.{BTreeMap, get}
use Rattle.std.specs.Ordering.{nat_cmp}
use Rattle.process_memory.specs.Memory.{Memory}
use Rattle.py_fields.specs.declared.layout.Layout.{Layout}
use Rattle.py_census.specs.declared.census.CountedClass.{CountedClass}
use Rattle.py_census.specs.declared.places.SizePlaces.{SizePlaces}
use Rattle.py_census.specs.declared.sizes.ClassSize.{ClassSize}
use Rattle.py_census.specs.declared.tallies.Tally.{Tally}
use Rattle.py_census.specs.Censuses.{counted_by, own, unknown}
use Rattle.py_census.specs.Large.{capped, large_of, none_large, with_large}
use Rattle.py_census.specs.Blocks.{more_at, more_by}
use Rattle.py_census.specs.Sizes.{class_at, class_size_at, size_at, size_by}

-- what is kept of a class of which these are the objects so far
abbrev pub tally_by : (sized : Option ClassSize) → (size more : ℕ → Option ℕ) → (class : ℕ) → List ℕ → Option Tally
tally_by sized size more class [] = None
tally_by sized size more class (x ∷ xs) = Some (record { sized = sized; counted = counted_by size more class (x ∷ xs) })

-- what is kept of a class once these objects were met
abbrev pub tally_of : Layout → SizePlaces → Memory → List ℕ → (class : ℕ) → Option Tally
tally_of l p m objects class =
    tally_by (class_size_at l p m class) (size_at l p m class) (more_at l p m class) class (own
    (class_at l m) objects class)

-- all that is kept once these objects were met
pub record AreTallied (l : Layout) (p : SizePlaces) (m : Memory) (objects : List ℕ) (tallies : BTreeMap ℕ Tally)
    (unreadable : ℕ) : Type 0 where
  pub classes : (class : ℕ) → get nat_cmp tallies class ≡ tally_of l p m objects class
  pub unreadable_is : unreadable ≡ capped (unknown (class_at l m) objects)

-- ---- one more object

-- a class's count with one more object
abbrev pub with_object : CountedClass → (object : ℕ) → (size more : Option ℕ) → CountedClass
with_object c object size more = record {
  class = c.class;
  objects = capped (c.objects + 1);
  bytes = capped (c.bytes + unwrap_or size 0);
  more = capped (c.more + unwrap_or more 0);
  unread = capped (c.unread + (if is_none more then 1 else 0));
  unknown = capped (c.unknown + (if is_none size then 1 else 0));
  largest = with_large c.largest (large_of object size more);
}

-- a class of which nothing was counted
abbrev pub no_objects : (class : ℕ) → CountedClass
no_objects class = record {
  class = class;
  objects = 0;
  bytes = 0;
  more = 0;
  unread = 0;
  unknown = 0;
  largest = none_large;
}

-- what is kept of a class; of one that is met first, what its record says
abbrev pub tally_or_new : (sized : Option ClassSize) → (class : ℕ) → Option Tally → Tally
tally_or_new sized class None = record { sized = sized; counted = no_objects class }
tally_or_new sized class (Some tally) = tally

-- a class's tally with one more object
abbrev pub tally_with : Layout → SizePlaces → Memory → (object : ℕ) → Tally → Tally
tally_with l p m object t = record {
  sized = t.sized;
  counted = with_object t.counted object (size_by l p m t.sized object) (more_by p m t.sized object);
}

-- what is kept of a class once one more object was met, whose class is given
abbrev pub tally_after : Layout → SizePlaces → Memory → (object : ℕ) → (its : Option ℕ) → (ℕ → Option Tally)
    → (class : ℕ) → Option Tally
tally_after l p m object None old class = old class
tally_after l p m object (Some its) old class = if nat_eq its class
    then Some (tally_with l p m object (tally_or_new (class_size_at l p m its) its (old its)))
    else old class

-- one more object was met, and all that is kept is so
pub record IsMet (l : Layout) (p : SizePlaces) (m : Memory) (object : ℕ) (old new : BTreeMap ℕ Tally)
    (lost : Bool) : Type 0
  where
    pub classes : (class : ℕ) → get nat_cmp new class
        ≡ tally_after l p m object (class_at l m object) (get nat_cmp old) class
    pub lost_is : lost ≡ is_none (class_at l m object)
