-- What a census says of some objects, each of which has a class and a size or none: this project's rule.
use Rattle.std.specs.Prelude.{◌≡◌, ℕ, ◌<◌, ◌⊎◌, nat_eq, Bool, false, List}
use Rattle.std.specs.Prelude.{length, map, filter, All, AllPairs, Contains, count_by, sum_by, Option, Some, None}
use Rattle.std.specs.Prelude.{is_none, unwrap_or}
use Rattle.py_census.specs.declared.census.Census.{Census}
use Rattle.py_census.specs.declared.census.CountedClass.{CountedClass}
use Rattle.py_census.specs.Large.{capped, largest}

-- the classes of objects, and of how many objects none is known
pub record Counted : Type 0 where
  pub classes : List CountedClass
  pub unreadable : ℕ

-- the classes that were counted, and how many blocks can't be read
abbrev pub counted_of : Census → Counted
counted_of census = record { classes = census.classes.items; unreadable = census.unreadable }

-- whether a class is this one
abbrev pub is_class : (class : ℕ) → Option ℕ → Bool
is_class class None = false
is_class class (Some c) = nat_eq c class

-- those of some objects that are of a class
abbrev pub own : (klass : ℕ → Option ℕ) → List ℕ → (class : ℕ) → List ℕ
own klass objects class = filter (λ object. is_class class (klass object)) objects

-- the sum of the sizes that are known
abbrev pub sizes : (size : ℕ → Option ℕ) → List ℕ → ℕ
sizes size objects = sum_by (λ object. unwrap_or (size object) 0) objects

-- of how many objects it is not known
abbrev pub unknown : (ℕ → Option ℕ) → List ℕ → ℕ
unknown known objects = count_by (λ object. is_none (known object)) objects

-- what is counted of a class of which these are the objects
abbrev pub counted_by : (size more : ℕ → Option ℕ) → (class : ℕ) → List ℕ → CountedClass
counted_by size more class objects = record {
  class = class;
  objects = capped (length objects);
  bytes = capped (sizes size objects);
  more = capped (sizes more objects);
  unread = capped (unknown more objects);
  unknown = capped (unknown size objects);
  largest = largest size more objects;
}

-- what is counted of a class among some objects
abbrev pub counted_class : (klass : ℕ → Option ℕ) → (size more : (class object : ℕ) → Option ℕ) → List ℕ → (class : ℕ)
    → CountedClass
counted_class klass size more objects class = counted_by (size class) (more class) class (own klass objects class)

-- most bytes first, then by address
abbrev pub Precedes : CountedClass → CountedClass → Type 0
Precedes x y = (y.bytes < x.bytes) ⊎ ((x.bytes ≡ y.bytes) × (x.class < y.class))

-- a class that has objects, and what is said of it is so
pub record IsCounted (klass : ℕ → Option ℕ) (size more : (class object : ℕ) → Option ℕ) (objects : List ℕ)
    (c : CountedClass) : Type 0 where
  pub some : 0 < length (own klass objects c.class)
  pub is : c ≡ counted_class klass size more objects c.class

-- what is counted of some objects: each class that one of them has, once, and none else, in order
pub record IsCensus (klass : ℕ → Option ℕ) (size more : (class object : ℕ) → Option ℕ) (objects : List ℕ)
    (census : Counted)
    : Type 0 where
  pub all : (object class : ℕ) → Contains objects object → klass object ≡ Some class
      → Contains (map (λ c. c.class) census.classes) class
  pub none_else : All (IsCounted klass size more objects) census.classes
  pub order : AllPairs Precedes census.classes
  pub unreadable : census.unreadable ≡ capped (unknown klass objects)
