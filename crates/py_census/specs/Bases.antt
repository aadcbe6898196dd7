-- Which classes are those of sets: `set`, `frozenset`, and each that leads to one of them by its first bases
-- (`tp_base`, Include/cpython/object.h; up to 3.7 Include/object.h). That 16 bases are looked at is this project's rule.
use Rattle.std.specs.Prelude.{ℕ, zero, suc, ◌+◌, nat_eq, ◌||◌, Bool, true, false, if◌then◌else◌, Option, Some, None}
use Rattle.process_memory.specs.Memory.{Found, Memory, word_at}
use Rattle.std.specs.Prelude.{Ok, Err}
use Rattle.py_census.specs.declared.places.SetClasses.{SetClasses}
use Rattle.py_census.specs.declared.places.SizePlaces.{SizePlaces}

-- what is found, where it is
abbrev pub known : {T : Type 0} → Found T → Option T
known (Ok x) = Some x
known (Err f) = None

-- whether a class is one of the two
abbrev pub is_one : SetClasses → (class : ℕ) → Bool
is_one sets class = nat_eq class sets.set || nat_eq class sets.frozenset

-- what a class says by itself: that it is one of them, or that it derives from none, and is none
abbrev pub unless_told : SetClasses → (class : ℕ) → Option Bool → Option Bool
unless_told sets class rest = if is_one sets class then Some true else (if nat_eq class 0 then Some false else rest)

-- what its first base says, where that is in memory
abbrev pub base_says : Option ℕ → (ℕ → Option Bool) → Option Bool
base_says None says = None
base_says (Some next) says = says next

-- whether a class is one of them, or leads to one by so many bases at most; none where that is not known
unfoldable pub leads_at : (base : ℕ) → SetClasses → Memory → (class left : ℕ) → Option Bool
leads_at base sets m class zero = unless_told sets class None
leads_at base sets m class (suc left) = unless_told sets class
    (base_says (known (word_at m (class + base))) (λ next. leads_at base sets m next left))

-- the bases that are looked at
abbrev pub most_bases : ℕ
most_bases = 16

-- whether a class is a set's, where the types of sets are known
abbrev pub set_class_by : (base : ℕ) → Option SetClasses → Memory → (class : ℕ) → Option Bool
set_class_by base None m class = Some false
set_class_by base (Some sets) m class = leads_at base sets m class most_bases

-- whether a class is that of sets; where their classes are not known none is
abbrev pub set_class_at : SizePlaces → Memory → (class : ℕ) → Option Bool
set_class_at p m class = set_class_by p.base p.sets m class
