-- Where the values within a value stand. The addresses of a list's items stand one behind the other (`ob_item`,
-- Include/cpython/listobject.h, tupleobject.h).
use Rattle.std.specs.Prelude.{ℕ, zero, suc, ◌+◌, ◌*◌, List, [], ◌∷◌, ◌++◌, Ok, Err}
use Rattle.process_memory.specs.Memory.{Fault, Found, Memory, word_at}
use Rattle.process_memory.specs.Memory.Fault.{Missing}
use Rattle.py_reprs.specs.declared.places.Place.{Place}
use Rattle.py_reprs.specs.declared.places.Place.TheVariants.{At, Gap}

-- where the word that names a value is not in memory; a word has no other fault
abbrev pub gap_of : Fault → Place
gap_of (Missing a n) = Gap a n
gap_of _ = Gap 0 0

-- a place by the address that stands there, or a gap where it can't be read
abbrev pub place_by : Found ℕ → Place
place_by (Ok a) = At a
place_by (Err f) = gap_of f

-- those of the numbers from 0 on, so many of them
unfoldable pub firsts : {T : Type 0} → (ℕ → T) → ℕ → List T
firsts f zero = []
firsts f (suc n) = firsts f n ++ f n ∷ []

-- where the value of a number stands, by the words from an address on
unfoldable pub place_at : Memory → (base number : ℕ) → Place
place_at m base number = place_by (word_at m (base + 8 * number))

-- where the first values stand
abbrev pub places_at : Memory → (base count : ℕ) → List Place
places_at m base count = firsts (place_at m base) count
