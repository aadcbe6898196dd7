-- The names of functions that Cython writes, and what is left of them. Which fronts count, and how the numbers
-- behind them are passed, is py-spy's rule; that a number past a u64 ends it, and a point inside a character,
-- is this project's own.
use Rattle.std.specs.Prelude.{◌≡◌, ◌≢◌, ℕ, ◌+◌, ◌^◌, ◌<◌, ◌==◌, Bool, if◌then◌else◌, List, [], ◌∷◌, length, take}
use Rattle.std.specs.Prelude.{drop, bytes_eq, codes, Option, Some, None}
use Rattle.std.specs.Option.{option_or}
use Rattle.std.specs.Str.{IsCharBoundary}
use Rattle.std.specs.Str.Parse.{digits_value}
use Rattle.native_merge.specs.Digits.{leading_digits}
use Rattle.native_merge.specs.declared.digits.Number.{Number}

-- ---- the front

-- a text begins with a front
abbrev pub begins : List ℕ → List ℕ → Bool
begins front text = bytes_eq (take (length front) text) front

-- what is left of a name behind a front
abbrev pub behind : List ℕ → List ℕ → Option (List ℕ)
behind front name = if begins front name then Some (drop (length front) name) else None

-- what is left behind the first of these fronts that a name begins with
abbrev pub left_behind : List (List ℕ) → List ℕ → Option (List ℕ)
left_behind [] name = None
left_behind (front ∷ fronts) name = option_or (behind front name) (left_behind fronts name)

-- what Cython puts in front of a name, in the order in which it is looked for
abbrev pub fronts : List (List ℕ)
fronts = codes "__pyx_fuse_1_0__pyx_pw" ∷ codes "__pyx_fuse_0__pyx_f" ∷ codes "__pyx_fuse_1__pyx_f" ∷ codes "__pyx_pf"
    ∷ codes "__pyx_pw" ∷ codes "__pyx_f" ∷ codes "___pyx_f" ∷ codes "___pyx_pw" ∷ []

-- ---- the numbers

-- the digits behind the underscore that a place begins with
abbrev pub digits_at : List ℕ → List ℕ
digits_at [] = []
digits_at (c ∷ text) = if c == 95 then leading_digits text else []

-- the number that they spell
abbrev pub number_behind : List ℕ → ℕ
number_behind place = digits_value 10 (digits_at place)

-- what stands behind the underscore and the digits
abbrev pub behind_number : List ℕ → List ℕ
behind_number place = drop (length (digits_at place) + 1) place

-- so many bytes further on
abbrev pub next_place : List ℕ → List ℕ
next_place place = drop (number_behind place) (behind_number place)

-- a place begins with an underscore and one or more digits, and their number is one of a u64
pub record HasTurn (place : List ℕ) : Type 0 where
  pub some : digits_at place ≢ []
  pub fits : number_behind place < 2 ^ 64

-- counted from an underscore, the point so many bytes behind so many digits comes before as many bytes as stand
-- behind the digits, and is a border of characters
pub record IsPointIn (number digits : ℕ) (rest : List ℕ) : Type 0 where
  pub within : number + digits + 1 < length rest
  pub border : IsCharBoundary rest number

-- so it is with the number of a place
abbrev pub GoesOn : List ℕ → Type 0
GoesOn place = IsPointIn (number_behind place) (length (digits_at place)) (behind_number place)

-- the name that is left, from a place, behind whose last number stands this name
pub data IsShortened : List ℕ → List ℕ → List ℕ → Type 0 where
  Stops : {place name : List ℕ} → (HasTurn place → ⊥) → IsShortened place name name
  Ends : {place name : List ℕ} → HasTurn place → (GoesOn place → ⊥) → IsShortened place name (behind_number place)
  Goes : {place name answer : List ℕ} → HasTurn place → GoesOn place
      → IsShortened (next_place place) (behind_number place) answer → IsShortened place name answer

-- the name without the front that it has, if any, and then without numbers
abbrev pub IsLeftOver : List ℕ → Option (List ℕ) → List ℕ → Type 0
IsLeftOver name None answer = answer ≡ name
IsLeftOver name (Some left) answer = IsShortened left left answer

-- a function's name without what Cython has put in front
abbrev pub IsDemangled : List ℕ → List ℕ → Type 0
IsDemangled name answer = IsLeftOver name (left_behind fronts name) answer

-- a function's name has one name that is left of it
abbrev pub DemanglesOnce : Type 0
DemanglesOnce = (name answer other : List ℕ) → IsDemangled name answer → IsDemangled name other → answer ≡ other

-- ---- what the reader of numbers answers

-- the number that a place begins with
pub record IsTurnAt (place : List ℕ) (turn : Number) : Type 0 where
  pub has : HasTurn place
  pub value : turn.value ≡ number_behind place
  pub digits : turn.digits ≡ length (digits_at place)
  pub rest : turn.rest.now ≡ behind_number place
