-- The largest of some objects: this project's rule.
use Rattle.std.specs.Prelude.{ℕ, ◌+◌, ◌-◌, ◌^◌, min, nat_eq, nat_le, nat_lt, ◌||◌, ◌&&◌, Bool, true, if◌then◌else◌}
use Rattle.std.specs.Prelude.{List, [], ◌∷◌, map, Option, Some, None, unwrap_or}
use Rattle.py_census.specs.declared.large.LargeObject.{LargeObject}
use Rattle.py_census.specs.declared.large.Largest.{Largest}

-- a number that 64 bits have no room for is the greatest that they have room for
abbrev pub capped : ℕ → ℕ
capped n = min n (2 ^ 64 - 1)

-- an object with all bytes that are known of it
abbrev pub large_of : (object : ℕ) → (size more : Option ℕ) → LargeObject
large_of object size more = record { object = object; bytes = capped (unwrap_or size 0 + unwrap_or more 0) }

-- most bytes first, then by address
abbrev pub comes_before : LargeObject → LargeObject → Bool
comes_before x y = nat_lt y.bytes x.bytes || (nat_eq x.bytes y.bytes && nat_le x.object y.object)

-- an object in its place among some that stand in order
abbrev pub put : LargeObject → List LargeObject → List LargeObject
put x [] = x ∷ []
put x (y ∷ ys) = if comes_before x y then x ∷ (y ∷ ys) else y ∷ put x ys

-- each of some objects in its place
abbrev pub put_all : List LargeObject → List LargeObject → List LargeObject
put_all ys [] = ys
put_all ys (x ∷ xs) = put_all (put x ys) xs

-- objects in order
abbrev pub in_order : List LargeObject → List LargeObject
in_order xs = put_all [] xs

-- the first of some objects
abbrev pub head_of : List LargeObject → Option LargeObject
head_of [] = None
head_of (x ∷ xs) = Some x

-- all but the first of some objects
abbrev pub tail_of : List LargeObject → List LargeObject
tail_of [] = []
tail_of (x ∷ xs) = xs

-- the first three of a list, as far as it has them
abbrev pub first_three : List LargeObject → Largest
first_three xs = record { first = head_of xs; second = head_of (tail_of xs); third = head_of (tail_of (tail_of xs)) }

-- the three largest of some objects: the first ones of all of them in order
abbrev pub largest : (size more : ℕ → Option ℕ) → (objects : List ℕ) → Largest
largest size more objects = first_three (in_order (map (λ a. large_of a (size a) (more a)) objects))

-- ---- one more object

-- no largest objects
abbrev pub none_large : Largest
none_large = record { first = None; second = None; third = None }

-- whether an object goes before another one, where there is one
abbrev pub goes_before : LargeObject → Option LargeObject → Bool
goes_before x None = true
goes_before x (Some y) = comes_before x y

-- the three largest objects, with one more looked at
abbrev pub with_large : Largest → LargeObject → Largest
with_large l x =
    if goes_before x l.first then record { first = Some x; second = l.first; third = l.second }
    else (if goes_before x l.second then record { first = l.first; second = Some x; third = l.second }
    else (if goes_before x l.third then record { first = l.first; second = l.second; third = Some x }
    else l))
