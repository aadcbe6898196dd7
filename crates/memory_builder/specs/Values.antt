-- Values and arrays, as they are laid.
use Rattle.std.specs.Prelude.{ℕ, ◌+◌, ◌-◌, ◌*◌, ◌/◌, ◌%◌, ◌^◌, nat_lt, Bool, true, false, Some, None, List, [], ◌∷◌}
use Rattle.std.specs.Prelude.{◌++◌, length, ℤ, pos, negsuc, unsigned_abs, if◌then◌else◌, ◌==◌}
use Rattle.py_fields.specs.declared.layout.Layout.{Layout}
use Rattle.py_fields.specs.declared.layout.Integers.{Integers}
use Rattle.py_fields.specs.declared.layout.Integers.TheVariants.{Signed, Tagged}
use Rattle.object_builder.specs.Objects.{Write, bytes_of, object, aligned}
use Rattle.object_builder.specs.Objects.Value.{U64}
use Rattle.memory_builder.specs.Program.{Item, Held, Local}
use Rattle.memory_builder.specs.Program.Item.{Number, Words}
use Rattle.memory_builder.specs.Program.Held.{Single, Items}
use Rattle.object_builder.specs.Texts.{text_object}
use Rattle.memory_builder.specs.Chains.{laid_chain, addresses_from}
use Rattle.memory_builder.specs.Sizes.{item_size, list_len, number_len, rounded}
use Rattle.memory_builder.specs.declared.values.TypesAt.{TypesAt}

-- words one behind the other
unfoldable pub address_array : List ℕ → List ℕ
address_array [] = []
address_array (p ∷ ps) = bytes_of (U64 p) ++ address_array ps

-- groups laid one behind the other that don't name each other
abbrev pub laid_all : {X : Type 0} → (X → ℕ) → (ℕ → X → List ℕ) → ℕ → List X → List ℕ
laid_all size lay a xs = laid_chain size (λ at next x. lay at x) a xs

-- ---- numbers

-- how many digits of 30 bits
abbrev pub digit_count : ℕ → ℕ
digit_count n = if n == 0 then 0 else (if nat_lt n (2 ^ 30) then 1 else 2)

-- whether a number is negative
abbrev pub is_below : ℤ → Bool
is_below (pos n) = false
is_below (negsuc n) = true

-- the word that has a number's sign and count of digits: `ob_size`, or from 3.12 on `lv_tag` (`PyLongObject`)
abbrev pub count_for : Integers → ℤ → ℕ
count_for Signed z = if is_below z then 2 ^ 64 - digit_count (unsigned_abs z) else digit_count (unsigned_abs z)
count_for Tagged z = digit_count (unsigned_abs z) * 8 + (if is_below z then 2 else 0)

-- two digits, of 4 bytes each
abbrev pub digits_word : ℕ → ℕ
digits_word n = n % 2 ^ 30 + n / 2 ^ 30 * 2 ^ 32

-- the fields of an integer, `PyLongObject`: its count and sign, its digits, and its type
abbrev pub number_writes : Layout → ℕ → ℤ → List Write
number_writes l klass z =
    record { at = l.long.count; value = U64 (count_for l.integers z) } ∷
    record { at = l.long.digits; value = U64 (digits_word (unsigned_abs z)) } ∷
    record { at = l.object.klass; value = U64 klass } ∷ []

-- ---- items

-- a single value, with its type
unfoldable pub laid_item : Layout → TypesAt → Item → List ℕ
laid_item l t (Number z) = aligned (object (number_len l) (number_writes l t.integer z))
laid_item l t (Words cs) = aligned (text_object l (Some t.text) cs)

-- ---- values

-- the fields of a list, `PyListObject`: the count, the address of its items, and its type
abbrev pub list_writes : Layout → ℕ → (count items : ℕ) → List Write
list_writes l klass count items =
    record { at = l.list.count; value = U64 count } ∷
    record { at = l.list.items; value = U64 items } ∷
    record { at = l.object.klass; value = U64 klass } ∷ []

-- the address of a list's array of items, behind its record
abbrev pub items_place : Layout → ℕ → ℕ
items_place l a = a + rounded (list_len l)

-- the address of a list's first item, behind that array
abbrev pub first_item : Layout → ℕ → List Item → ℕ
first_item l a xs = items_place l a + rounded (8 * length xs)

-- a local's value that stands at an address
unfoldable pub laid_value : Layout → TypesAt → ℕ → Held → List ℕ
laid_value l t a (Single x) = laid_item l t x
laid_value l t a (Items xs) =
    aligned (object (list_len l) (list_writes l t.list (length xs) (items_place l a))) ++
    (aligned (address_array (addresses_from (item_size l) (first_item l a xs) xs)) ++
    laid_all (item_size l) (λ at x. laid_item l t x) (first_item l a xs) xs)

-- ---- locals

-- the text of a local's name
unfoldable pub laid_name : Layout → Local → List ℕ
laid_name l v = aligned (text_object l None v.name)

-- a local's value, as it is laid
unfoldable pub laid_local : Layout → TypesAt → ℕ → Local → List ℕ
laid_local l t a v = laid_value l t a v.value
