-- The values of a layout's table in a file, by group and name.
use Rattle.std.specs.Prelude.{ℕ, ◌^◌, ℤ, pos, List, Bool, false, Option, Some, None, is_some, cond, nat_lt}
use Rattle.std.specs.Prelude.{option_and_then, unwrap_or}
use Rattle.toml.specs.Data.{Data, integer, Members, get_member, as_table, as_bool}
use Rattle.py_layout.specs.declared.keys.Kind.{Kind}
use Rattle.py_layout.specs.declared.keys.Kind.TheVariants.{Version, Truth, Word, Number, Group}
use Rattle.py_layout.specs.Words.{is_word, word_of}

-- the table at a name
abbrev pub group_at : Members → List ℕ → Option Members
group_at ms name = option_and_then as_table (get_member name ms)

-- the value at a name, of a group or, for None, of the layout's own table
abbrev pub value_at : Members → Option (List ℕ) → List ℕ → Option Data
value_at ms None name = get_member name ms
value_at ms (Some group) name = option_and_then (get_member name) (group_at ms group)

-- a whole number of 0 to 2^32 - 1
abbrev pub number_of_ℤ : ℤ → Option ℕ
number_of_ℤ (pos n) = cond (nat_lt n (2 ^ 32)) (Some n) None
number_of_ℤ _ = None

-- the number that a value of TOML is, where it is a whole one of 0 or more
abbrev pub number_of : Data → Option ℕ
number_of (integer z) = number_of_ℤ z
number_of _ = None

-- whether a number of a version is there and below 1000
abbrev pub is_version : Option ℕ → Bool
is_version None = false
is_version (Some n) = nat_lt n 1000

-- whether the value is what a key of this kind holds
abbrev pub fits : Kind → Data → Bool
fits Version d = is_version (number_of d)
fits Truth d = is_some (as_bool d)
fits (Word family) d = is_word family (word_of d)
fits Number d = is_some (number_of d)
fits Group d = is_some (as_table d)

-- the number at a key; 0 where there is none, which is a flaw
abbrev pub optional_at : Members → Option (List ℕ) → List ℕ → Option ℕ
optional_at ms group name = option_and_then number_of (value_at ms group name)

-- the number of a key; 0 where there is none
abbrev pub number_at : Members → Option (List ℕ) → List ℕ → ℕ
number_at ms group name = unwrap_or (optional_at ms group name) 0

-- the truth at a name; false where there is none, which is a flaw
abbrev pub truth_at : Members → List ℕ → Bool
truth_at ms name = unwrap_or (option_and_then as_bool (get_member name ms)) false
