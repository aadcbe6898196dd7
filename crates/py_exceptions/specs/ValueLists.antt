-- Values, one behind the other. That 16 of them are told is this project's rule.
use Rattle.std.specs.Prelude.{ℕ, ◌-◌, Option, Some, None, List, Ok, min}
use Rattle.process_memory.specs.Memory.{Found, Memory, ◌>>=◌}
use Rattle.py_fields.specs.declared.layout.Layout.{Layout}
use Rattle.py_builtins.specs.declared.items.Items.{Items}
use Rattle.py_builtins.specs.declared.items.Sequence.{Sequence}
use Rattle.py_builtins.specs.Items.{item_at, items_at}
use Rattle.py_exceptions.specs.declared.value.Value.{Value}
use Rattle.py_exceptions.specs.declared.values.Values.{Values}
use Rattle.py_exceptions.specs.Faults.{found_or_none, known}
use Rattle.py_exceptions.specs.Firsts.{firsts}
use Rattle.py_exceptions.specs.Values.{value_by}

-- the values that are told, and how many more there are
pub record ValuesShown : Type 0 where
  pub values : List (Option Value)
  pub left_out : ℕ

-- some values, as the code has them
abbrev pub values_shown : Values → ValuesShown
values_shown v = record { values = v.values.items; left_out = v.left_out }

-- the same, where they are told
abbrev pub shown_if : Option Values → Option ValuesShown
shown_if None = None
shown_if (Some v) = Some (values_shown v)

-- the item of a number as a value, none where it can't be read
unfoldable pub item_value_at : Layout → Memory → Items → ℕ → Option Value
item_value_at l m items number = value_by l m (known (item_at m items number))

-- the first items as values, so many of them
abbrev pub first_values : Layout → Memory → Items → ℕ → List (Option Value)
first_values l m items count = firsts (item_value_at l m items) count

-- these values, with how many more there are
abbrev pub values_with : List (Option Value) → ℕ → ValuesShown
values_with values left_out = record { values = values; left_out = left_out }

-- the values of some items: the first 16, and how many more there are
unfoldable pub values_in : Layout → Memory → Items → ValuesShown
values_in l m items = values_with (first_values l m items (min items.count 16)) (items.count - min items.count 16)

-- the values of some items, where these are known
abbrev pub values_by : Layout → Memory → Option Items → Option ValuesShown
values_by l m None = None
values_by l m (Some items) = Some (values_in l m items)

-- where the items of the list or the tuple at an address stand, and how many there are
unfoldable pub items_found_at : Layout → Memory → Sequence → ℕ → Found (Option Items)
items_found_at l m s a = do
  items ← items_at l m s a
  Ok (Some items)

-- the items of the list or the tuple at an address as values, where its record is there
unfoldable pub values_at : Layout → Memory → Sequence → ℕ → Option ValuesShown
values_at l m s a = values_by l m (found_or_none (items_found_at l m s a))
