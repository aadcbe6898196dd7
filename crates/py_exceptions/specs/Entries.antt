-- What a dict has under a name. That 4,096 slots of it are looked at is this project's rule.
use Rattle.std.specs.Prelude.{ℕ, Option, Some, None, List, Ok}
use Rattle.process_memory.specs.Memory.{Found, Memory, ◌>>=◌}
use Rattle.py_fields.specs.declared.layout.Layout.{Layout}
use Rattle.py_builtins.specs.declared.keys.Slots.{Slots}
use Rattle.py_builtins.specs.Dicts.{dict_slots}
use Rattle.py_names.specs.Search.{find_from}
use Rattle.py_exceptions.specs.Texts.{text_or_none_at}

-- the value of the first of some slots under a name
unfoldable pub named_at : Layout → Memory → Slots → List ℕ → Found (Option ℕ)
named_at l m slots name = do
  search ← find_from l m name slots slots.count 0 4096
  Ok search.found

-- that of the dict at an address
unfoldable pub entry_at : Layout → Memory → ℕ → List ℕ → Found (Option ℕ)
entry_at l m dict name = dict_slots l m dict >>= (λ slots. named_at l m slots name)

-- the text at an address, where there is one
unfoldable pub found_text_at : Layout → Memory → Option ℕ → Found (Option (List ℕ))
found_text_at l m None = Ok None
found_text_at l m (Some a) = text_or_none_at l m a
