-- Types as entries of their own modules: two searches over the slots of dicts. That an interpreter has its modules in a
-- dict, by their names, and a module what it defines in its own, is CPython's rule; that so many slots are looked at in
-- all, at most, is this project's.
use Rattle.std.specs.Prelude.{ℕ, Option, Some, None, List, Ok}
use Rattle.process_memory.specs.Memory.{Memory, Found, ◌>>=◌}
use Rattle.py_fields.specs.declared.layout.Layout.{Layout}
use Rattle.py_builtins.specs.Dicts.{dict_slots}
use Rattle.py_builtins.specs.Types.{type_at}
use Rattle.py_names.specs.Names.{module_slots, search_looked, slot_limit}
use Rattle.py_names.specs.Search.{find_from, find_looked, looked_in}
use Rattle.py_names.specs.Typed.{plain_slots}
use Rattle.type_places.specs.declared.classes.TypeFields.{TypeFields}
use Rattle.type_places.specs.declared.places.Found.TheVariants.{ModuleDict}
use Rattle.type_places.specs.declared.places.TypePlace.{TypePlace}
use Rattle.type_places.specs.Classes.{is_sized_type_at}
use Rattle.type_places.specs.Places.{place_if}

-- the entry of the module at an address under a name, where there is one
unfoldable pub module_entry_at : Layout → Memory → List ℕ → Option ℕ → ℕ → Found (Option ℕ)
module_entry_at l m name None left = Ok None
module_entry_at l m name (Some a) left = do
  t ← type_at l m a
  slots ← plain_slots l m a t
  search ← find_from l m name slots slots.count 0 left
  Ok search.found

-- what an entry is, where it is a type whose instances have so many bytes
unfoldable pub entry_place_at : Layout → TypeFields → Memory → ℕ → Option ℕ → Found (Option TypePlace)
entry_place_at l f m size None = Ok None
entry_place_at l f m size (Some a) = do
  is ← is_sized_type_at l f m size a
  Ok (place_if a ModuleDict is)

-- the type that the module at an address has under a name, where there is a module
unfoldable pub module_place_at : Layout → TypeFields → Memory → List ℕ → ℕ → Option ℕ → ℕ → Found (Option TypePlace)
module_place_at l f m name size found left = module_entry_at l m name found left >>= entry_place_at l f m size

-- the type that a module has under a name, where its instances have so many bytes
unfoldable pub module_type_at : Layout → TypeFields → Memory → ℕ → List ℕ → List ℕ → ℕ → Found (Option TypePlace)
module_type_at l f m modules module_name type_name size = do
  slots ← dict_slots l m modules
  search ← find_from l m module_name slots slots.count 0 slot_limit
  module_place_at l f m type_name size search.found search.left

-- ---- how many slots are looked at

-- how many slots are looked at for a name in a module
unfoldable pub module_entry_looked : Layout → Memory → List ℕ → Option ℕ → ℕ → ℕ
module_entry_looked l m name None left = 0
module_entry_looked l m name (Some a) left =
    looked_in (module_slots l m a) (λ slots. find_looked l m name slots slots.count 0 left)

-- how many slots of both dicts are looked at, empty ones too
unfoldable pub module_slots_looked_at : Layout → Memory → ℕ → List ℕ → List ℕ → ℕ
module_slots_looked_at l m modules module_name type_name =
    looked_in (dict_slots l m modules) (search_looked l m module_name slot_limit (module_entry_looked l m type_name))
