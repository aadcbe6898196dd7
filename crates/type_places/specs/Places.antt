-- Where a type stands, and how that was found. The ways are this project's.
use Rattle.std.specs.Prelude.{ℕ, Bool, true, false, Option, Some, None, Ok}
use Rattle.process_memory.specs.Memory.{Memory, Found, ◌>>=◌}
use Rattle.py_fields.specs.declared.layout.Layout.{Layout}
use Rattle.type_places.specs.declared.places.Found.{Found as How}
use Rattle.type_places.specs.declared.places.Found.TheVariants.{Symbol}
use Rattle.type_places.specs.declared.places.TypePlace.{TypePlace}
use Rattle.type_places.specs.Classes.{is_type_at}

-- a type's address, and how it was found
abbrev pub type_place : ℕ → How → TypePlace
type_place a how = record { address = a; found = how }

-- a type's place, where it stood the test
abbrev pub place_if : ℕ → How → Bool → Option TypePlace
place_if a how false = None
place_if a how true = Some (type_place a how)

-- what a symbol names, where that is a type
unfoldable pub symbol_place_at : Layout → Memory → Option ℕ → Found (Option TypePlace)
symbol_place_at l m None = Ok None
symbol_place_at l m (Some a) = do
  is ← is_type_at l m a
  Ok (place_if a Symbol is)
