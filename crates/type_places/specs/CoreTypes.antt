-- The types that the code of a frame leads to. Which classes a code object and what it holds have is CPython's rule
-- (`PyCodeObject`), and so are the class of an interpreter's dict of modules and what `type` derives from; that all of
-- them
-- are checked to have `type` as their class is this project's.
use Rattle.std.specs.Prelude.{ℕ, ◌+◌, Bool, true, false, Option, Some, None, List, [], ◌∷◌, Ok}
use Rattle.process_memory.specs.Memory.{Memory, Found, ◌>>=◌, word_at}
use Rattle.py_fields.specs.declared.layout.Layout.{Layout}
use Rattle.type_places.specs.declared.classes.TypeFields.{TypeFields}
use Rattle.type_places.specs.declared.code_types.CodeParts.{CodeParts}
use Rattle.type_places.specs.declared.code_types.CoreTypes.{CoreTypes}
use Rattle.type_places.specs.declared.code_types.TypesMet.{TypesMet}
use Rattle.type_places.specs.declared.places.Found.TheVariants.{CodeOfAFrame}
use Rattle.type_places.specs.declared.places.TypePlace.{TypePlace}
use Rattle.type_places.specs.Classes.{class_address_at, have_class, named_class_at}
use Rattle.type_places.specs.Places.{type_place}

-- the classes of a code object's name, of its line table and of the names of its variables
unfoldable pub code_parts_at : Layout → Memory → ℕ → Found CodeParts
code_parts_at l m code = do
  text ← named_class_at l m code l.code.name
  bytes ← named_class_at l m code l.code.table
  tuple ← named_class_at l m code l.code.varnames
  Ok (record { text = text; bytes = bytes; tuple = tuple })

-- what is met from a code object and the dict of modules
unfoldable pub types_met_at : Layout → TypeFields → Memory → ℕ → ℕ → Found TypesMet
types_met_at l f m code modules = do
  class ← class_address_at l m code
  metatype ← class_address_at l m class
  parts ← code_parts_at l m code
  dict ← class_address_at l m modules
  object ← word_at m (metatype + f.base)
  Ok (record { code = class; metatype = metatype; parts = parts; dict = dict; object = object })

-- a type that the code of a frame leads to
abbrev pub by_code : ℕ → TypePlace
by_code a = type_place a CodeOfAFrame

-- the types that the code of a frame leads to
abbrev pub core_types_by : TypesMet → CoreTypes
core_types_by t = record {
  code = by_code t.code;
  metatype = by_code t.metatype;
  text = by_code t.parts.text;
  bytes = by_code t.parts.bytes;
  tuple = by_code t.parts.tuple;
  dict = by_code t.dict;
  object = by_code t.object;
}

-- the addresses of these types
abbrev pub addresses_met : TypesMet → List ℕ
addresses_met t =
    t.metatype ∷ t.code ∷ t.parts.text ∷ t.parts.bytes ∷ t.parts.tuple ∷ t.dict ∷ t.object ∷ []

-- these types, where they stood the test
abbrev pub types_if : TypesMet → Bool → Option CoreTypes
types_if t false = None
types_if t true = Some (core_types_by t)

-- these, where each of them has `type` as its class, `type` too
unfoldable pub checked_types_at : Layout → Memory → TypesMet → Found (Option CoreTypes)
checked_types_at l m t = do
  are ← have_class l m t.metatype (addresses_met t)
  Ok (types_if t are)

-- the types that a code object and the dict of modules lead to
unfoldable pub core_types_at : Layout → TypeFields → Memory → ℕ → ℕ → Found (Option CoreTypes)
core_types_at l f m code modules = types_met_at l f m code modules >>= checked_types_at l m
