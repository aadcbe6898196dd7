-- The types by which values are told, by the symbols of a process's images. Which symbol names which type is CPython's
-- (Include/object.h, Include/boolobject.h and its likes); that the three objects have no other objects of their classes
-- is too.
use Rattle.std.specs.Prelude.{ℕ, List, [], ◌∷◌, Option, None, codes, get_or, map}
use Rattle.process_memory.specs.Memory.{Memory}
use Rattle.py_fields.specs.declared.layout.Layout.{Layout}
use Rattle.py_process.specs.Facts.{Known, symbol_known}
use Rattle.py_reprs.specs.declared.kinds.ReprTypes.{ReprTypes}
use Rattle.repr_types.specs.Found.{class_named, type_named}

-- the symbol of `NotImplemented`
unfoldable pub not_implemented : List ℕ
not_implemented = codes "_Py_NotImplementedStruct"

-- the addresses of None, Ellipsis and NotImplemented, by their symbols
abbrev pub value_symbols : Known → List (Option ℕ)
value_symbols k =
    symbol_known k (codes "_Py_NoneStruct") ∷ symbol_known k (codes "_Py_EllipsisObject")
    ∷ symbol_known k not_implemented ∷ []

-- the addresses of the types of values, by their symbols
abbrev pub type_symbols : Known → List (Option ℕ)
type_symbols k =
    symbol_known k (codes "PyBool_Type") ∷ symbol_known k (codes "PyFloat_Type")
    ∷ symbol_known k (codes "PyComplex_Type") ∷ symbol_known k (codes "PyByteArray_Type")
    ∷ symbol_known k (codes "PySet_Type") ∷ symbol_known k (codes "PyFrozenSet_Type")
    ∷ symbol_known k (codes "PyRange_Type") ∷ symbol_known k (codes "PySlice_Type")
    ∷ symbol_known k (codes "PyCell_Type") ∷ symbol_known k (codes "PyFunction_Type")
    ∷ symbol_known k (codes "PyMethod_Type") ∷ symbol_known k (codes "PyCFunction_Type")
    ∷ symbol_known k (codes "PyModule_Type") ∷ symbol_known k (codes "PyCoro_Type")
    ∷ symbol_known k (codes "PyGen_Type") ∷ symbol_known k (codes "PyAsyncGen_Type") ∷ []

-- the address of this number
abbrev pub each_of : List (Option ℕ) → ℕ → Option ℕ
each_of found number = get_or found number None

-- the types, of which these were found in this order
abbrev pub types_by : (classes types : List (Option ℕ)) → ReprTypes
types_by classes types = record {
  nothing = each_of classes 0;
  ellipsis = each_of classes 1;
  not_implemented = each_of classes 2;
  truth = each_of types 0;
  float = each_of types 1;
  complex = each_of types 2;
  bytearray = each_of types 3;
  set = each_of types 4;
  frozenset = each_of types 5;
  range = each_of types 6;
  slice = each_of types 7;
  cell = each_of types 8;
  function = each_of types 9;
  method = each_of types 10;
  builtin = each_of types 11;
  «module» = each_of types 12;
  coroutine = each_of types 13;
  generator = each_of types 14;
  async_generator = each_of types 15;
  instances = None;
  coroutines = None;
}

-- each type by its own symbol, or by that of its object
unfoldable pub repr_types_at : Known → Layout → Memory → ReprTypes
repr_types_at k l m = types_by (map (class_named l m) (value_symbols k)) (map (type_named l m) (type_symbols k))
