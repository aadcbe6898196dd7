-- Which case of shown values a type is. The flags are CPython's `Py_TPFLAGS_*_SUBCLASS`, and bit 23 Python 2's
-- of its small integers; which names are looked for is py-spy's.
use Rattle.std.specs.Prelude.{ℕ, Bool, Option, Some, None, List, if◌then◌else◌, ◌&&◌, codes, bytes_eq}
use Rattle.py_builtins.specs.Texts.{bit_is_set}
use Rattle.py_objects.specs.declared.kinds.Scalar.{Scalar}
use Rattle.py_objects.specs.declared.kinds.Scalar.TheVariants.{Truth, U8, U16, U32, U64, I8, I16, I32, I64, F32, F64}
use Rattle.py_objects.specs.declared.kinds.Kind.{Kind}
use Rattle.py_objects.specs.declared.kinds.Kind.TheVariants.{Small, Long, Text, Dict, List as ListKind, Tuple, Float}
use Rattle.py_objects.specs.declared.kinds.Kind.TheVariants.{Nothing, Number, Other}

-- how many bytes one of numpy's numbers has
abbrev pub scalar_width : Scalar → ℕ
scalar_width Truth = 1
scalar_width U8 = 1
scalar_width U16 = 2
scalar_width U32 = 4
scalar_width U64 = 8
scalar_width I8 = 1
scalar_width I16 = 2
scalar_width I32 = 4
scalar_width I64 = 8
scalar_width F32 = 4
scalar_width F64 = 8

-- which of numpy's numbers a type is, by its name
unfoldable pub scalar_named : List ℕ → Option Scalar
scalar_named name =
    if bytes_eq name (codes "numpy.bool") then Some Truth else
    if bytes_eq name (codes "numpy.uint8") then Some U8 else
    if bytes_eq name (codes "numpy.uint16") then Some U16 else
    if bytes_eq name (codes "numpy.uint32") then Some U32 else
    if bytes_eq name (codes "numpy.uint64") then Some U64 else
    if bytes_eq name (codes "numpy.int8") then Some I8 else
    if bytes_eq name (codes "numpy.int16") then Some I16 else
    if bytes_eq name (codes "numpy.int32") then Some I32 else
    if bytes_eq name (codes "numpy.int64") then Some I64 else
    if bytes_eq name (codes "numpy.float32") then Some F32 else
    if bytes_eq name (codes "numpy.float64") then Some F64 else None

-- the kind of one of numpy's numbers; Other where the name is none of theirs
abbrev pub scalar_kind : Option Scalar → Kind
scalar_kind None = Other
scalar_kind (Some s) = Number s

-- the case of a type whose flags say none
unfoldable pub kind_named : List ℕ → Kind
kind_named name =
    if bytes_eq name (codes "float") then Float else
    if bytes_eq name (codes "NoneType") then Nothing else scalar_kind (scalar_named name)

-- the case of a type by its flags and its name: the first whose condition holds. Bytes are a text where the
-- layout says so
unfoldable pub kind_of : Bool → ℕ → List ℕ → Kind
kind_of bytes_text flags name =
    if bit_is_set flags 23 then Small else
    if bit_is_set flags 24 then Long else
    if bit_is_set flags 28 then Text else
    if bytes_text && bit_is_set flags 27 then Text else
    if bit_is_set flags 29 then Dict else
    if bit_is_set flags 25 then ListKind else
    if bit_is_set flags 26 then Tuple else kind_named name
