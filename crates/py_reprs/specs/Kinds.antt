-- How the kind of a value is told: by the address of its type, else by the flags of that (`Py_TPFLAGS_TYPE_SUBCLASS`,
-- bit 31, and its likes, Include/object.h, Include/cpython/object.h), else it is an object of another type. That `bool`
-- is told by its address before the flag of integers is looked at is this project's rule: its objects have that flag.
-- Bit 23 is Python 2's `Py_TPFLAGS_INT_SUBCLASS`, and says nothing of a later one's. Names tell nothing.
use Rattle.std.specs.Prelude.{ℕ, ◌==◌, Bool, true, false, Option, Some, None, if◌then◌else◌}
use Rattle.py_fields.specs.declared.layout.Layout.{Layout}
use Rattle.py_builtins.specs.declared.types.ObjectType.{ObjectType}
use Rattle.py_builtins.specs.Texts.{bit_is_set}
use Rattle.py_reprs.specs.declared.coroutines.CoroutineForm.TheVariants as form
use Rattle.py_reprs.specs.declared.kinds.Kind.{Kind}
use Rattle.py_reprs.specs.declared.kinds.Kind.TheVariants as kind
use Rattle.py_reprs.specs.declared.kinds.ReprTypes.{ReprTypes}

-- whether a layout is one of Python 2
abbrev pub is_python_2 : Layout → Bool
is_python_2 l = l.major == 2

-- a type that is known stands at this address
abbrev pub is_at : Option ℕ → ℕ → Bool
is_at None a = false
is_at (Some t) a = t == a

-- the kind that the flags of a type say
unfoldable pub python_3_kind : ℕ → Kind
python_3_kind flags =
    if bit_is_set flags 31 then kind.Class
    else if bit_is_set flags 24 then kind.Integer
    else if bit_is_set flags 28 then kind.Text
    else if bit_is_set flags 27 then kind.Bytes
    else if bit_is_set flags 25 then kind.List
    else if bit_is_set flags 26 then kind.Tuple
    else if bit_is_set flags 29 then kind.Dict
    else kind.Other

-- the same of Python 2's, whose `unicode` and `dict` have other records than are read here
unfoldable pub python_2_kind : ℕ → Kind
python_2_kind flags =
    if bit_is_set flags 31 then kind.Class
    else if bit_is_set flags 23 then kind.SmallInteger
    else if bit_is_set flags 24 then kind.Integer
    else if bit_is_set flags 27 then kind.Bytes
    else if bit_is_set flags 25 then kind.List
    else if bit_is_set flags 26 then kind.Tuple
    else kind.Other

-- the kind that the flags of a type tell, by the major version (`Py_TPFLAGS_*_SUBCLASS`, Include/object.h)
abbrev pub flagged_kind : Bool → ℕ → Kind
flagged_kind true flags = python_2_kind flags
flagged_kind false flags = python_3_kind flags

-- the kind of objects of the type at an address, among those that can be called or imported; else another one
unfoldable pub called_kind : ReprTypes → ℕ → Kind → Kind
called_kind t a other =
    if is_at t.function a then kind.Function
    else if is_at t.method a then kind.Method
    else if is_at t.builtin a then kind.Builtin
    else if is_at t.module a then kind.Module
    else other

-- the same among those whose functions stop and go on
unfoldable pub paused_kind : ReprTypes → ℕ → Kind → Kind
paused_kind t a other =
    if is_at t.coroutine a then kind.Coroutine form.Coroutine
    else if is_at t.generator a then kind.Coroutine form.Generator
    else if is_at t.async_generator a then kind.Coroutine form.AsyncGenerator
    else other

-- the same among those that hold others or bytes
unfoldable pub holding_kind : ReprTypes → ℕ → Kind → Kind
holding_kind t a other =
    if is_at t.bytearray a then kind.ByteArray
    else if is_at t.set a then kind.Set
    else if is_at t.frozenset a then kind.FrozenSet
    else if is_at t.range a then kind.Range
    else if is_at t.slice a then kind.Slice
    else if is_at t.cell a then kind.Cell
    else other

-- the same among those of one value, and numbers
unfoldable pub single_kind : ReprTypes → ℕ → Kind → Kind
single_kind t a other =
    if is_at t.nothing a then kind.Nothing
    else if is_at t.ellipsis a then kind.Ellipsis
    else if is_at t.not_implemented a then kind.NotImplemented
    else if is_at t.truth a then kind.Truth
    else if is_at t.float a then kind.Float
    else if is_at t.complex a then kind.Complex
    else other

-- the kind of the objects of a type
-- Python 2's sets, ranges and their likes have other records than are read here
abbrev pub held_kind : Bool → ReprTypes → ℕ → Kind → Kind
held_kind true t a other = other
held_kind false t a other = holding_kind t a other

-- the kind of an object, by the address of its type, else by the type's flags
unfoldable pub kind_of : Layout → ReprTypes → ObjectType → Kind
kind_of l t class =
    single_kind t class.at (held_kind (is_python_2 l) t class.at (paused_kind t class.at (called_kind t class.at
    (flagged_kind (is_python_2 l) class.flags))))
