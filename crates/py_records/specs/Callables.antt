-- Functions, methods, modules, and what they hold on to; when the groups of these are sound, and what a table
-- says of them. From the structs of CPython that the groups' docs name; the form of the file is this project's
-- own.
use Rattle.std.specs.Prelude.{Bool, List, [], ◌∷◌, None, IfSome, is_some, option_map, codes}
use Rattle.std.specs.Option.{option_or}
use Rattle.toml.specs.Data.{Members}
use Rattle.py_layout.specs.Values.{group_at, number_at}
use Rattle.py_fields.specs.Places.{Place}
use Rattle.py_fields.specs.Sound.{IsRecord}
use Rattle.py_records.specs.Places.{any_both}
use Rattle.py_records.specs.declared.callables.PartialRecord.{PartialRecord}
use Rattle.py_records.specs.declared.callables.ModuleObjectRecord.{ModuleObjectRecord}
use Rattle.py_records.specs.declared.callables.FunctionRecord.{FunctionRecord}
use Rattle.py_records.specs.declared.callables.MethodRecord.{MethodRecord}
use Rattle.py_records.specs.declared.callables.BuiltinRecord.{BuiltinRecord}
use Rattle.py_records.specs.declared.callables.MethodDefRecord.{MethodDefRecord}
use Rattle.py_records.specs.declared.callables.CellRecord.{CellRecord}
use Rattle.py_records.specs.declared.callables.WeakrefRecord.{WeakrefRecord}
use Rattle.py_records.specs.declared.callables.CallableRecords.{CallableRecords}

-- offsets and widths, in bytes, in a `partialobject`: `fn`, `args`, `kw`
unfoldable pub partial_places : PartialRecord → List Place
partial_places r = (r.function, 8) ∷ (r.args, 8) ∷ (r.keywords, 8) ∷ []

-- a `partialobject`: its fields stand inside its size, of 1 to 65535 bytes, and no two meet
abbrev pub IsSoundPartial : PartialRecord → Type 0
IsSoundPartial r = IsRecord r.size (partial_places r)

-- offsets and widths, in bytes, in a `PyModuleObject`: `md_dict`, `md_name`
unfoldable pub module_object_places : ModuleObjectRecord → List Place
module_object_places r = (r.dict, 8) ∷ (r.name, 8) ∷ []

-- a `PyModuleObject`: its fields stand inside its size, of 1 to 65535 bytes, and no two meet
abbrev pub IsSoundModuleObject : ModuleObjectRecord → Type 0
IsSoundModuleObject r = IsRecord r.size (module_object_places r)

-- offsets and widths, in bytes, in a `PyFunctionObject`: `func_code`, `func_globals` and the like
unfoldable pub function_places : FunctionRecord → List Place
function_places r = (r.code, 8) ∷ (r.globals, 8) ∷ (r.name, 8) ∷ (r.qualname, 8) ∷ (r.closure, 8) ∷ (r.dict, 8)
    ∷ (r.home, 8) ∷ []

-- a `PyFunctionObject`: its fields stand inside its size, of 1 to 65535 bytes, and no two meet
abbrev pub IsSoundFunction : FunctionRecord → Type 0
IsSoundFunction r = IsRecord r.size (function_places r)

-- offsets and widths, in bytes, in a `PyMethodObject`: `im_func`, `im_self`
unfoldable pub method_places : MethodRecord → List Place
method_places r = (r.function, 8) ∷ (r.receiver, 8) ∷ []

-- a `PyMethodObject`: its fields stand inside its size, of 1 to 65535 bytes, and no two meet
abbrev pub IsSoundMethod : MethodRecord → Type 0
IsSoundMethod r = IsRecord r.size (method_places r)

-- offsets and widths, in bytes, in a `PyCFunctionObject`: `m_ml`, `m_self`, `m_module`
unfoldable pub builtin_places : BuiltinRecord → List Place
builtin_places r = (r.definition, 8) ∷ (r.receiver, 8) ∷ (r.home, 8) ∷ []

-- a `PyCFunctionObject`: its fields stand inside its size, of 1 to 65535 bytes, and no two meet
abbrev pub IsSoundBuiltin : BuiltinRecord → Type 0
IsSoundBuiltin r = IsRecord r.size (builtin_places r)

-- offset and width, in bytes, of `ml_name` in a `PyMethodDef`
unfoldable pub method_def_places : MethodDefRecord → List Place
method_def_places r = (r.name, 8) ∷ []

-- a `PyMethodDef`: its field stands inside its size, of 1 to 65535 bytes
abbrev pub IsSoundMethodDef : MethodDefRecord → Type 0
IsSoundMethodDef r = IsRecord r.size (method_def_places r)

-- offset and width, in bytes, of `ob_ref` in a `PyCellObject`
unfoldable pub cell_places : CellRecord → List Place
cell_places r = (r.value, 8) ∷ []

-- a `PyCellObject`: its field stands inside its size, of 1 to 65535 bytes
abbrev pub IsSoundCell : CellRecord → Type 0
IsSoundCell r = IsRecord r.size (cell_places r)

-- offsets and widths, in bytes, in a `PyWeakReference`: `wr_object`, `wr_callback`
unfoldable pub weakref_places : WeakrefRecord → List Place
weakref_places r = (r.object, 8) ∷ (r.callback, 8) ∷ []

-- a `PyWeakReference`: its fields stand inside its size, of 1 to 65535 bytes, and no two meet
abbrev pub IsSoundWeakref : WeakrefRecord → Type 0
IsSoundWeakref r = IsRecord r.size (weakref_places r)

-- each group of functions, methods, modules, cells and weak references that is there is sound
pub record AreSoundCallables (r : CallableRecords) : Type 0 where
  pub partial : IfSome r.partial IsSoundPartial
  pub module_object : IfSome r.module_object IsSoundModuleObject
  pub function : IfSome r.function IsSoundFunction
  pub method : IfSome r.method IsSoundMethod
  pub builtin : IfSome r.builtin IsSoundBuiltin
  pub method_def : IfSome r.method_def IsSoundMethodDef
  pub cell : IfSome r.cell IsSoundCell
  pub weakref : IfSome r.weakref IsSoundWeakref

-- the group `partial`: size and field offsets of a `partialobject` (Modules/_functoolsmodule.c)
abbrev pub partial_in : Members → PartialRecord
partial_in ms = record {
  size = number_at ms None (codes "size");
  function = number_at ms None (codes "function");
  args = number_at ms None (codes "args");
  keywords = number_at ms None (codes "keywords");
}

-- the group `module`: size and field offsets of a `PyModuleObject` (Include/internal/pycore_moduleobject.h)
abbrev pub module_object_in : Members → ModuleObjectRecord
module_object_in ms = record {
  size = number_at ms None (codes "size");
  dict = number_at ms None (codes "dict");
  name = number_at ms None (codes "name");
}

-- the group `function`: size and field offsets of a `PyFunctionObject` (Include/funcobject.h)
abbrev pub function_in : Members → FunctionRecord
function_in ms = record {
  size = number_at ms None (codes "size");
  code = number_at ms None (codes "code");
  globals = number_at ms None (codes "globals");
  name = number_at ms None (codes "name");
  qualname = number_at ms None (codes "qualname");
  closure = number_at ms None (codes "closure");
  dict = number_at ms None (codes "dict");
  home = number_at ms None (codes "module");
}

-- the group `method`: size and field offsets of a `PyMethodObject` (Include/classobject.h)
abbrev pub method_in : Members → MethodRecord
method_in ms = record {
  size = number_at ms None (codes "size");
  function = number_at ms None (codes "function");
  receiver = number_at ms None (codes "self");
}

-- the group `builtin`: size and field offsets of a `PyCFunctionObject` (Include/methodobject.h)
abbrev pub builtin_in : Members → BuiltinRecord
builtin_in ms = record {
  size = number_at ms None (codes "size");
  definition = number_at ms None (codes "def");
  receiver = number_at ms None (codes "self");
  home = number_at ms None (codes "module");
}

-- the group `method_def`: size and the field's offset of a `PyMethodDef` (Include/methodobject.h)
abbrev pub method_def_in : Members → MethodDefRecord
method_def_in ms = record {
  size = number_at ms None (codes "size");
  name = number_at ms None (codes "name");
}

-- the group `cell`: size and the field's offset of a `PyCellObject` (Include/cellobject.h)
abbrev pub cell_in : Members → CellRecord
cell_in ms = record {
  size = number_at ms None (codes "size");
  value = number_at ms None (codes "value");
}

-- the group `weakref`: size and field offsets of a `PyWeakReference` (Include/weakrefobject.h)
abbrev pub weakref_in : Members → WeakrefRecord
weakref_in ms = record {
  size = number_at ms None (codes "size");
  object = number_at ms None (codes "object");
  callback = number_at ms None (codes "callback");
}

-- the groups of functions, methods, modules, cells and weak references that a table has
unfoldable pub callables_from : Members → CallableRecords
callables_from ms = record {
  partial = option_map partial_in (group_at ms (codes "partial"));
  module_object = option_map module_object_in (group_at ms (codes "module"));
  function = option_map function_in (group_at ms (codes "function"));
  method = option_map method_in (group_at ms (codes "method"));
  builtin = option_map builtin_in (group_at ms (codes "builtin"));
  method_def = option_map method_def_in (group_at ms (codes "method_def"));
  cell = option_map cell_in (group_at ms (codes "cell"));
  weakref = option_map weakref_in (group_at ms (codes "weakref"));
}

-- no group is there
abbrev pub no_callables : CallableRecords
no_callables = record {
  partial = None;
  module_object = None;
  function = None;
  method = None;
  builtin = None;
  method_def = None;
  cell = None;
  weakref = None;
}

-- each group of the first that is there, and else of the second
unfoldable pub joined_callables : CallableRecords → CallableRecords → CallableRecords
joined_callables a b = record {
  partial = option_or a.partial b.partial;
  module_object = option_or a.module_object b.module_object;
  function = option_or a.function b.function;
  method = option_or a.method b.method;
  builtin = option_or a.builtin b.builtin;
  method_def = option_or a.method_def b.method_def;
  cell = option_or a.cell b.cell;
  weakref = option_or a.weakref b.weakref;
}

-- whether a group is there in both
unfoldable pub share_callables : CallableRecords → CallableRecords → Bool
share_callables a b = any_both (is_some a.partial ∷ is_some a.module_object ∷ is_some a.function ∷ is_some a.method
    ∷ is_some a.builtin ∷ is_some a.method_def ∷ is_some a.cell ∷ is_some a.weakref ∷ [])
    (is_some b.partial ∷ is_some b.module_object ∷ is_some b.function ∷ is_some b.method ∷ is_some b.builtin
    ∷ is_some b.method_def ∷ is_some b.cell ∷ is_some b.weakref ∷ [])
