-- Other frameworks than asyncio that have tasks of their own, which are not read: greenlets (the package greenlet, on
-- which gevent stands), trio and curio. An interpreter has one where its dict of modules (`sys.modules`) has an entry
-- of that name. How many slots are looked at is this project's rule.
use Rattle.std.specs.Prelude.{ℕ, ◌+◌, Bool, true, false, Option, Some, None, List, [], length, get_or, bytes_eq, codes}
use Rattle.std.specs.Prelude.{encode_utf8_all, nat_eq, Ok, if◌then◌else◌}
use Rattle.std.specs.List.{list_any}
use Rattle.process_memory.specs.Memory.{Memory, Found, ◌>>=◌, word_at}
use Rattle.py_fields.specs.declared.layout.Layout.{Layout}
use Rattle.py_builtins.specs.Texts.{text_at}
use Rattle.instance_dicts.specs.Attributes.{dict_attributes_at}
use Rattle.instance_dicts.specs.declared.attributes.Attribute.{Attribute}
use Rattle.instance_dicts.specs.declared.forms.DictForm.TheVariants.{Pointer}
use Rattle.instance_dicts.specs.declared.forms.InstanceDict.TheVariants.{Dict}
use Rattle.task_sets.specs.Gathered.{gathered}
use Rattle.task_sets.specs.Named.{no_attribute}
use Rattle.py_tasks.specs.Faults.{found_or_none}
use Rattle.py_tasks.specs.declared.frameworks.Framework.{Framework}
use Rattle.py_tasks.specs.declared.frameworks.Framework.TheVariants.{Curio, Greenlet, Trio}
use Rattle.py_tasks.specs.declared.frameworks.Frameworks.{Frameworks}

-- the framework whose module has a name
abbrev pub framework_named : List ℕ → Option Framework
framework_named name =
    if bytes_eq name (codes "curio") then Some Curio
    else if bytes_eq name (codes "greenlet") then Some Greenlet
    else if bytes_eq name (codes "trio") then Some Trio
    else None

-- the one whose module stands in an entry
unfoldable pub framework_at : Layout → Memory → Attribute → Found (Option Framework)
framework_at l m a = do
  text ← text_at l m a.name
  Ok (framework_named (encode_utf8_all text))

-- an entry whose name can't be read is no framework's
unfoldable pub known_framework_at : Layout → Memory → Attribute → Found (Option Framework)
known_framework_at l m a = Ok (found_or_none (framework_at l m a))

-- the framework of the module at an index of a dict's entries
abbrev pub frameworks_by : Layout → Memory → List Attribute → ℕ → Found (Option Framework)
frameworks_by l m entries number = known_framework_at l m (get_or entries number no_attribute)

-- whether both are the same framework
abbrev pub is_framework : Framework → Framework → Bool
is_framework Curio Curio = true
is_framework Greenlet Greenlet = true
is_framework Trio Trio = true
is_framework _ _ = false

-- whether a framework is in a list
abbrev pub has_framework : Framework → List Framework → Bool
has_framework sought list = list_any (λ own. is_framework own sought) list

-- which frameworks a list has
abbrev pub frameworks_of : List Framework → Frameworks
frameworks_of list = record {
  curio = has_framework Curio list;
  greenlet = has_framework Greenlet list;
  trio = has_framework Trio list;
}

-- those whose modules a dict has
unfoldable pub frameworks_in : Layout → Memory → ℕ → Found (Option Frameworks)
frameworks_in l m modules = do
  told ← dict_attributes_at l m Pointer (Dict modules) 65536
  list ← gathered (frameworks_by l m told.list) (length told.list) 0
  Ok (Some (frameworks_of list))

-- an interpreter without modules has none
abbrev pub by_modules_at : Layout → Memory → ℕ → Found (Option Frameworks)
by_modules_at l m modules = if nat_eq modules 0 then Ok (Some (frameworks_of [])) else frameworks_in l m modules

-- the frameworks that the interpreter at an address has, by its dict of modules
unfoldable pub all_frameworks_at : Layout → Memory → ℕ → Found (Option Frameworks)
all_frameworks_at l m interpreter = do
  modules ← word_at m (interpreter + l.interpreter.modules)
  by_modules_at l m modules

-- those that the interpreter at an address has; none where its dict of modules can't be read
unfoldable pub frameworks_at : Layout → Memory → ℕ → Found (Option Frameworks)
frameworks_at l m interpreter = Ok (found_or_none (all_frameworks_at l m interpreter))
