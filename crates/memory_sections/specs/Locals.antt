-- The values of the locals of the frames that are shown.
use Rattle.std.specs.Prelude.{ℕ, min, not, nat_eq, List, Option, Some, None}
use Rattle.process_memory.specs.Memory.{Memory}
use Rattle.py_fields.specs.declared.layout.Layout.{Layout}
use Rattle.py_fronts.specs.declared.salvaged.SalvagedInterpreter.{SalvagedInterpreter}
use Rattle.py_process.specs.Facts.{Known}
use Rattle.py_reprs.specs.declared.attributes.InstanceRule.{InstanceRule}
use Rattle.py_reprs.specs.declared.coroutines.CoroutineRule.{CoroutineRule}
use Rattle.py_reprs.specs.declared.kinds.ReprTypes.{ReprTypes}
use Rattle.thread_names.specs.declared.own.DictRule.{DictRule}
use Rattle.repr_types.specs.Symbols.{repr_types_at}
use Rattle.local_values.specs.Values.{AreLocalValues}
use Rattle.local_values.specs.declared.values.LocalValues.{LocalValues}
use Rattle.memory_sections.specs.Each.{ToldIf}

-- by how many `-l` values are shown
abbrev pub levels_of : ℕ → ℕ
levels_of times = min times 5

-- by what the attributes of instances are found, by the rule of their dicts
abbrev pub instances_of : Option DictRule → Option InstanceRule
instances_of None = None
instances_of (Some rule) = Some (record { fields = rule.fields; form = rule.form })

-- the same types, with by what attributes are found, and names and states of coroutines
abbrev pub with_rules : ReprTypes → Option InstanceRule → Option CoroutineRule → ReprTypes
with_rules t instances coroutines = record {
  nothing = t.nothing;
  ellipsis = t.ellipsis;
  not_implemented = t.not_implemented;
  truth = t.truth;
  float = t.float;
  complex = t.complex;
  bytearray = t.bytearray;
  set = t.set;
  frozenset = t.frozenset;
  range = t.range;
  slice = t.slice;
  cell = t.cell;
  function = t.function;
  method = t.method;
  builtin = t.builtin;
  «module» = t.module;
  coroutine = t.coroutine;
  generator = t.generator;
  async_generator = t.async_generator;
  instances = instances;
  coroutines = coroutines;
}

-- by what values are told: the types that the symbols of the process's images name, the rule of instances' dicts and
-- that of coroutines
abbrev pub types_told : Option DictRule → Option CoroutineRule → Known → Layout → Memory → ReprTypes
types_told rule coroutines k l m = with_rules (repr_types_at k l m) (instances_of rule) coroutines

-- the values of memory
abbrev pub ValuesAre : (times : ℕ) → Known → Layout → Option DictRule → Option CoroutineRule → Memory
    → List SalvagedInterpreter → Option LocalValues → Type 0
ValuesAre times k l rule coroutines m is told =
    ToldIf (not (nat_eq times 0)) (AreLocalValues l (types_told rule coroutines k l m) (levels_of times) m is) told
