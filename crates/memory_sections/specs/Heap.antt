-- What the heap of each interpreter that is shown holds; up to 3.8 the runtime has the lists of all interpreters.
use Rattle.std.specs.Prelude.{◌≡◌, ℕ, Bool, List, [], ◌∷◌, map, Option, Some, None, codes}
use Rattle.process_memory.specs.Memory.{Memory}
use Rattle.py_fields.specs.declared.layout.Layout.{Layout}
use Rattle.py_fields.specs.declared.version.Version.{Version}
use Rattle.py_process.specs.Facts.{Known, symbol_known}
use Rattle.py_records.specs.declared.records.Records.{Records}
use Rattle.py_fronts.specs.declared.salvaged.SalvagedInterpreter.{SalvagedInterpreter}
use Rattle.py_census.specs.declared.places.SetClasses.{SetClasses}
use Rattle.gc_lists.specs.declared.places.Home.{Home}
use Rattle.gc_lists.specs.declared.places.Home.TheVariants.{Runtime, Interpreter}
use Rattle.py_heap.specs.Heaps.{IsHeapAt}
use Rattle.py_heap.specs.Places.{heap_places}
use Rattle.py_heap.specs.declared.heap.HeapTold.{HeapTold}
use Rattle.py_heap.specs.declared.heap.Heaps.{Heaps}
use Rattle.py_heap.specs.declared.heap.Heaps.TheVariants.{NotDescribed, OfRuntime, OfInterpreters}
use Rattle.py_heap.specs.declared.heap.InterpreterHeap.{InterpreterHeap}
use Rattle.py_heap.specs.declared.places.HeapPlaces.{HeapPlaces}
use Rattle.memory_sections.specs.Each.{EachTold, ToldIf}

-- the address of an interpreter
abbrev pub address_of : SalvagedInterpreter → ℕ
address_of i = i.front.address

-- the heap of the record at an address, where one is known
abbrev pub IsHeapIf : Layout → HeapPlaces → Memory → Option ℕ → Option HeapTold → Type 0
IsHeapIf l p m None told = told ≡ None
IsHeapIf l p m (Some a) None = ⊥
IsHeapIf l p m (Some a) (Some told) = IsHeapAt l p (a ∷ []) m a told

-- that of the runtime, whose record the symbol `_PyRuntime` names
abbrev pub IsRuntimeHeap : Known → Layout → HeapPlaces → Memory → Option HeapTold → Type 0
IsRuntimeHeap k l p m told = IsHeapIf l p m (symbol_known k (codes "_PyRuntime")) told

-- that of an interpreter; a list is torn at the heads of the lists of any that is shown
pub record IsHeapOf (l : Layout) (p : HeapPlaces) (bases : List ℕ) (m : Memory) (i : SalvagedInterpreter)
    (told : InterpreterHeap) : Type 0 where
  pub interpreter_is : told.interpreter ≡ i.front.address
  pub is : IsHeapAt l p bases m i.front.address told.told

-- the heap of the runtime (up to 3.8), or one of each interpreter (from 3.9 on)
abbrev pub AreHeapsBy : Known → Layout → HeapPlaces → Memory → List SalvagedInterpreter → Home → Heaps → Type 0
AreHeapsBy k l p m is Runtime NotDescribed = ⊥
AreHeapsBy k l p m is Runtime (OfRuntime told) = IsRuntimeHeap k l p m told
AreHeapsBy k l p m is Runtime (OfInterpreters told) = ⊥
AreHeapsBy k l p m is Interpreter NotDescribed = ⊥
AreHeapsBy k l p m is Interpreter (OfRuntime told) = ⊥
AreHeapsBy k l p m is Interpreter (OfInterpreters told) = EachTold (IsHeapOf l p (map address_of is) m) is told.items

-- the types `set` and `frozenset`, where both addresses are known
abbrev pub classes_by : (set frozenset : Option ℕ) → Option SetClasses
classes_by None frozenset = None
classes_by (Some set) None = None
classes_by (Some set) (Some frozenset) = Some (record { set = set; frozenset = frozenset })

-- the classes of sets of a process, where symbols tell both
abbrev pub set_classes : Known → Option SetClasses
set_classes k = classes_by (symbol_known k (codes "PySet_Type")) (symbol_known k (codes "PyFrozenSet_Type"))

-- the heaps, where the records tell where the collector's lists stand
abbrev pub AreHeapsIf : Known → Layout → Option HeapPlaces → Memory → List SalvagedInterpreter → Heaps → Type 0
AreHeapsIf k l None m is told = told ≡ NotDescribed
AreHeapsIf k l (Some p) m is told = AreHeapsBy k l p m is p.lists.home told

-- the heaps of a process, by the places that the tables and the records have for its version, and by its classes of
-- sets
abbrev pub AreHeaps : Known → Version → Layout → Records → Memory → List SalvagedInterpreter → Heaps → Type 0
AreHeaps k v l r m is told = AreHeapsIf k l (heap_places v l r (set_classes k)) m is told

-- what fills the heap, exactly where it is asked for
abbrev pub HeapIs : Bool → Known → Version → Layout → Records → Memory → List SalvagedInterpreter → Option Heaps
    → Type 0
HeapIs asked k v l r m is told = ToldIf asked (AreHeaps k v l r m is) told
