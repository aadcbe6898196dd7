-- The names of the classes of a census. That those of the first 2,048 are read is this project's rule.
use Rattle.std.specs.Prelude.{ℕ, ◌*◌, ◌++◌, List, drop, map, take, None}
use Rattle.process_memory.specs.Memory.{Memory}
use Rattle.py_fields.specs.declared.layout.Layout.{Layout}
use Rattle.py_census.specs.declared.census.CountedClass.{CountedClass}
use Rattle.py_exceptions.specs.ClassNames.{class_at}
use Rattle.py_exceptions.specs.declared.name.ClassPlaces.{ClassPlaces}
use Rattle.py_heap.specs.declared.heap.HeapClass.{HeapClass}

-- of how many classes the name is read
abbrev pub most_names : ℕ
most_names = 2048

-- the reads of so many names
abbrev pub names_reads : ℕ
names_reads = 16393 * most_names

-- a class with its name
abbrev pub named_at : Layout → ClassPlaces → Memory → CountedClass → HeapClass
named_at l p m c = record { counted = c; name = class_at l p m c.class }

-- a class's count without its name
abbrev pub unnamed : CountedClass → HeapClass
unnamed c = record { counted = c; name = None }

-- classes with the names of the first ones
abbrev pub named_classes : Layout → ClassPlaces → Memory → List CountedClass → List HeapClass
named_classes l p m classes = map (named_at l p m) (take most_names classes) ++ map unnamed (drop most_names classes)
