-- The lines of the heaps of a process.
use Rattle.std.specs.Prelude.{ℕ, ◌++◌, false, List, drop, length, map, take, Option, Some, None, codes}
use Rattle.std.specs.Fmt.{digits}
use Rattle.std.specs.List.{concat}
use Rattle.py_heap.specs.declared.heap.Heap.{Heap}
use Rattle.py_heap.specs.declared.heap.HeapClass.{HeapClass}
use Rattle.py_heap.specs.declared.heap.HeapTold.{HeapTold}
use Rattle.py_heap.specs.declared.heap.HeapTold.TheVariants.{NoLists, Counted}
use Rattle.py_heap.specs.declared.heap.Heaps.{Heaps}
use Rattle.py_heap.specs.declared.heap.Heaps.TheVariants.{NotDescribed, OfRuntime, OfInterpreters}
use Rattle.py_heap.specs.declared.heap.InterpreterHeap.{InterpreterHeap}
use Rattle.heap_texts.specs.Lines.{class_line, collecting_line, counts_text, lead_text, list_line, lost_line, rest_line}
use Rattle.heap_texts.specs.Lines.{largest_line, sets_line}

-- how many classes have a line
abbrev pub most_lines : ℕ
most_lines = 40

-- how the lists end that don't end as whole ones do
abbrev pub lists_text : Heap → List ℕ
lists_text h = list_line (codes "generation 0") h.youngest.end ++ (list_line (codes "generation 1") h.middle.end
    ++ (list_line (codes "generation 2") h.oldest.end
    ++ list_line (codes "the permanent generation") h.permanent.end))

-- the lines of classes, without their largest objects
abbrev pub classes_text : List HeapClass → List ℕ
classes_text classes = concat (map (λ c. class_line c) classes)

-- a class with its largest objects
abbrev pub whole_text : HeapClass → List ℕ
whole_text c = class_line c ++ largest_line c.counted.largest

-- the lines of classes, each with its largest objects
abbrev pub wholes_text : List HeapClass → List ℕ
wholes_text classes = concat (map (λ c. whole_text c) classes)

-- of how many classes the largest objects are told
abbrev pub most_largest : ℕ
most_largest = 10

-- the lines of classes, the first ten with their largest objects
abbrev pub table_text : List HeapClass → List ℕ
table_text classes = wholes_text (take most_largest classes) ++ classes_text (drop most_largest classes)

-- the lines of a heap: its lists, what is missing, and at most 40 classes
abbrev pub heap_text : Heap → List ℕ
heap_text h = counts_text h ++ (sets_line h.sets ++ (collecting_line h.collecting ++ (lists_text h
    ++ (lost_line h.unreadable
    ++ (table_text (take most_lines h.classes.items) ++ rest_line (length h.classes.items))))))

-- the end of the line that says that no list stands where it is looked for
abbrev pub none_line : (head : ℕ) → List ℕ
none_line head = codes "no list at 0x" ++ (digits 16 false head ++ codes "\n")

-- what is told of a heap, behind the words that say whose it is
abbrev pub told_lines : HeapTold → List ℕ
told_lines (NoLists head) = none_line head
told_lines (Counted h) = heap_text h

-- what is told of the lists of an interpreter, or of the runtime
abbrev pub told_text : Option ℕ → HeapTold → List ℕ
told_text owner told = lead_text owner ++ told_lines told

-- the lines of an interpreter's heap
abbrev pub interpreter_text : InterpreterHeap → List ℕ
interpreter_text i = told_text (Some i.interpreter) i.told

-- the lines of the heaps of all interpreters shown, in order
abbrev pub interpreters_text : List InterpreterHeap → List ℕ
interpreters_text heaps = concat (map (λ i. interpreter_text i) heaps)

-- the lines of the runtime's heap, or that no symbol tells where that is
abbrev pub runtime_text : Option HeapTold → List ℕ
runtime_text (Some told) = told_text None told
runtime_text None = codes "Heap of the runtime: no symbol tells where it is\n"

-- the lines of a process's heaps: of the runtime up to 3.8, of each interpreter from 3.9 on
abbrev pub heaps_text : Heaps → List ℕ
heaps_text NotDescribed = codes "Heap: not described for this version\n"
heaps_text (OfRuntime told) = runtime_text told
heaps_text (OfInterpreters heaps) = interpreters_text heaps.items
