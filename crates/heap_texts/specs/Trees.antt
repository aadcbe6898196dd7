-- The JSON of the heaps of a process. The keys of an object stand in the order of their bytes.
use Rattle.std.specs.Prelude.{ℕ, ◌-◌, ◌++◌, Bool, false, List, [], ◌∷◌, drop, length, map, take, Option, Some, None}
use Rattle.std.specs.Prelude.{codes}
use Rattle.std.specs.Fmt.{digits}
use Rattle.serde_json.specs.Data.{Data, array, boolean, member, no_members, null, number, object, string, unsigned}
use Rattle.serde_json.specs.View.{items_of}
use Rattle.exception_texts.specs.Text.{known_class}
use Rattle.gc_lists.specs.declared.turn.ListEnd.{ListEnd}
use Rattle.gc_lists.specs.declared.turn.ListEnd.TheVariants.{Whole, Torn, Unreadable, Cut}
use Rattle.py_exceptions.specs.declared.name.ClassName.{ClassName}
use Rattle.py_census.specs.declared.large.LargeObject.{LargeObject}
use Rattle.py_census.specs.declared.large.Largest.{Largest}
use Rattle.heap_texts.specs.Text.{most_largest}
use Rattle.py_heap.specs.declared.heap.Generation.{Generation}
use Rattle.py_heap.specs.declared.heap.Heap.{Heap}
use Rattle.py_heap.specs.declared.heap.HeapClass.{HeapClass}
use Rattle.py_heap.specs.declared.heap.HeapTold.{HeapTold}
use Rattle.py_heap.specs.declared.heap.HeapTold.TheVariants.{NoLists, Counted}
use Rattle.py_heap.specs.declared.heap.Heaps.{Heaps}
use Rattle.py_heap.specs.declared.heap.Heaps.TheVariants.{NotDescribed, OfRuntime, OfInterpreters}
use Rattle.py_heap.specs.declared.heap.InterpreterHeap.{InterpreterHeap}

-- an address: `0x` and lower-case hexadecimal digits
abbrev pub address_text : ℕ → List ℕ
address_text n = codes "0x" ++ digits 16 false n

-- a JSON object of an address and a kind
abbrev pub place_tree : List ℕ → ℕ → Data
place_tree kind a = object (
    member (codes "address") (string (address_text a)) (
    member (codes "kind") (string kind) no_members))

-- how a list ends
abbrev pub end_tree : ListEnd → Data
end_tree Whole = object (member (codes "kind") (string (codes "whole")) no_members)
end_tree (Torn a) = place_tree (codes "torn") a
end_tree (Unreadable a) = place_tree (codes "unreadable") a
end_tree (Cut a) = place_tree (codes "cut") a

-- one of the collector's lists as JSON: how many objects it has, and how it ends
abbrev pub list_tree : Generation → Data
list_tree g = object (
    member (codes "end") (end_tree g.end) (
    member (codes "objects") (number (unsigned g.objects)) no_members))

-- the collector's three generations and the permanent one, as JSON
abbrev pub lists_tree : Heap → Data
lists_tree h = object (
    member (codes "middle") (list_tree h.middle) (
    member (codes "oldest") (list_tree h.oldest) (
    member (codes "permanent") (list_tree h.permanent) (
    member (codes "youngest") (list_tree h.youngest) no_members))))

-- a class's name as JSON; null where it can't be read
abbrev pub name_tree : Option ClassName → Data
name_tree None = null
name_tree (Some name) = string (known_class name)

-- an object with its bytes
abbrev pub large_tree : LargeObject → Data
large_tree large = object (
    member (codes "address") (string (address_text large.object)) (
    member (codes "bytes") (number (unsigned large.bytes)) no_members))

-- an object with its bytes as JSON, where there is one
abbrev pub large_trees : Option LargeObject → List Data
large_trees None = []
large_trees (Some large) = large_tree large ∷ []

-- the largest objects of a class
abbrev pub largest_tree : Largest → Data
largest_tree l = array (items_of (large_trees l.first ++ (large_trees l.second ++ large_trees l.third)))

-- a class with what is told of its largest objects
abbrev pub class_with : HeapClass → (largest : Data) → Data
class_with c largest = object (
    member (codes "address") (string (address_text c.counted.class)) (
    member (codes "bytes") (number (unsigned c.counted.bytes)) (
    member (codes "largest") largest (
    member (codes "more") (number (unsigned c.counted.more)) (
    member (codes "name") (name_tree c.name) (
    member (codes "objects") (number (unsigned c.counted.objects)) (
    member (codes "unknown") (number (unsigned c.counted.unknown)) (
    member (codes "unread") (number (unsigned c.counted.unread)) no_members))))))))

-- a class as JSON, with its largest objects
abbrev pub whole_tree : HeapClass → Data
whole_tree c = class_with c (largest_tree c.counted.largest)

-- a class as JSON, with null for its largest objects
abbrev pub class_tree : HeapClass → Data
class_tree c = class_with c null

-- classes, the first ten with their largest objects
abbrev pub classes_tree : List HeapClass → Data
classes_tree classes = array (items_of (map (λ c. whole_tree c) (take most_largest classes)
    ++ map (λ c. class_tree c) (drop most_largest classes)))

-- whether a collection runs, as JSON; null where it isn't known
abbrev pub collecting_tree : Option Bool → Data
collecting_tree None = null
collecting_tree (Some collecting) = boolean collecting

-- how many classes are told
abbrev pub most_classes : ℕ
most_classes = 2048

-- a heap as JSON, of an interpreter or of the runtime
abbrev pub heap_tree : Data → Heap → Data
heap_tree owner h = object (
    member (codes "classes") (classes_tree (take most_classes h.classes.items)) (
    member (codes "collecting") (collecting_tree h.collecting) (
    member (codes "interpreter") owner (
    member (codes "kind") (string (codes "heap")) (
    member (codes "lists") (lists_tree h) (
    member (codes "more_classes") (number (unsigned (length h.classes.items - most_classes))) (
    member (codes "sets") (boolean h.sets) (
    member (codes "unreadable") (number (unsigned h.unreadable)) no_members))))))))

-- a JSON object of an interpreter and a kind, where no heap is told
abbrev pub word_tree : Data → List ℕ → Data
word_tree owner kind = object (
    member (codes "interpreter") owner (
    member (codes "kind") (string kind) no_members))

-- the address of an interpreter, or null of the runtime
abbrev pub owner_tree : Option ℕ → Data
owner_tree None = null
owner_tree (Some address) = string (address_text address)

-- what is told of the lists of an interpreter, or of the runtime, as JSON
abbrev pub told_tree : Option ℕ → HeapTold → Data
told_tree owner (NoLists head) = word_tree (owner_tree owner) (codes "no lists")
told_tree owner (Counted h) = heap_tree (owner_tree owner) h

-- an interpreter's heap as JSON
abbrev pub interpreter_tree : InterpreterHeap → Data
interpreter_tree i = told_tree (Some i.interpreter) i.told

-- the heaps of all interpreters shown, as a JSON array
abbrev pub interpreters_tree : List InterpreterHeap → Data
interpreters_tree heaps = array (items_of (map (λ i. interpreter_tree i) heaps))

-- the runtime's heap as JSON, or that no symbol tells where that is
abbrev pub own_tree : Option HeapTold → Data
own_tree (Some told) = told_tree None told
own_tree None = word_tree null (codes "no runtime")

-- a JSON array of the runtime's heap alone
abbrev pub runtime_tree : Option HeapTold → Data
runtime_tree told = array (items_of (own_tree told ∷ []))

-- a process's heaps as JSON; null where they are not described for its version
abbrev pub heaps_tree : Heaps → Data
heaps_tree NotDescribed = null
heaps_tree (OfRuntime told) = runtime_tree told
heaps_tree (OfInterpreters heaps) = interpreters_tree heaps.items
