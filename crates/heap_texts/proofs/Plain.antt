-- The tree of heaps has no float.
use Rattle.std.proofs.Common.{◌≡◌, ℕ, Bool, false, List, [], ◌∷◌, Option, Some, None, refl, ap, ◌∙◌}
use Rattle.std.specs.Prelude.{◌||◌, ◌++◌, drop, map, take}
use Rattle.serde_json.specs.Data.{Data, array, null}
use Rattle.serde_json.specs.View.{items_of}
use Rattle.serde_json.specs.Written.{has_float}
use Rattle.gc_lists.specs.declared.turn.ListEnd.{ListEnd}
use Rattle.gc_lists.specs.declared.turn.ListEnd.TheVariants.{Whole, Torn, Unreadable, Cut}
use Rattle.py_census.specs.declared.large.LargeObject.{LargeObject}
use Rattle.py_census.specs.declared.large.Largest.{Largest}
use Rattle.py_exceptions.specs.declared.name.ClassName.{ClassName}
use Rattle.py_heap.specs.declared.heap.Generation.{Generation}
use Rattle.py_heap.specs.declared.heap.Heap.{Heap}
use Rattle.py_heap.specs.declared.heap.HeapClass.{HeapClass}
use Rattle.py_heap.specs.declared.heap.HeapTold.{HeapTold}
use Rattle.py_heap.specs.declared.heap.HeapTold.TheVariants.{NoLists, Counted}
use Rattle.py_heap.specs.declared.heap.Heaps.{Heaps}
use Rattle.py_heap.specs.declared.heap.Heaps.TheVariants.{NotDescribed, OfRuntime, OfInterpreters}
use Rattle.py_heap.specs.declared.heap.InterpreterHeap.{InterpreterHeap}
use Rattle.heap_texts.specs.Trees.{class_tree, classes_tree, collecting_tree, end_tree, heap_tree, heaps_tree}
use Rattle.heap_texts.specs.Trees.{interpreters_tree, list_tree, lists_tree, name_tree, owner_tree}
use Rattle.heap_texts.specs.Text.{most_largest}
use Rattle.heap_texts.specs.Trees.{class_with, large_trees, largest_tree, most_classes, own_tree, told_tree, whole_tree}

end : (e : ListEnd) → has_float (end_tree e) ≡ false
end Whole = refl
end (Torn a) = refl
end (Unreadable a) = refl
end (Cut a) = refl

list : (g : Generation) → has_float (list_tree g) ≡ false
list g = λ i. end g.end i || (false || false)

lists : (h : Heap) → has_float (lists_tree h) ≡ false
lists h = λ i. list h.middle i || (list h.oldest i || (list h.permanent i || (list h.youngest i || false)))

name : (n : Option ClassName) → has_float (name_tree n) ≡ false
name None = refl
name (Some n) = refl

large : (l : Option LargeObject) (ds : List Data) → has_float (array (items_of ds)) ≡ false
    → has_float (array (items_of (large_trees l ++ ds))) ≡ false
large None ds h = h
large (Some l) ds h = h

largest : (l : Largest) → has_float (largest_tree l) ≡ false
largest l = large l.first (large_trees l.second ++ large_trees l.third) (large l.second (large_trees l.third)
    (last l.third))
  where
    last : (l : Option LargeObject) → has_float (array (items_of (large_trees l))) ≡ false
    last None = refl
    last (Some l) = refl

with_it : (c : HeapClass) (d : Data) → has_float d ≡ false → has_float (class_with c d) ≡ false
with_it c d h = λ i. false || (false || (h i || (false || (name c.name i || (false || (false || (false || false)))))))

each : (f : HeapClass → Data) (cs : List HeapClass) (ds : List Data) → ((c : HeapClass) → has_float (f c) ≡ false)
    → has_float (array (items_of ds)) ≡ false → has_float (array (items_of (map f cs ++ ds))) ≡ false
each f [] ds is h = h
each f (c ∷ cs) ds is h = ap (λ b. b || has_float (array (items_of (map f cs ++ ds)))) (is c) ∙ each f cs ds is h

all : (f : HeapClass → Data) (cs : List HeapClass) → ((c : HeapClass) → has_float (f c) ≡ false)
    → has_float (array (items_of (map f cs))) ≡ false
all f [] is = refl
all f (c ∷ cs) is = ap (λ b. b || has_float (array (items_of (map f cs)))) (is c) ∙ all f cs is

classes : (cs : List HeapClass) → has_float (classes_tree cs) ≡ false
classes cs = each (λ c. whole_tree c) (take most_largest cs) (map (λ c. class_tree c) (drop most_largest cs))
    (λ c. with_it c (largest_tree c.counted.largest) (largest c.counted.largest))
    (all (λ c. class_tree c) (drop most_largest cs) (λ c. with_it c null refl))

collecting : (c : Option Bool) → has_float (collecting_tree c) ≡ false
collecting None = refl
collecting (Some c) = refl

owner : (o : Option ℕ) → has_float (owner_tree o) ≡ false
owner None = refl
owner (Some o) = refl

heap : (o : Option ℕ) (h : Heap) → has_float (heap_tree (owner_tree o) h) ≡ false
heap o h = λ i. classes (take most_classes h.classes.items) i || (collecting h.collecting i || (owner o i || (false
    || (lists h i || (false || (false || (false || false)))))))

told : (o : Option ℕ) (t : HeapTold) → has_float (told_tree o t) ≡ false
told o (NoLists head) = λ i. owner o i || (false || false)
told o (Counted h) = heap o h

own : (t : Option HeapTold) → has_float (own_tree t) ≡ false
own None = refl
own (Some t) = told None t

interpreters : (is : List InterpreterHeap) → has_float (interpreters_tree is) ≡ false
interpreters [] = refl
interpreters (i ∷ is) =
    ap (λ b. b || has_float (interpreters_tree is)) (told (Some i.interpreter) i.told) ∙ interpreters is

pub no_float : (hs : Heaps) → has_float (heaps_tree hs) ≡ false
no_float NotDescribed = refl
no_float (OfRuntime t) = λ i. own t i || false
no_float (OfInterpreters hs) = interpreters hs.items
