-- What a heap holds: the objects of the collector's lists, by class.
use Rattle.std.specs.Prelude.{◌≡◌, ℕ, ◌+◌, ◌*◌, List, length, is_some, Result, Ok, Err}
use Rattle.process_memory.specs.Memory.{Memory}
use Rattle.py_fields.specs.declared.layout.Layout.{Layout}
use Rattle.gc_lists.specs.Lists.{Four, IsTold, Told}
use Rattle.gc_lists.specs.Lists.Told.{AreHere, Elsewhere}
use Rattle.gc_lists.specs.Rings.{Listing}
use Rattle.gc_lists.specs.Walks.{most_members}
use Rattle.py_census.specs.Censuses.{Counted, IsCensus}
use Rattle.py_census.specs.Blocks.{more_at}
use Rattle.py_census.specs.Sizes.{class_at, size_at}
use Rattle.py_heap.specs.Names.{named_classes, names_reads}
use Rattle.py_heap.specs.Objects.{objects_of}
use Rattle.py_heap.specs.declared.heap.Generation.{Generation}
use Rattle.py_heap.specs.declared.heap.Heap.{Heap}
use Rattle.py_heap.specs.declared.heap.HeapTold.{HeapTold}
use Rattle.py_heap.specs.declared.heap.HeapTold.TheVariants as told
use Rattle.py_heap.specs.declared.places.HeapPlaces.{HeapPlaces}

-- a list by how many members it has, and how it ends
abbrev pub generation_of : Listing → Generation
generation_of list = record { objects = length list.members; end = list.end }

-- What is told of lists: how many objects each has and how it ends, whether tables of sets are counted, what is counted
-- of the objects of all of them, and the names of the first classes.
pub record IsHeap (l : Layout) (p : HeapPlaces) (m : Memory) (lists : Four) (heap : Heap) : Type 0 where
  pub collecting : heap.collecting ≡ lists.collecting
  pub youngest : heap.youngest ≡ generation_of lists.youngest
  pub middle : heap.middle ≡ generation_of lists.middle
  pub oldest : heap.oldest ≡ generation_of lists.oldest
  pub permanent : heap.permanent ≡ generation_of lists.permanent
  pub sets : heap.sets ≡ is_some p.sizes.sets
  pub counted : Counted
  pub census : IsCensus (class_at l m) (size_at l p.sizes m) (more_at l p.sizes m)
      (objects_of p.lists.head_size lists) counted
  pub classes : heap.classes.items ≡ named_classes l p.classes m counted.classes
  pub unreadable : heap.unreadable ≡ counted.unreadable

-- the heap by the collector's lists; or no lists, and the head that shows it
abbrev pub IsHeapBy : Layout → HeapPlaces → Memory → Told → HeapTold → Type 0
IsHeapBy l p m (AreHere lists) (told.Counted heap) = IsHeap l p m lists heap
IsHeapBy l p m (AreHere lists) (told.NoLists head) = ⊥
IsHeapBy l p m (Elsewhere a) (told.Counted heap) = ⊥
IsHeapBy l p m (Elsewhere a) (told.NoLists head) = head ≡ a

-- what is told of the lists of the record at an address
pub record IsHeapAt (l : Layout) (p : HeapPlaces) (bases : List ℕ) (m : Memory) (base : ℕ) (told : HeapTold) : Type 0
  where
    pub lists : Told
    pub are : IsTold p.lists bases m base lists
    pub is : IsHeapBy l p m lists told

-- ---- reads

-- how many objects the lists have
abbrev pub objects_told : HeapTold → ℕ
objects_told (told.NoLists head) = 0
objects_told (told.Counted h) = h.youngest.objects + h.middle.objects + h.oldest.objects + h.permanent.objects

-- 25 reads of each object, those of names, and 21 more
abbrev pub heap_reads : {E : Type 0} → Result HeapTold E → ℕ
heap_reads (Ok told) = 25 * objects_told told + 21 + names_reads
heap_reads (Err e) = 25 * (4 * most_members) + 21 + names_reads
