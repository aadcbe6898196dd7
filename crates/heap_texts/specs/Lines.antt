-- The parts of the lines of a heap.
use Rattle.std.specs.Prelude.{ℕ, ◌-◌, ◌++◌, ◌==◌, nat_le, Bool, true, false, if◌then◌else◌, List, [], Option, Some}
use Rattle.std.specs.Prelude.{None, codes, decimal}
use Rattle.std.specs.Fmt.{digits}
use Rattle.exception_texts.specs.Text.{named_text}
use Rattle.gc_lists.specs.declared.turn.ListEnd.{ListEnd}
use Rattle.gc_lists.specs.declared.turn.ListEnd.TheVariants.{Whole, Torn, Unreadable, Cut}
use Rattle.py_census.specs.declared.census.CountedClass.{CountedClass}
use Rattle.py_census.specs.declared.large.LargeObject.{LargeObject}
use Rattle.py_census.specs.declared.large.Largest.{Largest}
use Rattle.py_heap.specs.declared.heap.Heap.{Heap}
use Rattle.py_heap.specs.declared.heap.HeapClass.{HeapClass}

-- whose the lists are
abbrev pub lead_text : Option ℕ → List ℕ
lead_text (Some address) = codes "Heap of the interpreter at 0x" ++ (digits 16 false address ++ codes ": ")
lead_text None = codes "Heap of the runtime: "

-- how many objects the lists have
abbrev pub counts_text : Heap → List ℕ
counts_text h = decimal h.youngest.objects ++ (codes ", " ++ (decimal h.middle.objects ++ (codes ", "
    ++ (decimal h.oldest.objects ++ (codes " and " ++ (decimal h.permanent.objects ++ codes " objects\n"))))))

-- that the tables of sets aren't counted, where they aren't
abbrev pub sets_line : Bool → List ℕ
sets_line true = []
sets_line false = codes "    tables of sets are not counted: no symbol names their classes\n"

-- the line that says that a collection runs; none where none does, or it isn't known
abbrev pub collecting_line : Option Bool → List ℕ
collecting_line (Some true) = codes "    a collection runs\n"
collecting_line (Some false) = []
collecting_line None = []

-- how a list ends, where it doesn't end as a whole one does
abbrev pub list_line : (name : List ℕ) → ListEnd → List ℕ
list_line name Whole = []
list_line name (Torn a) = codes "    " ++ (name ++ (codes " is torn at 0x" ++ (digits 16 false a ++ codes "\n")))
list_line name (Unreadable a) =
    codes "    " ++ (name ++ (codes " can't be read at 0x" ++ (digits 16 false a ++ codes "\n")))
list_line name (Cut a) = codes "    " ++ (name ++ (codes " has more, from 0x" ++ (digits 16 false a ++ codes " on\n")))

-- of how many objects the size isn't known, where there is one
abbrev pub unknown_text : ℕ → List ℕ
unknown_text n = if n == 0 then [] else codes ", " ++ (decimal n ++ codes " of unknown size")

-- of how many objects the bytes of other blocks aren't known, where there is one
abbrev pub unread_text : ℕ → List ℕ
unread_text n = if n == 0 then [] else codes ", " ++ (decimal n ++ codes " of unknown other blocks")

-- how many objects there are, and their own bytes
abbrev pub size_text : (objects bytes : ℕ) → List ℕ
size_text objects bytes = codes "    " ++ (decimal objects ++ (codes " objects, " ++ (decimal bytes ++ codes " bytes")))

-- how many bytes lists, dicts and sets have in blocks beside their own, where there are any
abbrev pub more_text : ℕ → List ℕ
more_text n = if n == 0 then [] else codes " and " ++ (decimal n ++ codes " in other blocks")

-- how many objects there are of a class, how many bytes, and what is not known of them
abbrev pub counted_text : CountedClass → List ℕ
counted_text c = size_text c.objects c.bytes ++ (more_text c.more ++ (unknown_text c.unknown ++ unread_text c.unread))

-- the same with its name, which ends the line
abbrev pub class_line : HeapClass → List ℕ
class_line c = counted_text c.counted ++ (codes ": " ++ (named_text c.name ++ codes "\n"))

-- an object with its bytes, where there is one
abbrev pub large_text : (before : List ℕ) → Option LargeObject → List ℕ
large_text before None = []
large_text before (Some large) =
    before ++ (decimal large.bytes ++ (codes " at 0x" ++ digits 16 false large.object))

-- the largest objects of a class
abbrev pub largest_line : Largest → List ℕ
largest_line l = large_text (codes "        the largest: ") l.first ++ (large_text (codes ", ") l.second
    ++ (large_text (codes ", ") l.third ++ codes "\n"))

-- how many classes have no line, where there is one
abbrev pub rest_line : (classes : ℕ) → List ℕ
rest_line n = if nat_le n 40 then [] else codes "    and " ++ (decimal (n - 40) ++ codes " more classes\n")

-- of how many objects the class isn't known, where there is one
abbrev pub lost_line : ℕ → List ℕ
lost_line n = if n == 0 then [] else codes "    " ++ (decimal n ++ codes " objects whose class can't be read\n")
