-- What is left of a process of which nothing leads to an interpreter: those that are found in its heap.
use Rattle.std.specs.Prelude.{ℕ, ◌+◌, ◌-◌, ◌*◌, ◌^◌, min, ◌||◌, Bool, List, [], ◌∷◌, length, map}
use Rattle.std.specs.Prelude.{codes, Option, Some, None}
use Rattle.elf64_core.specs.declared.header.Machine.{Machine}
use Rattle.image_memory.specs.declared.maps.CoreMapRange.{CoreMapRange}
use Rattle.process_memory.specs.Memory.{Memory, byte_at}
use Rattle.process_memory.specs.Seen.{ReadingOf, Seen}
use Rattle.py_fields.specs.declared.version.Version.{Version}
use Rattle.py_fields.specs.declared.layout.Layout.{Layout}
use Rattle.py_process.specs.Facts.{Known, symbol_known}
use Rattle.py_process.specs.Sections.{IsSearched}
use Rattle.py_stacks.specs.declared.asked.Asked.{Asked}
use Rattle.py_fronts.specs.Candidates.{named_candidates}
use Rattle.py_fronts.specs.FrameFronts.{all_members_limit}
use Rattle.py_fronts.specs.Fronts.{fronts_reads, interpreters_fronts}
use Rattle.py_fronts.specs.Interpreters.{Search}
use Rattle.py_fronts.specs.Salvaged.{LockedInterpreter, SalvagedShown, salvage_reads, salvaged_at, with_lock}
use Rattle.py_fronts.specs.declared.crash.Crash.{Crash}
use Rattle.py_fronts.specs.declared.search.Looked.{Looked}
use Rattle.heap_search.specs.Search.{looked_by, search_at, search_reads}

-- what two searches looked at together
abbrev pub both_looked : Looked → Looked → Looked
both_looked one two = record {
  addresses = min (one.addresses + two.addresses) (2 ^ 64 - 1);
  members = min (one.members + two.members) (2 ^ 64 - 1);
  ended = one.ended || two.ended;
}

-- those that a search found, each with its threads and its lock
abbrev pub shown_by : Machine → Known → Version → Layout → Memory → Asked → (limit : ℕ) → Option Crash
    → List CoreMapRange → Looked → Search → SalvagedShown
shown_by machine k v l m q limit crash segments looked s = record {
  interpreters = map (with_lock machine k v l m) (interpreters_fronts q l m limit all_members_limit s.finds.found);
  more = s.finds.more;
  looked = both_looked looked (looked_by segments s);
  crash = crash;
}

-- what the search of the heap finds, where the type of code is known; else what was there before
abbrev pub searched_if : (ℕ → Bool) → Machine → Known → Version → Layout → Memory → Asked → (limit : ℕ) → Option Crash
    → List CoreMapRange → (pointers : List ℕ) → (class : Option ℕ) → SalvagedShown → SalvagedShown
searched_if contains machine k v l m q limit crash segments pointers None first = first
searched_if contains machine k v l m q limit crash segments pointers (Some class) first =
    shown_by machine k v l m q limit crash segments first.looked (search_at contains l m pointers class segments)

-- where there is none, and the class of codes is known
abbrev pub where_none : List LockedInterpreter → SalvagedShown → SalvagedShown → SalvagedShown
where_none [] searched first = searched
where_none (i ∷ is) searched first = first

-- where nothing names one either: a head that can be read names those that run, or none
abbrev pub unless_named : List ℕ → SalvagedShown → SalvagedShown → SalvagedShown
unless_named [] searched first = searched
unless_named (a ∷ rest) searched first = first

-- the class of codes, by its symbol
abbrev pub code_class : Known → Option ℕ
code_class k = symbol_known k (codes "PyCode_Type")

-- what is left of a process; where no interpreter is shown, and nothing names one, what the search of its heap finds
unfoldable pub salvaged_or_searched : (ℕ → Bool) → Machine → Known → Version → Layout → Memory → Asked → (limit : ℕ)
    → Option Crash → List CoreMapRange → (pointers : List ℕ) → SalvagedShown
salvaged_or_searched contains machine k v l m q limit crash segments pointers =
    let first = salvaged_at contains machine k v l m q limit crash in
    where_none first.interpreters
    (unless_named (named_candidates k v l m)
    (searched_if contains machine k v l m q limit crash segments pointers (code_class k) first) first) first

-- ---- its reads

-- those of the interpreters that a search found: those of their threads, and three for each lock
abbrev pub shown_reads : Layout → Memory → Asked → (limit : ℕ) → Search → ℕ
shown_reads l m q limit s = fronts_reads q (interpreters_fronts q l m limit all_members_limit s.finds.found)
    + 3 * length s.finds.found

-- those of the search, and of what it found
abbrev pub searched_reads : (ℕ → Bool) → Layout → Memory → Asked → (limit : ℕ) → List CoreMapRange
    → (pointers : List ℕ) → (class : Option ℕ) → ℕ
searched_reads contains l m q limit segments pointers None = 0
searched_reads contains l m q limit segments pointers (Some class) =
    search_reads contains l m pointers class segments
    + shown_reads l m q limit (search_at contains l m pointers class segments)

-- those of all
abbrev pub all_reads : (ℕ → Bool) → Known → Version → Layout → Memory → Asked → (limit : ℕ) → List CoreMapRange
    → (pointers : List ℕ) → ℕ
all_reads contains k v l m q limit segments pointers =
    salvage_reads contains k v l m q limit + (7 + 2 * length (named_candidates k v l m))
    + searched_reads contains l m q limit segments pointers (code_class k)

-- what the reader of all owes: each read is one of fewer than 65536 bytes, or of exactly a section
abbrev pub SalvagingOr : (ℕ → Bool) → Known → Version → Layout → Asked → (limit : ℕ) → List CoreMapRange
    → (pointers : List ℕ) → Seen → Seen → (Memory → Type 0) → Type 0
SalvagingOr contains k v l q limit segments pointers old new Q = ReadingOf (IsSearched k)
    (all_reads contains k v l (byte_at old.pieces) q limit segments pointers) old new Q
