-- The search for interpreters among the words of a process's memory: an interpreter's address is one of them, since a
-- thread's record names it (`interp` of `PyThreadState`). One is taken where the chain of its threads is whole and one
-- of these is known as the process's own.
use Rattle.std.specs.Prelude.{◌≡◌, ℕ, ◌+◌, ◌-◌, ◌*◌, ◌^◌, min, nat_le, nat_lt, ◌||◌, Bool, true, if◌then◌else◌}
use Rattle.std.specs.Prelude.{List, [], ◌∷◌, length, Option, Some, None, Result, Ok, Err}
use Rattle.process_memory.specs.Memory.{Memory}
use Rattle.py_fields.specs.declared.layout.Layout.{Layout}
use Rattle.py_stacks.specs.declared.error.StackError.{StackError}
use Rattle.py_stacks.specs.declared.error.StackError.TheVariants.{OutOfMemory}
use Rattle.image_memory.specs.declared.maps.CoreMapRange.{CoreMapRange}
use Rattle.py_fronts.specs.declared.search.Looked.{Looked}
use Rattle.py_fronts.specs.Interpreters.{Finds, Search, Tried, chain_length, finds_of, headed_at, is_found}
use Rattle.py_fronts.specs.Interpreters.{none_found, search_limit, shown_head, walked_for, with_head}
use Rattle.heap_search.specs.declared.pieces.HeapPiece.{HeapPiece}
use Rattle.heap_search.specs.declared.search.HeapSearch.{HeapSearch}
use Rattle.heap_search.specs.Known.{has_known}
use Rattle.heap_search.specs.Pieces.{heap_pieces, is_cut, piece_there, pieces_there, words_in, words_limit}

-- a first thread, where its interpreter is taken
abbrev pub head_if : (is_taken : Bool) → ℕ → Option ℕ
head_if is_taken head = if is_taken then Some head else None

-- an interpreter whose chain of threads is whole is taken where one of them is known
abbrev pub taken_by : Layout → Memory → (pointers : List ℕ) → (class a : ℕ) → Option ℕ → Option ℕ
taken_by l m pointers class a None = None
taken_by l m pointers class a (Some head) = head_if (has_known l m pointers class a head) head

-- the first thread of what stands at an address, where that is taken
unfoldable pub taken_head : (ℕ → Bool) → Layout → Memory → (pointers : List ℕ) → (class a : ℕ) → Option ℕ
taken_head contains l m pointers class a =
    taken_by l m pointers class a (shown_head true contains l m a)

-- an address that is tried: its first thread, where it is taken, and how many members are walked for it
abbrev pub known_at : (ℕ → Bool) → Layout → Memory → (pointers : List ℕ) → (class a : ℕ) → Tried
known_at contains l m pointers class a = record {
  head = taken_head contains l m pointers class a;
  members = chain_length l m a (headed_at contains l m a);
}

-- the interpreters found so far, with the one that a word leads to
abbrev pub finds_with : (ℕ → Bool) → Layout → Memory → (pointers : List ℕ) → (class : ℕ) → Finds → ℕ → Finds
finds_with contains l m pointers class r a =
    if is_found r.found a then r else with_head r true a (taken_head contains l m pointers class a)

-- one more address was looked at
abbrev pub look_at : (ℕ → Bool) → Layout → Memory → (pointers : List ℕ) → (class : ℕ) → Search → ℕ → Search
look_at contains l m pointers class s a = record {
  finds = finds_with contains l m pointers class s.finds a;
  addresses = min (s.addresses + 1) (2 ^ 64 - 1);
  members = s.members + walked_for contains l m s.finds.found a;
}

-- while fewer members were walked than the limit
abbrev pub look_within : (ℕ → Bool) → Layout → Memory → (pointers : List ℕ) → (class : ℕ) → Search → ℕ → Search
look_within contains l m pointers class s a =
    if nat_lt s.members search_limit then look_at contains l m pointers class s a else s

-- after some addresses, in order
unfoldable pub after_looks : (ℕ → Bool) → Layout → Memory → (pointers : List ℕ) → (class : ℕ) → Search → List ℕ → Search
after_looks contains l m pointers class s [] = s
after_looks contains l m pointers class s (a ∷ rest) =
    after_looks contains l m pointers class (look_within contains l m pointers class s a) rest

-- a search before its first word
abbrev pub nothing_yet : Search
nothing_yet = record { finds = none_found; addresses = 0; members = 0 }

-- after the words of some pieces
abbrev pub search_in : (ℕ → Bool) → Layout → Memory → (pointers : List ℕ) → (class : ℕ) → List HeapPiece → Search
search_in contains l m pointers class pieces =
    after_looks contains l m pointers class nothing_yet (pieces_there m pieces)

-- after the memory of a process that is of no file and that it may write
unfoldable pub search_at : (ℕ → Bool) → Layout → Memory → (pointers : List ℕ) → (class : ℕ) → List CoreMapRange → Search
search_at contains l m pointers class maps = search_in contains l m pointers class (heap_pieces words_limit maps)

-- what is said of it: it ended before all was looked at, where so many members were walked, or there are more words
abbrev pub looked_by : List CoreMapRange → Search → Looked
looked_by maps s = record {
  addresses = s.addresses;
  members = s.members;
  ended = nat_le search_limit s.members || is_cut words_limit maps;
}

-- ---- as it is read

-- a search as contracts see it
abbrev pub search_of : HeapSearch → Search
search_of s = record { finds = finds_of s.finds; addresses = s.addresses; members = s.members }

-- the search after some more; out of memory may always be answered
abbrev pub Looks : Search → HeapSearch → Result (Unit {0}) StackError → Type 0
Looks wanted new (Ok u) = search_of new ≡ wanted
Looks wanted new (Err e) = e ≡ OutOfMemory

-- a result with a search
abbrev pub search_result : {E : Type 0} → Result HeapSearch E → Result Search E
search_result (Ok s) = Ok (search_of s)
search_result (Err e) = Err e

-- how many members were walked by some more
abbrev pub walked_by : (ℕ → Bool) → Layout → Memory → (pointers : List ℕ) → (class : ℕ) → Search → List ℕ → ℕ
walked_by contains l m pointers class s xs = (after_looks contains l m pointers class s xs).members - s.members

-- the reads of some addresses: four for each, and six for each member that is walked
abbrev pub looks_reads : (ℕ → Bool) → Layout → Memory → (pointers : List ℕ) → (class : ℕ) → Search → List ℕ → ℕ
looks_reads contains l m pointers class s xs = 4 * length xs + 6 * walked_by contains l m pointers class s xs

-- those of the words of a piece: two for each, and those of the addresses in them
abbrev pub piece_reads : (ℕ → Bool) → Layout → Memory → (pointers : List ℕ) → (class : ℕ) → Search → HeapPiece → ℕ
piece_reads contains l m pointers class s p =
    6 * p.count + 6 * walked_by contains l m pointers class s (piece_there m p)

-- those of the words of some pieces: two for each, and those of the addresses in them
abbrev pub pieces_reads : (ℕ → Bool) → Layout → Memory → (pointers : List ℕ) → (class : ℕ) → Search → List HeapPiece → ℕ
pieces_reads contains l m pointers class s pieces =
    6 * words_in pieces + 6 * walked_by contains l m pointers class s (pieces_there m pieces)

-- and those of the whole search
abbrev pub search_reads : (ℕ → Bool) → Layout → Memory → (pointers : List ℕ) → (class : ℕ) → List CoreMapRange → ℕ
search_reads contains l m pointers class maps =
    6 * words_in (heap_pieces words_limit maps) + 6 * (search_at contains l m pointers class maps).members
