-- The memory of a process that is of no file and that it may write: what it has by `brk` and `mmap`, in which the C
-- library's allocator and CPython's arenas lie. Of a core: its load segments whose flag PF_W (2) is set, and to which no
-- file table gives a name. The first 16,777,216 words of them that the core has are looked at, in the order of the
-- core's table; that it is so many is this project's rule.
use Rattle.std.specs.Prelude.{ℕ, zero, suc, ◌+◌, ◌-◌, ◌/◌, ◌%◌, ◌^◌, ◌<◌, ◌≤◌, min, nat_eq, nat_lt, ◌&&◌, ◌||◌, Bool}
use Rattle.std.specs.Prelude.{false, if◌then◌else◌, List, [], ◌∷◌, ◌++◌, is_none}
use Rattle.process_memory.specs.Memory.{Memory}
use Rattle.image_memory.specs.declared.maps.CoreMapRange.{CoreMapRange}
use Rattle.py_fronts.specs.Candidates.{words_there}
use Rattle.heap_search.specs.declared.pieces.HeapPiece.{HeapPiece}

-- how many words are looked at at most
abbrev pub words_limit : ℕ
words_limit = 16777216

-- how many of them a piece has, and how many pieces a segment has at most
abbrev pub piece_limit : ℕ
piece_limit = 512

-- at most how many pieces of the heap are looked at
abbrev pub pieces_limit : ℕ
pieces_limit = 32768

-- whether a segment may hold the heap: it is writable and of no file
abbrev pub is_heap : CoreMapRange → Bool
is_heap s = nat_eq (s.segment.flags / 2 % 2) 1 && is_none s.pathname

-- how many whole words of a segment the core has
abbrev pub words_of : CoreMapRange → ℕ
words_of s = if is_heap s then s.segment.file_size / 8 else 0

-- how many of them are looked at, of so many that may be yet
abbrev pub share : (left : ℕ) → CoreMapRange → ℕ
share left s = min (words_of s) left

-- so many words from an address on, in pieces
unfoldable pub pieces_from : (turns at words : ℕ) → List HeapPiece
pieces_from zero at words = []
pieces_from (suc turns) at words = if nat_eq words 0 then []
    else record { at = at; count = min words piece_limit }
    ∷ pieces_from turns (at + 4096) (words - min words piece_limit)

-- the pieces of some segments, of whose words so many may be looked at yet
unfoldable pub heap_pieces : (left : ℕ) → List CoreMapRange → List HeapPiece
heap_pieces left [] = []
heap_pieces left (s ∷ rest) =
    pieces_from pieces_limit s.segment.addr (share left s) ++ heap_pieces (left - share left s) rest

-- whether some of their words are not
unfoldable pub is_cut : (left : ℕ) → List CoreMapRange → Bool
is_cut left [] = false
is_cut left (s ∷ rest) = nat_lt (share left s) (words_of s) || is_cut (left - share left s) rest

-- ---- the words

-- the words of a piece that are in memory
abbrev pub piece_there : Memory → HeapPiece → List ℕ
piece_there m p = words_there m p.at p.count

-- the words of some pieces that are in memory
unfoldable pub pieces_there : Memory → List HeapPiece → List ℕ
pieces_there m [] = []
pieces_there m (p ∷ rest) = piece_there m p ++ pieces_there m rest

-- how many words they have
unfoldable pub words_in : List HeapPiece → ℕ
words_in [] = 0
words_in (p ∷ rest) = p.count + words_in rest

-- where a piece may lie: it has 512 words at most, and its address may lie behind the last one by the words of a segment
pub record IsPiece (p : HeapPiece) : Type 0 where
  pub some : 0 < p.count
  pub few : p.count ≤ 512
  pub near : p.at < 2 ^ 65
