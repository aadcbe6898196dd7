-- The addresses that may be the interpreter's, in order, and the first that is one. Where the symbols stand is
-- CPython's (`interp_head` up to 3.6, `_PyRuntime` from 3.7 on); that words of sections are tried is this
-- project's own rule, after py-spy.
use Rattle.std.specs.Prelude.{◌≡◌, ℕ, ◌+◌, ◌*◌, nat_eq, ◌&&◌, Bool, false, if◌then◌else◌, IsTrue, All, List, []}
use Rattle.std.specs.Prelude.{◌∷◌, ◌++◌, length, Option, Some, None, Result, Ok, Err, ⊤, codes, find, option_to_list}
use Rattle.std.specs.Int.{w64, from_le_bytes}
use Rattle.elf64_core.specs.Fields.{u64_in}
use Rattle.process_memory.specs.Memory.{Found, Memory, ◌>>=◌, byte_at, record_at, word_at}
use Rattle.process_memory.specs.Seen.{ReadingOf, Seen}
use Rattle.process_memory.specs.declared.memory.ReadFault.{ReadFault}
use Rattle.process_memory.specs.declared.memory.ReadFault.TheVariants as read
use Rattle.py_fields.specs.Offsets.{interp_head_offset}
use Rattle.py_fields.specs.declared.version.Version.{Version}
use Rattle.py_fields.specs.declared.layout.Head.{Head}
use Rattle.py_fields.specs.declared.layout.Head.TheVariants.{Symbol, Runtime, Offsets}
use Rattle.py_fields.specs.declared.layout.Layout.{Layout}
use Rattle.py_fields.specs.declared.layout.OffsetsAt.{OffsetsAt}
use Rattle.py_stacks.specs.Interpreter.{IsInterpreter, members_tested, passes, threads_head, threads_tested}
use Rattle.process_memory.specs.declared.memory.Span.{Span}
use Rattle.py_process.specs.Facts.{Facts, Known, symbol_known}
use Rattle.py_process.specs.Sections.{IsSearched}
use Rattle.py_process.specs.declared.search_error.SearchError.{SearchError}
use Rattle.py_process.specs.declared.search_error.SearchError.TheVariants.{NotFound, OutOfMemory}

-- ---- the head that symbols give

-- one candidate, or none where something isn't in memory
abbrev pub candidate_of : Found ℕ → List ℕ
candidate_of (Ok addr) = addr ∷ []
candidate_of (Err fault) = []

-- none where there is no symbol
abbrev pub at_symbol : Option ℕ → (ℕ → Found ℕ) → List ℕ
at_symbol None read = []
at_symbol (Some addr) read = candidate_of (read addr)

-- the head that the runtime's own record of offsets says where to find
unfoldable pub head_by_offsets : OffsetsAt → Memory → ℕ → Found ℕ
head_by_offsets o m runtime = do
  offsets ← record_at m runtime o.size
  word_at m (runtime + u64_in offsets o.head)

-- the head by the offsets in the runtime's own record, where the layout has them
abbrev pub head_where : Option OffsetsAt → Option ℕ → Memory → List ℕ
head_where None runtime m = []
head_where (Some o) runtime m = at_symbol runtime (head_by_offsets o m)

-- the head by the address of the runtime's own record, where that is known: at an offset that the version or the record
-- gives. There is none up to 3.6
abbrev pub head_from : Head → Version → Layout → Memory → Option ℕ → List ℕ
head_from Symbol v l m runtime = []
head_from Runtime v l m runtime = at_symbol runtime (λ a. word_at m (a + interp_head_offset v))
head_from Offsets v l m runtime = head_where l.offsets runtime m

-- the word at `interp_head`; or in the record at `_PyRuntime`, at an offset that the version or the record gives
abbrev pub head_by : Head → Known → Version → Layout → Memory → List ℕ
head_by Symbol k v l m = at_symbol (symbol_known k (codes "interp_head")) (word_at m)
head_by Runtime k v l m =
    at_symbol (symbol_known k (codes "_PyRuntime")) (λ runtime. word_at m (runtime + interp_head_offset v))
head_by Offsets k v l m = head_where l.offsets (symbol_known k (codes "_PyRuntime")) m

-- ---- the words of sections

-- the words of some bytes, of 8 bytes each; a tail of fewer is dropped
unfoldable pub words_of : List ℕ → List ℕ
words_of (a ∷ b ∷ c ∷ d ∷ e ∷ f ∷ g ∷ h ∷ rest) =
    from_le_bytes w64 (a ∷ b ∷ c ∷ d ∷ e ∷ f ∷ g ∷ h ∷ []) ∷ words_of rest
words_of _ = []

-- the words of the bytes that were found; none where they aren't in memory
abbrev pub words_in : Found (List ℕ) → List ℕ
words_in (Ok bytes) = words_of bytes
words_in (Err missing) = []

-- the words of a section; none where it isn't wholly in memory
abbrev pub section_words : Memory → (addr size : ℕ) → List ℕ
section_words m addr size = words_in (record_at m addr size)

-- those of the runtime section, where there is one
abbrev pub runtime_words : Memory → (addr size : ℕ) → List ℕ
runtime_words m addr size = if nat_eq addr 0 then [] else section_words m addr size

-- those of an image: of its runtime section, then of its bss
abbrev pub words_of_facts : Memory → Facts → List ℕ
words_of_facts m facts = runtime_words m facts.pyruntime_addr facts.pyruntime_size
    ++ section_words m facts.bss_addr facts.bss_size

-- the words of an image that may be missing
abbrev pub words_of_image : Memory → Option Facts → List ℕ
words_of_image m None = []
words_of_image m (Some facts) = words_of_facts m facts

-- the program's, then the library's
abbrev pub words_of_images : Memory → Known → List ℕ
words_of_images m k = words_of_image m k.program ++ words_of_image m k.library

-- the candidates: the head that symbols give, then those words
unfoldable pub candidates_of : Known → Version → Layout → Memory → List ℕ
candidates_of k v l m = head_by l.head k v l m ++ words_of_images m k

-- ---- which of them is the interpreter

-- an address is an interpreter's: a map holds it, a map holds its first thread, that one names it, and there is a
-- list of traces of its whole chain of threads
pub record IsInterpreterIn (contains : ℕ → Bool) (l : Layout) (m : Memory) (a : ℕ) : Type 0 where
  pub lies : IsTrue (contains a)
  pub head : ℕ
  pub names : threads_head l m a ≡ Ok head
  pub head_lies : IsTrue (contains head)
  pub is : IsInterpreter l m a

-- of some candidates this one is the first that is an interpreter's
pub record IsFirstOf (contains : ℕ → Bool) (l : Layout) (m : Memory) (candidates : List ℕ) (a : ℕ) : Type 0 where
  pub before : List ℕ
  pub after : List ℕ
  pub parts : candidates ≡ before ++ a ∷ after
  pub is : IsInterpreterIn contains l m a
  pub none_before : All (λ b. ¬ IsInterpreterIn contains l m b) before

-- none of them is one
abbrev pub IsNoneOf : (ℕ → Bool) → Layout → Memory → List ℕ → Type 0
IsNoneOf contains l m candidates = All (λ a. ¬ IsInterpreterIn contains l m a) candidates

-- ---- the same test, as it is made

-- whether the first thread's address was found and a map holds it
abbrev pub head_lies : (ℕ → Bool) → Found ℕ → Bool
head_lies contains (Ok head) = contains head
head_lies contains (Err fault) = false

-- whether an address passes for an interpreter's, and maps hold it and its first thread
unfoldable pub passes_in : (ℕ → Bool) → Layout → Memory → ℕ → Bool
passes_in contains l m a = contains a && (head_lies contains (threads_head l m a) && passes l m a)

-- the first candidate that passes
unfoldable pub interpreter_of : (ℕ → Bool) → Known → Version → Layout → Memory → Option ℕ
interpreter_of contains k v l m = find (passes_in contains l m) (candidates_of k v l m)

-- a result is the first candidate that passes; out of memory may always be answered
abbrev pub FirstIs : Option ℕ → Result ℕ SearchError → Type 0
FirstIs first (Ok addr) = first ≡ Some addr
FirstIs first (Err NotFound) = first ≡ None
FirstIs first (Err OutOfMemory) = ⊤

-- `NotFound` comes exactly where no candidate passes, out of memory aside
abbrev pub NotFoundWhere : Type 0 → Result ℕ SearchError → Type 0
NotFoundWhere Nothing (Ok addr) = ¬ Nothing
NotFoundWhere Nothing (Err NotFound) = Nothing
NotFoundWhere Nothing (Err OutOfMemory) = ⊤

-- ---- how many reads

-- of a test behind its first read: at most 2, 2 for each thread that it meets, and 6 for each member
abbrev pub walk_bound : Layout → Memory → ℕ → ℕ
walk_bound l m a = 2 + 2 * threads_tested l m a + 6 * members_tested l m a

-- of one candidate: none where no map holds it; one where its head isn't in memory or in no map; else those too
unfoldable pub candidate_cost : (ℕ → Bool) → Layout → Memory → ℕ → ℕ
candidate_cost contains l m a =
    if contains a then (1 + (if head_lies contains (threads_head l m a) then walk_bound l m a else 0)) else 0

-- of the candidates up to and with the first that passes
unfoldable pub search_cost : (ℕ → Bool) → Layout → Memory → List ℕ → ℕ
search_cost contains l m [] = 0
search_cost contains l m (a ∷ rest) =
    candidate_cost contains l m a + (if passes_in contains l m a then 0 else search_cost contains l m rest)

-- of the whole search: at most 2 for the head that symbols give, one for each of four sections, and those of the
-- candidates
unfoldable pub search_bound : (ℕ → Bool) → Known → Version → Layout → Memory → ℕ
search_bound contains k v l m = 6 + search_cost contains l m (candidates_of k v l m)

-- the same whatever the memory holds, as chains that are cyclic: the walk of a test ends at the limits
abbrev pub search_most : Known → Version → Layout → Memory → ℕ
search_most k v l m = 6 + (3 + 4096 * (2 + 6 * 16384)) * length (candidates_of k v l m)

-- what the search owes: it makes at most so many reads, each of fewer than 65536 bytes or of exactly a section, and a
-- fact holds over every memory that covers them
abbrev pub Searching : (ℕ → Bool) → Known → Version → Layout → Seen → Seen → (Memory → Type 0) → Type 0
Searching contains k v l old new Q =
    ReadingOf (IsSearched k) (search_bound contains k v l (byte_at old.pieces)) old new Q

-- ---- what the readers on the way answer

-- a reader of the search answers a value; out of memory may always be answered
abbrev pub SearchIs : {T : Type 0} → T → Result T SearchError → Type 0
SearchIs value (Ok answer) = value ≡ answer
SearchIs value (Err NotFound) = ⊥
SearchIs value (Err OutOfMemory) = ⊤

-- so does one of a list of at most one
abbrev pub ListIs : List ℕ → Result (Option ℕ) SearchError → Type 0
ListIs values (Ok answer) = values ≡ option_to_list answer
ListIs values (Err NotFound) = ⊥
ListIs values (Err OutOfMemory) = ⊤

-- nothing, where something isn't in memory
abbrev pub or_nothing : Result ℕ ReadFault → Result (Option ℕ) SearchError
or_nothing (Ok addr) = Ok (Some addr)
or_nothing (Err (read.Unreadable addr len)) = Ok None
or_nothing (Err read.OutOfMemory) = Err OutOfMemory

-- what a search in a list owes: it makes at most so many reads beside those of the candidates, each of a range that is
-- allowed
abbrev pub Seeking : (Memory → Span → Type 0) → (ℕ → Bool) → Layout → ℕ → (Memory → List ℕ) → Seen → Seen
    → Result (Option ℕ) SearchError → Type 0
Seeking allowed contains l n candidates old new result =
    ReadingOf allowed (n + search_cost contains l (byte_at old.pieces) (candidates (byte_at old.pieces))) old new
    (λ m. SearchIs (find (passes_in contains l m) (candidates m)) result)
