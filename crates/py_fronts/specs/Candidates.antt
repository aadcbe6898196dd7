-- The addresses that may be an interpreter's: those of the search, and those that the record of one leads to. CPython
-- chains its interpreters by `next`, which stands in front of the head of their threads; from 3.13 on one that runs
-- nothing has no thread. The section `.PyRuntime` has the runtime's record and nothing else.
use Rattle.std.specs.Prelude.{◌≡◌, ℕ, zero, suc, ◌+◌, ◌*◌, ◌-◌, ◌/◌, ◌≤◌, min, nat_eq, nat_lt, if◌then◌else◌, List, []}
use Rattle.std.specs.Prelude.{◌∷◌, ◌++◌, flat_map, not, Bool, false, ◌||◌}
use Rattle.std.specs.Prelude.{length, Option, Some, None, Result, Ok, Err, Vec}
use Rattle.std.specs.List.{filter}
use Rattle.std.specs.Global.{Global}
use Rattle.std.specs.Int.{w64, from_le_bytes}
use Rattle.process_memory.specs.Memory.{Found, Memory, bytes_at, word_at}
use Rattle.process_memory.specs.Seen.{Reading, ReadingBy, Seen}
use Rattle.py_fields.specs.declared.version.Version.{Version}
use Rattle.py_fields.specs.declared.layout.Layout.{Layout}
use Rattle.py_stacks.specs.Interpreter.{threads_head}
use Rattle.py_stacks.specs.declared.error.StackError.{StackError}
use Rattle.py_stacks.specs.declared.error.StackError.TheVariants.{OutOfMemory}
use Rattle.py_process.specs.Candidates.{head_by, head_from, section_words}
use Rattle.py_process.specs.Facts.{Facts, Known}

-- how many words of the record of an interpreter are candidates at most
abbrev pub record_words_limit : ℕ
record_words_limit = 1024

-- the word at an address, where all its bytes are in memory
abbrev pub word_or_none : Option (List ℕ) → List ℕ
word_or_none None = []
word_or_none (Some bytes) = from_le_bytes w64 bytes ∷ []

-- of so many words, one after another, those that are in memory
unfoldable pub words_there : Memory → (a count : ℕ) → List ℕ
words_there m a zero = []
words_there m a (suc count) = word_or_none (bytes_at m a 8) ++ words_there m (a + 8) count

-- how many words of a section are looked at at most: those of its first 32 MiB
abbrev pub section_limit : ℕ
section_limit = 4194304

-- how many words of a section of so many bytes are looked at at most
abbrev pub section_count : ℕ → ℕ
section_count size = min (size / 8) section_limit

-- the words of a section that are in memory, though others are not
abbrev pub section_there : Memory → (addr size : ℕ) → List ℕ
section_there m addr size = words_there m addr (section_count size)

-- those of a runtime section, where there is one
abbrev pub runtime_there : Memory → (addr size : ℕ) → List ℕ
runtime_there m addr size = if nat_eq addr 0 then [] else section_there m addr size

-- the words of an image's runtime section
abbrev pub runtime_of_image : Memory → Option Facts → List ℕ
runtime_of_image m None = []
runtime_of_image m (Some facts) = runtime_there m facts.pyruntime_addr facts.pyruntime_size

-- the words of its bss
abbrev pub bss_of_image : Memory → Option Facts → List ℕ
bss_of_image m None = []
bss_of_image m (Some facts) = section_there m facts.bss_addr facts.bss_size

-- whether one of its sections has more words than are looked at
abbrev pub is_long_image : Option Facts → Bool
is_long_image None = false
is_long_image (Some facts) =
    nat_lt section_limit (facts.pyruntime_size / 8) || nat_lt section_limit (facts.bss_size / 8)

-- of the images of a process
abbrev pub has_long_section : Known → Bool
has_long_section k = is_long_image k.program || is_long_image k.library

-- how many words are looked at at most: in the runtime section of an image, in its bss, and in those of both images
abbrev pub runtime_count : Option Facts → ℕ
runtime_count None = 0
runtime_count (Some facts) = section_count facts.pyruntime_size

-- how many words of an image's bss are looked at at most
abbrev pub bss_count : Option Facts → ℕ
bss_count None = 0
bss_count (Some facts) = section_count facts.bss_size

-- how many words of the runtime sections of both images are looked at at most
abbrev pub runtime_counts : Known → ℕ
runtime_counts k = runtime_count k.program + runtime_count k.library

-- how many words of the bss of both images are looked at at most
abbrev pub bss_counts : Known → ℕ
bss_counts k = bss_count k.program + bss_count k.library

-- how many words of all sections are looked at at most
abbrev pub words_in_sections : Known → ℕ
words_in_sections k = runtime_counts k + bss_counts k

-- how many interpreters without a thread are passed by in a row at most
abbrev pub idle_limit : ℕ
idle_limit = 64

-- the number that was found; none where there is a fault
abbrev pub found_or_none : Found ℕ → Option ℕ
found_or_none (Ok a) = Some a
found_or_none (Err f) = None

-- what stands behind an interpreter, where that one has no thread
abbrev pub passed_by : Found ℕ → Option ℕ → Option ℕ
passed_by (Ok zero) next = next
passed_by (Ok (suc head)) next = None
passed_by (Err f) next = None

-- the address at one place of an interpreter's record, where that one has no thread
abbrev pub next_by : Layout → Memory → (place a : ℕ) → Option ℕ
next_by l m place a = passed_by (threads_head l m a) (found_or_none (word_at m (a + place)))

-- an address with those that follow it; none where there is none
abbrev pub with_next : Option ℕ → (ℕ → List ℕ) → List ℕ
with_next None rest = []
with_next (Some a) rest = a ∷ rest a

-- the addresses that follow one another at the same place of each record, while those that they follow have no thread
unfoldable pub behind_idle : Layout → Memory → (place turns a : ℕ) → List ℕ
behind_idle l m place zero a = []
behind_idle l m place (suc turns) a = with_next (next_by l m place a) (λ next. behind_idle l m place turns next)

-- each word of a record from a place on, and behind it those that follow by its place
unfoldable pub led_to : Layout → Memory → ℕ → List ℕ → List ℕ
led_to l m place [] = []
led_to l m place (a ∷ rest) = (a ∷ behind_idle l m place idle_limit a) ++ led_to l m (place + 8) rest

-- the words of the record of an interpreter in front of the head of its threads
unfoldable pub record_words : Layout → Memory → ℕ → List ℕ
record_words l m a = section_words m a (8 * min (l.interpreter.threads / 8) record_words_limit)

-- those that the record of an interpreter leads to: `next` is one of its words, and of each record the word at the same
-- place, so that one behind some without a thread is there too
unfoldable pub record_candidates : Layout → Memory → ℕ → List ℕ
record_candidates l m a = led_to l m 0 (record_words l m a)

-- those of some addresses that are not this one
abbrev pub other_than : ℕ → List ℕ → List ℕ
other_than a xs = filter (λ x. not (nat_eq x a)) xs

-- those that the record of an interpreter leads to, but for itself: a record that holds its own address, as the head of
-- an empty list does, doesn't name it
unfoldable pub others_led_to : Layout → Memory → ℕ → List ℕ
others_led_to l m a = other_than a (record_candidates l m a)

-- an address, if there is one, and behind it those that its record leads to
abbrev pub with_records : Layout → Memory → List ℕ → List ℕ
with_records l m head = head ++ flat_map (record_candidates l m) head

-- where the runtime's record stands by an image's section that has it alone
abbrev pub runtime_in : Option Facts → Option ℕ
runtime_in None = None
runtime_in (Some facts) = if nat_eq facts.pyruntime_addr 0 then None else Some facts.pyruntime_addr

-- the first list, or the second where that is empty
abbrev pub or_else : List ℕ → List ℕ → List ℕ
or_else [] other = other
or_else (a ∷ rest) other = a ∷ rest

-- the head by the program's runtime section, or else by the library's
abbrev pub head_in_sections : Known → Version → Layout → Memory → List ℕ
head_in_sections k v l m =
    or_else (head_from l.head v l m (runtime_in k.program)) (head_from l.head v l m (runtime_in k.library))

-- the head that symbols give, or else the one by the runtime section
unfoldable pub head_given : Known → Version → Layout → Memory → List ℕ
head_given k v l m = or_else (head_by l.head k v l m) (head_in_sections k v l m)

-- those that are named: the head, and those that its record leads to, since the newest interpreter may have no thread
unfoldable pub named_candidates : Known → Version → Layout → Memory → List ℕ
named_candidates k v l m = with_records l m (head_given k v l m)

-- those that are found by search alone: the words of the runtime sections, and those of the bss, as far as they are
-- in memory
abbrev pub runtimes_there : Known → Memory → List ℕ
runtimes_there k m = runtime_of_image m k.program ++ runtime_of_image m k.library

-- the words of the bss of both images that are in memory
abbrev pub bsses_there : Known → Memory → List ℕ
bsses_there k m = bss_of_image m k.program ++ bss_of_image m k.library

-- all words that the search tries as addresses of interpreters: the runtime sections', and then the bss's
unfoldable pub searched_candidates : Known → Memory → List ℕ
searched_candidates k m = runtimes_there k m ++ bsses_there k m

-- ---- as they are read

-- a list with others behind it; out of memory may always be answered
abbrev pub AddsWords : (old added new : List ℕ) → Result (Unit {0}) StackError → Type 0
AddsWords old added new (Ok u) = new ≡ old ++ added
AddsWords old added new (Err e) = e ≡ OutOfMemory

-- a reader's result with the items of its vector of words
abbrev pub words_result : {E : Type 0} → Result (Vec ℕ Global) E → Result (List ℕ) E
words_result (Ok words) = Ok words.items
words_result (Err e) = Err e

-- the reads of a record and of those that follow by each of its words: one, and two for each that it leads to
abbrev pub record_words_reads : Layout → Memory → ℕ → ℕ
record_words_reads l m a = 1 + 2 * length (record_candidates l m a)

-- how many it leads to at most: 65 for each of its words that are looked at
abbrev pub record_most : Layout → ℕ
record_most l = 65 * min (l.interpreter.threads / 8) record_words_limit

-- the addresses that were followed so far; it stands at `at`
pub record Following (l : Layout) (place first : ℕ) (old new : Seen) (start words : List ℕ)
    (passed at : ℕ) : Type 0 where
  pub within : passed ≤ idle_limit
  pub count : length words ≡ length start + passed
  pub reading : Reading (2 * passed) old new (λ m. start ++ behind_idle l m place idle_limit first
      ≡ words ++ behind_idle l m place (idle_limit - passed) at)

-- the words of a record that were taken so far, each with those that follow by its place
pub record Leading (l : Layout) (old new : Seen) (start taken candidates : List ℕ) (place : ℕ) : Type 0 where
  pub stands : place ≡ 8 * length taken
  pub reading : ReadingBy (λ m. 2 * length (led_to l m 0 taken)) old new (λ m. candidates ≡ start ++ led_to l m 0 taken)

-- the words of a piece that were read one by one so far
pub record Adding (at count : ℕ) (old new : Seen) (start words : List ℕ) (done : ℕ) : Type 0 where
  pub within : done ≤ count
  pub reading : Reading done old new (λ m. words ≡ start ++ words_there m at done)
