-- What an expression comes to, by DWARF 5, section 2.5.1: its operations make a stack into another, one behind the
-- other, and what is on top at its end is its value. That it has at most 256 operations, and loads words of 8 bytes
-- alone, are this project's rules.
use Rattle.std.specs.Prelude.{ℕ, zero, suc, ◌==◌, List, [], ◌∷◌, if◌then◌else◌, drop}
use Rattle.std.specs.Prelude.{Option, Some, None, Result, Ok, Err, slice_index}
use Rattle.process_memory.specs.Memory.{Memory, Found, word_at}
use Rattle.frame_rows.specs.declared.number.Flaw.{Flaw}
use Rattle.frame_expressions.specs.declared.operation.Operation.{Operation}
use Rattle.frame_expressions.specs.declared.operation.Operation.TheVariants.{Load}
use Rattle.frame_expressions.specs.declared.operation.Read.{Read}
use Rattle.frame_expressions.specs.Meanings.{meaning_of}
use Rattle.frame_expressions.specs.Operations.{operation_in}
use Rattle.core_unwind.specs.declared.words.Words.{Words}
use Rattle.core_unwind.specs.Registers.{register_in}

-- the word that was read, if it was
abbrev pub known_word : Found ℕ → Option ℕ
known_word (Ok word) = Some word
known_word (Err fault) = None

-- the word at an address, if it is in memory
abbrev pub word_in : Memory → ℕ → Option ℕ
word_in m address = known_word (word_at m address)

-- what so many bytes of memory have at an address
abbrev pub loaded : Memory → (address size : ℕ) → Option ℕ
loaded m address size = if size == 8 then word_in m address else None

-- the word on top of a stack; none where the stack is empty
abbrev pub top : List ℕ → Option ℕ
top [] = None
top (word ∷ stack) = Some word

-- what the rest comes to over a stack, where the operation has a meaning
abbrev pub stack_then : Option (List ℕ) → (List ℕ → Option ℕ) → Option ℕ
stack_then None f = None
stack_then (Some stack) f = f stack

-- the stack behind an operation that was read
abbrev pub read_then : List (Option ℕ) → Memory → List ℕ → Result Read Flaw → (ℕ → List ℕ → Option ℕ) → Option ℕ
read_then registers m stack (Err flaw) f = None
read_then registers m stack (Ok read) f =
    stack_then (meaning_of (register_in registers) (loaded m) read.operation stack) (f read.size)

-- what bytes come to over a stack, by so many operations at most
unfoldable pub followed : (most : ℕ) → List (Option ℕ) → Memory → (bytes stack : List ℕ) → Option ℕ
followed zero registers m [] stack = top stack
followed zero registers m (byte ∷ bytes) stack = None
followed (suc most) registers m [] stack = top stack
followed (suc most) registers m (byte ∷ bytes) stack =
    read_then registers m stack (operation_in (byte ∷ bytes)) (λ size after.
    followed most registers m (drop size (byte ∷ bytes)) after)

-- the stack at the beginning: the CFA, where an expression has it
abbrev pub begun : Option ℕ → List ℕ
begun None = []
begun (Some word) = word ∷ []

-- what an expression comes to
abbrev pub evaluated : List (Option ℕ) → Memory → Option ℕ → List ℕ → Option ℕ
evaluated registers m first bytes = followed 256 registers m bytes (begun first)

-- ---- as it is read

-- the first so many words, the last of them first
abbrev pub words_from : List ℕ → (depth : ℕ) → List ℕ
words_from words zero = []
words_from words (suc depth) = slice_index words depth ∷ words_from words depth

-- the top first
abbrev pub stack_of : Words → List ℕ
stack_of w = words_from w.words w.depth

-- the stack of the words that are there
abbrev pub words_of : Option Words → Option (List ℕ)
words_of None = None
words_of (Some w) = Some (stack_of w)

-- a popped word, and the stack that is left
abbrev pub popped : Option (ℕ × Words) → Option (ℕ × List ℕ)
popped None = None
popped (Some p) = Some (p.0, stack_of p.1)

-- the word on top of a stack, and the stack below it
abbrev pub first_word : List ℕ → Option (ℕ × List ℕ)
first_word [] = None
first_word (word ∷ stack) = Some (word, stack)

-- what an operation makes of a stack that asks for no register and no memory
abbrev pub arranged : Operation → List ℕ → Option (List ℕ)
arranged operation stack = meaning_of (λ register. None) (λ address size. None) operation stack

-- and one that loads
abbrev pub load_in : Memory → (size : ℕ) → List ℕ → Option (List ℕ)
load_in m size stack = meaning_of (λ register. None) (loaded m) (Load size) stack
