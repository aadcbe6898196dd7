-- Words that may not be in memory: a word that is missing is none, and ends nothing. This project's own rule.
use Rattle.std.specs.Prelude.{ℕ, ◌+◌, Option, Some, None, Result, Ok, Err}
use Rattle.process_memory.specs.Memory.{Memory, Found, word_at}
use Rattle.process_memory.specs.declared.memory.ReadFault.{ReadFault}
use Rattle.process_memory.specs.declared.memory.ReadFault.TheVariants.{Unreadable, OutOfMemory}

-- the word that was found; none where it isn't in memory
abbrev pub known : Found ℕ → Found (Option ℕ)
known (Ok word) = Ok (Some word)
known (Err fault) = Ok None

-- the word at an address
unfoldable pub word_if : Memory → ℕ → Found (Option ℕ)
word_if m a = known (word_at m a)

-- the word so many bytes behind an address, where there is one
abbrev pub word_in : Memory → Option ℕ → ℕ → Found (Option ℕ)
word_in m None behind = Ok None
word_in m (Some a) behind = word_if m (a + behind)

-- the same of a reader's result, whose out of memory stays
abbrev pub known_result : Result ℕ ReadFault → Result (Option ℕ) ReadFault
known_result (Ok word) = Ok (Some word)
known_result (Err (Unreadable a n)) = Ok None
known_result (Err OutOfMemory) = Err OutOfMemory
