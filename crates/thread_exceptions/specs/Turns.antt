-- What stands at an address of a chain to null, and chains as they are read.
use Rattle.std.specs.Prelude.{◌≡◌, ℕ, ◌+◌, ◌-◌, ◌≤◌, ◌↔◌, nat_eq, List, [], length, Result, Ok, Err, if◌then◌else◌}
use Rattle.std.specs.List.{Contains}
use Rattle.process_memory.specs.Memory.{Found, Memory, word_at}
use Rattle.process_memory.specs.Memory.Fault.{Missing}
use Rattle.process_memory.specs.declared.memory.ReadFault.{ReadFault}
use Rattle.process_memory.specs.declared.memory.ReadFault.TheVariants as fault
use Rattle.process_memory.specs.Seen.{Reading, Seen}
use Rattle.thread_exceptions.specs.declared.error.ExceptionsError.{ExceptionsError}
use Rattle.thread_exceptions.specs.declared.links.LinkEnd.{LinkEnd}
use Rattle.thread_exceptions.specs.declared.links.LinkEnd.TheVariants as ends
use Rattle.thread_exceptions.specs.declared.links.Links.{Links}
use Rattle.thread_exceptions.specs.declared.links.Lost.{Lost}
use Rattle.thread_exceptions.specs.declared.links.Stop.{Stop}
use Rattle.thread_exceptions.specs.declared.links.Stop.TheVariants as stops
use Rattle.thread_exceptions.specs.declared.links.Turn.{Turn}
use Rattle.thread_exceptions.specs.declared.links.Turn.TheVariants as turns
use Rattle.thread_exceptions.specs.Links as known
use Rattle.thread_exceptions.specs.Links.{Chain, behind, chain_from}
use Rattle.thread_exceptions.specs.Links.{End as end}
use Rattle.thread_exceptions.specs.Links.{Stop as stop}
use Rattle.thread_exceptions.specs.Links.{Turn as turn}

-- a record that names the one at this address; the last one of a chain where its word can't be read
abbrev pub by_word : Found ℕ → known.Turn
by_word (Ok n) = turn.To n
by_word (Err f) = turn.Last (stop.Lost f)

-- what stands at an address: nothing at 0, else a record that names the next one by the word at an offset
unfoldable pub turn_at : ℕ → Memory → ℕ → known.Turn
turn_at offset m a = if nat_eq a 0 then turn.Before stop.Null else by_word (word_at m (a + offset))

-- the range that is not in memory
abbrev pub missing : Lost → known.Stop
missing l = stop.Lost (Missing l.addr l.len)

-- what ends a chain by itself, as the code has it
abbrev pub stop_of : Stop → known.Stop
stop_of stops.Null = stop.Null
stop_of (stops.Unreadable l) = missing l

-- how a chain ends, as the code has it
abbrev pub end_of : LinkEnd → known.End
end_of ends.Null = end.Stops stop.Null
end_of (ends.Unreadable l) = end.Stops (missing l)
end_of (ends.Cycle a) = end.Cycle a
end_of (ends.Cut a) = end.Cut a

-- what stands at an address, as the code has it
abbrev pub turn_of : Turn → known.Turn
turn_of (turns.To n) = turn.To n
turn_of (turns.Last why) = turn.Last (stop_of why)
turn_of (turns.Before why) = turn.Before (stop_of why)

-- a chain, as the code has it
abbrev pub chain_of : Links → Chain
chain_of c = record { members = c.members.items; end = end_of c.end }

-- a range that was not read is told; out of memory is handed on
abbrev pub IsLost : ReadFault → Result Lost ExceptionsError → Type 0
IsLost (fault.Unreadable a n) result = result ≡ Ok (record { addr = a; len = n })
IsLost fault.OutOfMemory result = (e : ExceptionsError) × (result ≡ Err e)

-- a chain of which these records were met so far, each of which is in a set; the last of them names the one at `at`.
-- What stands at an address is given
pub record Following (turn : Memory → ℕ → known.Turn) (limit head : ℕ) (old new : Seen) (members met : List ℕ)
    (at : ℕ) : Type 0 where
  pub within : length members ≤ limit
  pub same : (a : ℕ) → Contains met a ↔ Contains members a
  pub reading : Reading (length members) old new (λ m. chain_from (turn m) [] limit head
      ≡ behind members (chain_from (turn m) members (limit - length members) at))
