-- Turns, ends and chains as they are read.
use Rattle.std.specs.Prelude.{◌≡◌, ℕ, ◌+◌, ◌*◌, ◌-◌, ◌≤◌, ◌↔◌, List, [], length, Result, Ok, Err}
use Rattle.std.specs.List.{Contains}
use Rattle.process_memory.specs.Memory.{Memory}
use Rattle.process_memory.specs.Memory.Fault.{Missing}
use Rattle.process_memory.specs.declared.memory.ReadFault.{ReadFault}
use Rattle.process_memory.specs.declared.memory.ReadFault.TheVariants as fault
use Rattle.process_memory.specs.Seen.{Reading, Seen}
use Rattle.py_coroutines.specs.declared.error.AwaitError.{AwaitError}
use Rattle.py_coroutines.specs.declared.awaits.Awaits.{Awaits}
use Rattle.py_coroutines.specs.declared.turn.AwaitEnd.{AwaitEnd}
use Rattle.py_coroutines.specs.declared.turn.AwaitEnd.TheVariants.{Stops, Cycle, Cut}
use Rattle.py_coroutines.specs.declared.turn.Stop.{Stop}
use Rattle.py_coroutines.specs.declared.turn.Stop.TheVariants.{Future, Yielding, Created, Running, Finished}
use Rattle.py_coroutines.specs.declared.turn.Stop.TheVariants.{NoTop, Other}
use Rattle.py_coroutines.specs.declared.turn.Stop.TheVariants.{Unreadable}
use Rattle.py_coroutines.specs.declared.turn.Turn.{Turn}
use Rattle.py_coroutines.specs.declared.turn.Turn.TheVariants.{To, Last, Before}
use Rattle.py_coroutines.specs.Awaits as known
use Rattle.py_coroutines.specs.Awaits.{Chain, behind, chain_from}
use Rattle.py_coroutines.specs.Awaits.{End as end}
use Rattle.py_coroutines.specs.Awaits.{Stop as stop}
use Rattle.py_coroutines.specs.Awaits.{Turn as turn}

-- what ends a chain by itself, as the code has it
abbrev pub stop_of : Stop → known.Stop
stop_of (Future a) = stop.Future a
stop_of Yielding = stop.Yielding
stop_of Created = stop.Created
stop_of Running = stop.Running
stop_of Finished = stop.Finished
stop_of NoTop = stop.NoTop
stop_of (Other a class) = stop.Other a class
stop_of (Unreadable a n) = stop.Lost (Missing a n)

-- how a chain ends, as the code has it
abbrev pub end_of : AwaitEnd → known.End
end_of (Stops why) = end.Stops (stop_of why)
end_of (Cycle a) = end.Cycle a
end_of (Cut a) = end.Cut a

-- what stands at an address, as the code has it
abbrev pub turn_of : Turn → known.Turn
turn_of (To n) = turn.To n
turn_of (Last why) = turn.Last (stop_of why)
turn_of (Before why) = turn.Before (stop_of why)

-- a reader's result with what stands at an address
abbrev pub turn_of_result : {E : Type 0} → Result Turn E → Result known.Turn E
turn_of_result (Ok turn) = Ok (turn_of turn)
turn_of_result (Err e) = Err e

-- a chain, as the code has it
abbrev pub chain_of : Awaits → Chain
chain_of c = record { members = c.members.items; end = end_of c.end }

-- a range that was not read ends a chain; out of memory is handed on
abbrev pub IsLost : ReadFault → Result Stop AwaitError → Type 0
IsLost (fault.Unreadable a n) result = result ≡ Ok (Unreadable a n)
IsLost fault.OutOfMemory result = (e : AwaitError) × (result ≡ Err e)

-- the reads of a chain: seven of each member, and seven more
abbrev pub chain_reads : ℕ → Result Awaits AwaitError → ℕ
chain_reads limit (Ok c) = 7 * length c.members.items + 7
chain_reads limit (Err e) = 7 * limit + 7

-- a chain of which these members were met so far, each of which is in a set; the last of them waits for the object at
-- `at`. What stands at an address is given
pub record Following (turn : Memory → ℕ → known.Turn) (limit head : ℕ) (old new : Seen) (members met : List ℕ)
    (at : ℕ) : Type 0 where
  pub within : length members ≤ limit
  pub same : (a : ℕ) → Contains met a ↔ Contains members a
  pub reading : Reading (7 * length members) old new (λ m. chain_from (turn m) [] limit head
      ≡ behind members (chain_from (turn m) members (limit - length members) at))
