-- The chain of what awaits what, from a task's coroutine on (`IsAwaits` of py_coroutines), and what the frame of each
-- of its members shows.
use Rattle.std.specs.Prelude.{◌≡◌, ℕ, Option, Some, None, List, [], length, get_or, reverse, Result, Ok, Err}
use Rattle.process_memory.specs.Memory.{Memory, Found, Fault, ◌>>=◌}
use Rattle.process_memory.specs.Memory.Fault.{Missing}
use Rattle.py_coroutines.specs.declared.awaits.Awaits.{Awaits}
use Rattle.py_coroutines.specs.declared.kinds.Kind.{Kind}
use Rattle.py_coroutines.specs.declared.places.Family.{Family}
use Rattle.py_coroutines.specs.declared.places.Places.{Places}
use Rattle.py_coroutines.specs.declared.turn.AwaitEnd.{AwaitEnd}
use Rattle.py_coroutines.specs.declared.turn.AwaitEnd.TheVariants.{Stops, Cycle, Cut}
use Rattle.py_coroutines.specs.declared.turn.Stop.{Stop}
use Rattle.py_coroutines.specs.declared.turn.Stop.TheVariants.{Future, Yielding, Created, Running, Finished}
use Rattle.py_coroutines.specs.declared.turn.Stop.TheVariants.{NoTop, Other, Unreadable}
use Rattle.py_coroutines.specs.Awaits as known
use Rattle.py_coroutines.specs.Awaits.{chain_from}
use Rattle.py_coroutines.specs.Awaits.{End as end}
use Rattle.py_coroutines.specs.Awaits.{Stop as stop}
use Rattle.py_coroutines.specs.Members as member
use Rattle.py_coroutines.specs.Objects.{turn_at}
use Rattle.coroutine_frames.specs.Frames as frames
use Rattle.coroutine_frames.specs.declared.frame.CoroutineFrame.{CoroutineFrame}
use Rattle.py_fields.specs.declared.layout.Layout.{Layout}
use Rattle.py_names.specs.declared.names_error.NamesError.{NamesError}
use Rattle.py_stacks.specs.declared.error.StackError.{StackError}
use Rattle.py_stacks.specs.StackError.{stack_fault}
use Rattle.task_sets.specs.Gathered.{gathered}
use Rattle.py_tasks.specs.declared.task.Chain.{Chain}
use Rattle.py_tasks.specs.declared.task.Member.{Member}
use Rattle.py_tasks.specs.Faults.{NoneBy, found_or_none}
use Rattle.py_tasks.specs.Shown.{ChainShown, chain_shown}

-- which kind of coroutine or generator the object at an address is; none where it is none of them
unfoldable pub kind_at : Places → Memory → ℕ → Found (Option Kind)
kind_at p m a = member.kind_at p m a

-- the same; none also where that can't be read
unfoldable pub known_kind_at : Places → Memory → ℕ → Found (Option Kind)
known_kind_at p m a = Ok (found_or_none (kind_at p m a))

-- a frame that was read, or none
abbrev pub IsFrame : Result (Option CoroutineFrame) StackError → Result (Option CoroutineFrame) NamesError → Type 0
IsFrame (Ok x) result = result ≡ Ok x
IsFrame (Err e) result = NoneBy (stack_fault e) result

-- what the frame of a member shows, where it has one
unfoldable pub frame_by : Layout → Family → Memory → Option Kind → ℕ → Found (Option CoroutineFrame)
frame_by l family m None a = Ok None
frame_by l family m (Some kind) a = Ok (found_or_none (frames.frame_at l family m a))

-- a member of a chain with its kind and what its frame shows
abbrev pub member_of : ℕ → Option Kind → Option CoroutineFrame → Member
member_of a kind frame = record { address = a; kind = kind; frame = frame }

-- a member of a chain
unfoldable pub member_at : Layout → Places → Memory → ℕ → Found Member
member_at l p m a = do
  kind ← known_kind_at p m a
  frame ← frame_by l p.family m kind a
  Ok (member_of a kind frame)

-- the member of a chain at an address
unfoldable pub some_member_at : Layout → Places → Memory → ℕ → Found (Option Member)
some_member_at l p m a = do
  x ← member_at l p m a
  Ok (Some x)

-- the member at an index of a chain's addresses
abbrev pub members_of : Layout → Places → Memory → List ℕ → ℕ → Found (Option Member)
members_of l p m addresses number = some_member_at l p m (get_or addresses number 0)

-- ---- the end of a chain as it is told

-- how a chain stops by a fault: at the bytes that are missing; any other is told as a stack without a top
abbrev pub missing_stop : Fault → Stop
missing_stop (Missing a n) = Unreadable a n
missing_stop _ = NoTop

-- why a chain stops, as it is told
abbrev pub stop_told : known.Stop → Stop
stop_told (stop.Future a) = Future a
stop_told stop.Yielding = Yielding
stop_told stop.Created = Created
stop_told stop.Running = Running
stop_told stop.Finished = Finished
stop_told stop.NoTop = NoTop
stop_told (stop.Other a class) = Other a class
stop_told (stop.Lost f) = missing_stop f

-- how a chain ends, as it is told
abbrev pub end_told : known.End → AwaitEnd
end_told (end.Stops why) = Stops (stop_told why)
end_told (end.Cycle a) = Cycle a
end_told (end.Cut a) = Cut a

-- the addresses of a chain's members, and how it ends
pub record AwaitsShown : Type 0 where
  pub members : List ℕ
  pub end : AwaitEnd

-- the addresses of a chain and how it ends, as it is told
abbrev pub chain_told : known.Chain → AwaitsShown
chain_told c = record { members = c.members; end = end_told c.end }

-- a chain that the code has, with the items of its vector
abbrev pub awaits_shown : Awaits → AwaitsShown
awaits_shown c = record { members = c.members.items; end = c.end }

-- a reader's result with the addresses of a chain and how it ends
abbrev pub awaits_result : {E : Type 0} → Result Awaits E → Result AwaitsShown E
awaits_result (Ok c) = Ok (awaits_shown c)
awaits_result (Err e) = Err e

-- the chain from an address on, of which so many members are met at most
unfoldable pub awaits_at : Places → Memory → ℕ → ℕ → Found AwaitsShown
awaits_at p m limit head = Ok (chain_told (chain_from (turn_at p m) [] limit head))

-- a chain of these members and this end
abbrev pub chain_with : List Member → AwaitEnd → ChainShown
chain_with members end = record { members = members; end = end }

-- a reader's result with a chain as it is shown
abbrev pub chain_result : {E : Type 0} → Result Chain E → Result ChainShown E
chain_result (Ok c) = Ok (chain_shown c)
chain_result (Err e) = Err e

-- the chain of what awaits what, the last member first, with what the frame of each shows
unfoldable pub chain_at : Layout → Places → Memory → ℕ → ℕ → Found ChainShown
chain_at l p m limit head = do
  awaits ← awaits_at p m limit head
  members ← gathered (members_of l p m awaits.members) (length awaits.members) 0
  Ok (chain_with (reverse members) awaits.end)
