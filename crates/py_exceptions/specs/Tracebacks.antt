-- Tracebacks: a chain of entries, each of which names that of the call behind it (`tb_next`). That the first 128 and
-- the last 128 of them are told, and 65,536 are met, is this project's rule.
use Rattle.std.specs.Prelude.{ℕ, ◌+◌, ◌-◌, Option, Some, None, List, [], length, map, take, drop, min}
use Rattle.process_memory.specs.Memory.{Memory}
use Rattle.py_fields.specs.declared.layout.Layout.{Layout}
use Rattle.thread_exceptions.specs.Links.{Chain, End, chain_from}
use Rattle.thread_exceptions.specs.Turns.{end_of, turn_at}
use Rattle.py_exceptions.specs.declared.entry.Entry.{Entry}
use Rattle.py_exceptions.specs.declared.entry.TracebackPlaces.{TracebackPlaces}
use Rattle.py_exceptions.specs.declared.traceback.Traceback.{Traceback}
use Rattle.py_exceptions.specs.declared.value.Value.{Value}
use Rattle.py_exceptions.specs.declared.value.Value.TheVariants as value
use Rattle.py_exceptions.specs.Frames.{entry_at}
use Rattle.py_exceptions.specs.Values.{value_told_at}

-- a traceback: its first entries, how many are left out, its last ones, and how it ends
pub record TracebackShown : Type 0 where
  pub first : List Entry
  pub left_out : ℕ
  pub last : List Entry
  pub end : End

-- a traceback, as the code has it
abbrev pub traceback_shown : Traceback → TracebackShown
traceback_shown t =
    record { first = t.first.items; left_out = t.left_out; last = t.last.items; end = end_of t.end }

-- the entries at some addresses, in order
abbrev pub entries_at : Layout → TracebackPlaces → Memory → List ℕ → List Entry
entries_at l p m addresses = map (entry_at l p m) addresses

-- how many of so many are told from the start on
abbrev pub first_count : ℕ → ℕ
first_count n = min n 128

-- a traceback, from its parts
abbrev pub shown_with : List Entry → ℕ → List Entry → End → TracebackShown
shown_with first left_out last end = record { first = first; left_out = left_out; last = last; end = end }

-- what is told of the entries at some addresses, of which so many are told from the start on and so many behind are not
abbrev pub told_by : Layout → TracebackPlaces → Memory → List ℕ → End → (count left_out : ℕ) → TracebackShown
told_by l p m members end count left_out =
    shown_with (entries_at l p m (take count members)) left_out (entries_at l p m (drop (count + left_out) members)) end

-- how many of so many behind the first ones are not told
abbrev pub left_of : ℕ → ℕ
left_of rest = rest - first_count rest

-- the traceback of the entries at these addresses, of which the first 128 and the last 128 are told
unfoldable pub told_in : Layout → TracebackPlaces → Memory → List ℕ → End → TracebackShown
told_in l p m members end =
    told_by l p m members end (first_count (length members)) (left_of (length members - first_count (length members)))

-- where a traceback begins: none where it is `None`
abbrev pub start_of : ℕ → Option Value → ℕ
start_of head (Some value.Nothing) = 0
start_of head (Some _) = head
start_of head None = head

-- the traceback of a chain of entries
abbrev pub told_of : Layout → TracebackPlaces → Memory → Chain → TracebackShown
told_of l p m chain = told_in l p m chain.members chain.end

-- the traceback whose first entry stands at an address
unfoldable pub traceback_at : Layout → TracebackPlaces → Memory → ℕ → TracebackShown
traceback_at l p m head =
    told_of l p m (chain_from (turn_at p.next m) [] 65536 (start_of head (value_told_at l m head)))
