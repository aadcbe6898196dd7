-- In which order exceptions are shown: as Python does (`TracebackException.format`, Lib/traceback.py), an exception's
-- cause stands before it, or its context, unless that is suppressed, and the members of a group behind it. That each
-- has its lines once, and how many lines there are, is this project's rule.
use Rattle.std.specs.Prelude.{ℕ, zero, suc, nat_eq, nat_lt, ◌+◌, ◌||◌, ◌≡◌, Bool, true, false, if◌then◌else◌, List, []}
use Rattle.std.specs.Prelude.{◌∷◌, ◌++◌, map, position, reverse, slice_get, Option, Some, None}
use Rattle.std.specs.List.{list_any}
use Rattle.exception_texts.specs.declared.plan.Line.{Line}
use Rattle.exception_texts.specs.declared.plan.Line.TheVariants as line
use Rattle.exception_texts.specs.declared.plan.Plan.{Plan}
use Rattle.exception_texts.specs.declared.plan.Todo.{Todo}
use Rattle.exception_texts.specs.declared.plan.Todo.TheVariants.{Show, Say}
use Rattle.thread_exceptions.specs.declared.discovery.Met.{Met}
use Rattle.thread_exceptions.specs.declared.exception.Parts.{Parts}
use Rattle.thread_exceptions.specs.declared.exception.What.{What}
use Rattle.thread_exceptions.specs.declared.exception.What.TheVariants as whats
use Rattle.thread_exceptions.specs.declared.groups.Members.{Members}
use Rattle.thread_exceptions.specs.declared.groups.Members.TheVariants as groups

-- members stand deeper, up to a depth
abbrev pub deeper : ℕ → ℕ
deeper depth = if nat_lt depth 16 then depth + 1 else depth

-- the exception at an address is to be shown, at this depth
abbrev pub show : ℕ → ℕ → Todo
show depth a = Show depth a

-- this line is to be shown
abbrev pub say : Line → Todo
say l = Say l

-- what stands before an exception without a cause: its context and a sentence, unless suppressed or 0
abbrev pub context_first : ℕ → Parts → List Todo
context_first depth p =
    if p.suppress_context || nat_eq p.context 0 then [] else Show depth p.context ∷ Say (line.Context depth) ∷ []

-- the cause of an exception, or its context
abbrev pub before : ℕ → Parts → List Todo
before depth p =
    if nat_eq p.cause 0 then context_first depth p else Show depth p.cause ∷ Say (line.Cause depth) ∷ []

-- its members
abbrev pub after : ℕ → Members → List Todo
after depth (groups.Group g) = map (show (deeper depth)) g.members.items
after depth groups.NoGroup = []
after depth (groups.Unreadable l) = []

-- an exception to be shown whole: what stands before it, its own lines, and its members
abbrev pub leads : ℕ → ℕ → Parts → Members → List Todo
leads depth number p members = (before depth p ++ Say (line.Own depth number) ∷ []) ++ after depth members

-- what is to be shown of the object of this number; one that is no exception has its own line only
abbrev pub expand_at : ℕ → ℕ → What → List Todo
expand_at depth number (whats.Exception p members) = leads depth number p members
expand_at depth number whats.Other = Say (line.Own depth number) ∷ []
expand_at depth number (whats.Unreadable l) = Say (line.Own depth number) ∷ []

-- whether an object that was met stands at this address
abbrev pub is_at : ℕ → Met → Bool
is_at a m = nat_eq m.addr a

-- the line for an object of which nothing is told
abbrev pub untold : ℕ → ℕ → List Todo
untold depth a = Say (line.Untold depth a) ∷ []

-- what is to be shown of the object of this number among those met; None where there is none
abbrev pub expand_met : ℕ → ℕ → ℕ → Option Met → List Todo
expand_met depth a number (Some m) = expand_at depth number m.what
expand_met depth a number None = untold depth a

-- what is to be shown of the object at an address, by its number among those met, if it has one
abbrev pub expand_by : List Met → ℕ → ℕ → Option ℕ → List Todo
expand_by met depth a (Some number) = expand_met depth a number (slice_get met number)
expand_by met depth a None = untold depth a

-- what is shown of the object at an address
abbrev pub expand : List Met → ℕ → ℕ → List Todo
expand met depth a = expand_by met depth a (position (is_at a) met)

-- the lines so far, what is to be shown, in order, and what has its lines
pub record State : Type 0 where
  pub lines : List Line
  pub todo : List Todo
  pub seen : List ℕ

-- the plan of the code as a state here: what is to be shown with the next one first
abbrev pub state_of : Plan → State
state_of p = record { lines = p.lines.items; todo = reverse p.todo.items; seen = p.seen.items }

-- the first of a list was taken off; None where the list was empty
abbrev pub Takes : Option Todo → List Todo → List Todo → Type 0
Takes None old new = (old ≡ []) × (new ≡ [])
Takes (Some t) old new = old ≡ t ∷ new

-- whether an address is among these
abbrev pub has : List ℕ → ℕ → Bool
has seen a = list_any (λ x. nat_eq x a) seen

-- one more line
abbrev pub add_line : Line → State → State
add_line l s = record { lines = s.lines ++ l ∷ []; todo = s.todo; seen = s.seen }

-- what is to be shown next, and an address that has its lines from now on
abbrev pub add_todo : List Todo → ℕ → State → State
add_todo more a s = record { lines = s.lines; todo = more ++ s.todo; seen = s.seen ++ a ∷ [] }

-- an exception that has its lines is named; else what it leads to is to be shown, and itself
abbrev pub turn : List Met → Todo → State → State
turn met (Show depth a) s =
    if has s.seen a then add_line (line.Again depth a) s else add_todo (expand met depth a) a s
turn met (Say l) s = add_line l s

-- only this rest is to be shown still
abbrev pub without_first : List Todo → State → State
without_first rest s = record { lines = s.lines; todo = rest; seen = s.seen }

-- one step: the first of what is to be shown; nothing changes where there is none
abbrev pub step_by : List Met → List Todo → State → State
step_by met [] s = s
step_by met (t ∷ rest) s = turn met t (without_first rest s)

-- what is to be shown next
abbrev pub step : List Met → State → State
step met s = step_by met s.todo s

-- the state after so many steps
unfoldable pub turns : List Met → ℕ → State → State
turns met zero s = s
turns met (suc n) s = step met (turns met n s)

-- the lines, and behind them that there is more, where something is to be shown still
abbrev pub finish_by : List Todo → List Line → List Line
finish_by [] lines = lines
finish_by (t ∷ rest) lines = lines ++ line.More ∷ []

-- the lines in the end
abbrev pub finish : State → List Line
finish s = finish_by s.todo s.lines

-- the state before the first step: no lines yet
abbrev pub begin : List Todo → State
begin roots = record { lines = []; todo = roots; seen = [] }

-- the lines of what is to be shown, at most so many
abbrev pub lines_of : List Met → List Todo → List Line
lines_of met roots = finish (turns met 65536 (begin roots))
