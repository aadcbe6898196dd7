-- What is shown of a thread: what it raises, and what each of its items handles, the newest one first.
use Rattle.std.specs.Prelude.{ℕ, nat_eq, Bool, true, false, if◌then◌else◌, List, [], ◌∷◌, ◌++◌, map, position}
use Rattle.std.specs.Prelude.{slice_get}
use Rattle.std.specs.Prelude.{Option, Some, None}
use Rattle.std.specs.List.{flat_map}
use Rattle.exception_texts.specs.declared.plan.Line.TheVariants as line
use Rattle.exception_texts.specs.declared.plan.Todo.{Todo}
use Rattle.exception_texts.specs.declared.plan.Todo.TheVariants.{Show, Say}
use Rattle.exception_texts.specs.Plan.{is_at}
use Rattle.thread_exceptions.specs.declared.discovery.Met.{Met}
use Rattle.thread_exceptions.specs.declared.exception.What.{What}
use Rattle.thread_exceptions.specs.declared.exception.What.TheVariants as whats
use Rattle.thread_exceptions.specs.declared.links.LinkEnd.{LinkEnd}
use Rattle.thread_exceptions.specs.declared.links.LinkEnd.TheVariants.{Null, Unreadable, Cycle, Cut}
use Rattle.thread_exceptions.specs.declared.thread.Handled.{Handled}
use Rattle.thread_exceptions.specs.declared.thread.Owner.{Owner}
use Rattle.thread_exceptions.specs.declared.thread.Raised.{Raised}
use Rattle.thread_exceptions.specs.declared.thread.Raised.TheVariants as raised
use Rattle.thread_exceptions.specs.declared.thread.ThreadExceptions.{ThreadExceptions}
use Rattle.thread_exceptions.specs.declared.thread.Value.{Value}
use Rattle.thread_exceptions.specs.declared.thread.Value.TheVariants as value

-- a list of two
abbrev pub two : Todo → Todo → List Todo
two first second = first ∷ second ∷ []

-- whether an object is an exception that was read
abbrev pub is_exception : What → Bool
is_exception (whats.Exception p members) = true
is_exception whats.Other = false
is_exception (whats.Unreadable l) = false

-- whether there is an object, and it is an exception
abbrev pub is_exception_met : Option Met → Bool
is_exception_met (Some m) = is_exception m.what
is_exception_met None = false

-- whether the object of this number among those met is an exception
abbrev pub is_exception_by : List Met → Option ℕ → Bool
is_exception_by met (Some number) = is_exception_met (slice_get met number)
is_exception_by met None = false

-- whether an exception that was read stands at this address
abbrev pub is_exception_at : List Met → ℕ → Bool
is_exception_at met a = is_exception_by met (position (is_at a) met)

-- the exception at an address is shown, where there is one
abbrev pub show_if : List Met → ℕ → List Todo
show_if met a = if is_exception_at met a then Show 0 a ∷ [] else []

-- that something is raised by its type and value, and the value's own lines where it is an exception
abbrev pub parts_todo : List Met → ℕ → List Todo
parts_todo met a = two (Say line.Raised) (Say line.Parts) ++ show_if met a

-- what is raised
abbrev pub raised_todo : List Met → Raised → List Todo
raised_todo met raised.Nothing = []
raised_todo met (raised.Exception a) = two (Say line.Raised) (Show 0 a)
raised_todo met (raised.Parts class a) = parts_todo met a
raised_todo met (raised.Unreadable l) = two (Say line.Raised) (Say (line.Missing l))

-- what an item handles, and whose it is; nothing where its address is 0
abbrev pub value_todo : Owner → Value → List Todo
value_todo owner (value.At a) = if nat_eq a 0 then [] else two (Say (line.Handled owner)) (Show 0 a)
value_todo owner (value.Unreadable l) = two (Say (line.Handled owner)) (Say (line.Missing l))

-- what an item handles
abbrev pub handled_todo : Handled → List Todo
handled_todo h = value_todo h.owner h.value

-- what each of a thread's items handles, in order
abbrev pub each_handled : List Handled → List Todo
each_handled items = flat_map (λ h. handled_todo h) items

-- how the chain of items breaks off; nothing where it is whole
abbrev pub end_todo : LinkEnd → List Todo
end_todo Null = []
end_todo (Unreadable l) = Say (line.End (Unreadable l)) ∷ []
end_todo (Cycle a) = Say (line.End (Cycle a)) ∷ []
end_todo (Cut a) = Say (line.End (Cut a)) ∷ []

-- all that is shown of a thread, in order: what it raises, what it handles, and how that breaks off
abbrev pub roots_of : ThreadExceptions → List Todo
roots_of t = raised_todo t.met.items t.raised ++ (each_handled t.handled.items ++ end_todo t.end)
