-- The lines of exceptions, as Python shows them: an exception's cause or context stands before it, with a sentence
-- between (`TracebackException.format`, Lib/traceback.py). No line of an exception can be taken for another: its class
-- is in quotes where a space or a colon is in it, and its other lines stand between two steps of 8 characters.
use Rattle.std.specs.Prelude.{ℕ, nat_eq, not, ◌||◌, ◌&&◌, ◌++◌, Bool, true, false, if◌then◌else◌, List, [], ◌∷◌, map}
use Rattle.std.specs.Prelude.{Option, Some, None, codes, decimal, bytes_eq, encode_utf8_all, position, slice_get}
use Rattle.std.specs.Fmt.{digits}
use Rattle.std.specs.List.{concat, list_any}
use Rattle.salvage_texts.specs.Escape.{escaped}
use Rattle.exception_texts.specs.Frames.{behind_text, indent_text, left_out_line, lost_line, lost_text, notes_text}
use Rattle.exception_texts.specs.Frames.{trace_text}
use Rattle.exception_texts.specs.Plan.{is_at, lines_of}
use Rattle.exception_texts.specs.Roots.{roots_of}
use Rattle.exception_texts.specs.Said.{message_text}
use Rattle.exception_texts.specs.Unicode.{coded_shown, data_shown, is_known}
use Rattle.exception_texts.specs.Values.{name_text, str_text}
use Rattle.exception_texts.specs.declared.plan.Line.{Line}
use Rattle.exception_texts.specs.declared.plan.Line.TheVariants as line
use Rattle.exception_texts.specs.declared.told.ExceptionsOf.{ExceptionsOf}
use Rattle.exception_texts.specs.declared.told.ExceptionsOf.TheVariants.{NotDescribed, Read}
use Rattle.exception_texts.specs.declared.told.InterpreterExceptions.{InterpreterExceptions}
use Rattle.exception_texts.specs.declared.told.ThreadTold.{ThreadTold}
use Rattle.py_exceptions.specs.declared.name.ClassName.{ClassName}
use Rattle.py_exceptions.specs.declared.name.ClassName.TheVariants.{Whole, Parts}
use Rattle.py_exceptions.specs.declared.value.Value.{Value}
use Rattle.py_exceptions.specs.declared.value.Value.TheVariants as value
use Rattle.py_exceptions.specs.declared.rule.Rule.{Rule}
use Rattle.py_exceptions.specs.declared.rule.Rule.TheVariants as rule
use Rattle.py_exceptions.specs.declared.said.Said.{Said}
use Rattle.py_exceptions.specs.declared.thread.RaisedParts.{RaisedParts}
use Rattle.py_exceptions.specs.declared.exception.ToldException.{ToldException}
use Rattle.py_exceptions.specs.declared.thread.ToldThread.{ToldThread}
use Rattle.py_exceptions.specs.declared.traceback.Traceback.{Traceback}
use Rattle.thread_exceptions.specs.declared.discovery.Met.{Met}
use Rattle.thread_exceptions.specs.declared.exception.What.{What}
use Rattle.thread_exceptions.specs.declared.exception.What.TheVariants as whats
use Rattle.thread_exceptions.specs.declared.links.Lost.{Lost}
use Rattle.thread_exceptions.specs.declared.links.LinkEnd.{LinkEnd}
use Rattle.thread_exceptions.specs.declared.links.LinkEnd.TheVariants as links
use Rattle.thread_exceptions.specs.declared.thread.Owner.{Owner}
use Rattle.thread_exceptions.specs.declared.thread.Owner.TheVariants as owner
use Rattle.thread_exceptions.specs.declared.groups.Members as own
use Rattle.thread_exceptions.specs.declared.groups.Members.TheVariants as groups
use Rattle.thread_exceptions.specs.Groups.{Members, members_of}

-- ---- classes

-- whether a byte may stand behind a class's name: a blank or a colon
abbrev pub is_break : ℕ → Bool
is_break b = nat_eq b 32 || nat_eq b 58

-- whether some byte is a space or a colon
abbrev pub has_break : List ℕ → Bool
has_break bytes = list_any (λ b. is_break b) bytes

-- whether a name has no space and no colon, so that its end can be told
abbrev pub is_plain_name : List ℕ → Bool
is_plain_name name = not (has_break (encode_utf8_all name))

-- the same of one that may be missing
abbrev pub is_plain_part : Option (List ℕ) → Bool
is_plain_part None = true
is_plain_part (Some name) = is_plain_name name

-- whether a class's name, and its module's, have no space and no colon
abbrev pub is_plain_class : Option ClassName → Bool
is_plain_class (Some (Whole name)) = is_plain_name name
is_plain_class (Some (Parts m name)) = is_plain_part m && is_plain_part name
is_plain_class None = true

-- the modules that Python leaves out where it names an exception's class
abbrev pub is_top : List ℕ → Bool
is_top m = bytes_eq (encode_utf8_all m) (codes "builtins") || bytes_eq (encode_utf8_all m) (codes "__main__")

-- a module's name and a point; nothing for `builtins` and `__main__`
abbrev pub module_text : List ℕ → List ℕ
module_text m = if is_top m then [] else escaped true m ++ codes "."

-- a module's name and a point; `?.` where it can't be read
abbrev pub part_text : Option (List ℕ) → List ℕ
part_text None = codes "?."
part_text (Some m) = module_text m

-- a class by its module and its qualified name
abbrev pub qualified_text : Option (List ℕ) → Option (List ℕ) → List ℕ
qualified_text m name = part_text m ++ name_text name

-- a class's name, as it was read: whole, or by module and qualified name
abbrev pub known_class : ClassName → List ℕ
known_class (Whole name) = escaped true name
known_class (Parts m name) = qualified_text m name

-- a class's name; `?` where it can't be read
abbrev pub named_text : Option ClassName → List ℕ
named_text (Some class) = known_class class
named_text None = codes "?"

-- a double quote, unless the name is plain
abbrev pub quote_text : Bool → List ℕ
quote_text is_plain = if is_plain then [] else codes "\""

-- a class's name, in double quotes where a space or a colon is in it
abbrev pub class_text : Option ClassName → List ℕ
class_text class = quote_text (is_plain_class class) ++ (named_text class ++ quote_text (is_plain_class class))

-- ---- an exception

-- a text behind a colon; nothing where it is empty
abbrev pub colon_text : List ℕ → List ℕ
colon_text [] = []
colon_text (c ∷ cs) = codes ": " ++ c ∷ cs

-- whether an exception's arguments are told, as what it says isn't known
abbrev pub tells_arguments : Rule → Bool
tells_arguments (rule.Own class) = true
tells_arguments rule.Unreadable = true
tells_arguments rule.Plain = false
tells_arguments rule.Key = false
tells_arguments (rule.System e t f s) = false
tells_arguments (rule.Import t) = false
tells_arguments (rule.Syntax t f l) = false
tells_arguments (rule.Group t) = false
tells_arguments (rule.Encode encoding d) = not (is_known (coded_shown encoding d))
tells_arguments (rule.Decode encoding d) = not (is_known (coded_shown encoding d))
tells_arguments (rule.Translate d) = not (is_known (data_shown d))

-- the words between a class and its arguments
unfoldable pub arguments_lead : List ℕ
arguments_lead = codes " with the arguments "

-- an exception's arguments, behind words that say so
abbrev pub by_arguments : Said → Members → List ℕ
by_arguments s own = arguments_lead ++ message_text false s own

-- what an exception says, behind a colon
abbrev pub by_text : Said → Members → List ℕ
by_text s own = colon_text (message_text false s own)

-- what stands behind an exception's class: what it says, or its arguments
abbrev pub says_text : Said → Members → List ℕ
says_text s own = if tells_arguments s.rule then by_arguments s own else by_text s own

-- the first line of an exception: its class, and what it says
abbrev pub head_line : ℕ → ToldException → Members → List ℕ
head_line depth e own = indent_text depth ++ (class_text e.class ++ (says_text e.said own ++ codes "\n"))

-- how many members of a group are left out, or that they can't be read
abbrev pub members_end : ℕ → own.Members → List ℕ
members_end depth (groups.Group g) = left_out_line depth g.left_out (codes " more members\n")
members_end depth groups.NoGroup = []
members_end depth (groups.Unreadable l) = lost_line depth l

-- an exception's own lines
abbrev pub exception_lines : ℕ → ToldException → own.Members → List ℕ
exception_lines depth e members = head_line depth e (members_of members) ++ (notes_text depth e.notes
    ++ (trace_text depth e.traceback ++ members_end depth members))

-- ---- lines

-- the line for an exception whose bytes can't be read
abbrev pub missing_line : ℕ → Lost → List ℕ
missing_line depth l = indent_text depth ++ (codes "... " ++ (lost_text l ++ codes "\n"))

-- an address behind ` at 0x`, and what ends the line
abbrev pub at_end : ℕ → List ℕ → List ℕ
at_end a end = codes " at 0x" ++ (digits 16 false a ++ end)

-- how a line about an object begins that isn't told as an exception
unfoldable pub object_lead : List ℕ
object_lead = codes "... the object"

-- the line for the object at an address that isn't told as an exception, with the reason at its end
abbrev pub unknown_line : ℕ → ℕ → List ℕ → List ℕ
unknown_line depth a end = indent_text depth ++ (object_lead ++ at_end a end)

-- the lines of an exception, or that nothing is told of the object at its address
abbrev pub told_lines : ℕ → ℕ → Option ToldException → own.Members → List ℕ
told_lines depth a (Some e) members = exception_lines depth e members
told_lines depth a None members = unknown_line depth a (codes " is not told\n")

-- the lines of what stands at an address: an exception, another object, or bytes that can't be read
abbrev pub what_lines : ℕ → ℕ → What → Option ToldException → List ℕ
what_lines depth a (whats.Exception p members) told = told_lines depth a told members
what_lines depth a whats.Other told = unknown_line depth a (codes " is no exception\n")
what_lines depth a (whats.Unreadable l) told = missing_line depth l

-- the lines of an object that was met
abbrev pub object_lines : ℕ → Met → Option ToldException → List ℕ
object_lines depth m told = what_lines depth m.addr m.what told

-- the lines of an object by what was met and what is told; none where one of them is missing
abbrev pub both_lines : ℕ → Option Met → Option (Option ToldException) → List ℕ
both_lines depth (Some m) (Some told) = object_lines depth m told
both_lines depth (Some m) None = []
both_lines depth None (Some told) = []
both_lines depth None None = []

-- the object of a number
abbrev pub own_lines : ToldThread → ℕ → ℕ → List ℕ
own_lines t depth number = both_lines depth (slice_get t.thread.met.items number) (slice_get t.told.items number)

-- a sentence between two exceptions, at this depth
abbrev pub sentence_line : ℕ → List ℕ → List ℕ
sentence_line depth sentence = indent_text depth ++ sentence

-- that what follows is handled, by the thread or in a generator or coroutine that runs
abbrev pub owner_line : Owner → List ℕ
owner_line owner.Thread = codes "    Handling:\n"
owner_line (owner.Running a) = codes "    Handling, in the generator or coroutine" ++ at_end a (codes ":\n")

-- the class of an exception; `?` where nothing is told of it
abbrev pub told_class : Option ToldException → List ℕ
told_class (Some e) = class_text e.class
told_class None = codes "?"

-- the same; `?` where there is no object of this number
abbrev pub class_by : Option (Option ToldException) → List ℕ
class_by (Some told) = told_class told
class_by None = codes "?"

-- the class of the object of this number; `?` where it has none
abbrev pub class_at : ToldThread → Option ℕ → List ℕ
class_at t (Some number) = class_by (slice_get t.told.items number)
class_at t None = codes "?"

-- an exception that has its lines elsewhere, by its class and its address
abbrev pub again_line : ToldThread → ℕ → ℕ → List ℕ
again_line t depth a = indent_text depth ++ (codes "... " ++ (class_at t (position (is_at a) t.thread.met.items)
    ++ at_end a (codes " again\n")))

-- a value as it is printed, behind a colon
abbrev pub behind_colon : Option Value → List ℕ
behind_colon v = codes ": " ++ str_text false v

-- the value of what is raised by its type, behind a colon; nothing where it is none or another object
abbrev pub value_part : Option Value → List ℕ
value_part (Some value.Absent) = []
value_part (Some value.Nothing) = []
value_part (Some (value.Other a class)) = []
value_part (Some (value.Text t)) = behind_colon (Some (value.Text t))
value_part (Some (value.LongText a)) = behind_colon (Some (value.LongText a))
value_part (Some (value.Number n)) = behind_colon (Some (value.Number n))
value_part (Some (value.LongNumber a negative)) = behind_colon (Some (value.LongNumber a negative))
value_part (Some (value.Truth truth)) = behind_colon (Some (value.Truth truth))
value_part (Some (value.Float bits)) = behind_colon (Some (value.Float bits))
value_part None = behind_colon None

-- the line for a traceback that can't be read
unfoldable pub no_trace : List ℕ
no_trace = codes "            ... its traceback is unreadable\n"

-- the lines of the thread's traceback, or that it can't be read
abbrev pub own_trace : Option Traceback → List ℕ
own_trace (Some t) = trace_text 0 t
own_trace None = no_trace

-- what is raised by its type and what it is made of, with the thread's traceback
abbrev pub parts_lines : RaisedParts → List ℕ
parts_lines p = indent_text 0 ++ (class_text p.class ++ (value_part p.value ++ (codes "\n" ++ own_trace p.traceback)))

-- what is raised by its type, value and traceback; no line where that isn't told
abbrev pub own_parts : Option RaisedParts → List ℕ
own_parts (Some p) = parts_lines p
own_parts None = []

-- the line for the items from this address on, which are not told
abbrev pub items_on : ℕ → List ℕ
items_on a = codes "    ... and what is handled by the items from 0x" ++ (digits 16 false a ++ codes " on\n")

-- how the chain of handled exceptions breaks off; no line where it is whole
abbrev pub items_end : LinkEnd → List ℕ
items_end links.Null = []
items_end (links.Unreadable l) = codes "    ... what else is handled is " ++ (lost_text l ++ codes "\n")
items_end (links.Cycle a) = items_on a
items_end (links.Cut a) = items_on a

-- a line of the plan as text, or all lines of one exception
abbrev pub line_text : ToldThread → Line → List ℕ
line_text t line.Raised = codes "    Raised:\n"
line_text t line.Parts = own_parts t.raised
line_text t (line.Handled o) = owner_line o
line_text t (line.Missing l) = missing_line 0 l
line_text t (line.End e) = items_end e
line_text t (line.Cause depth) =
    sentence_line depth (codes "The above exception was the direct cause of the following exception:\n")
line_text t (line.Context depth) =
    sentence_line depth (codes "During handling of the above exception, another exception occurred:\n")
line_text t (line.Own depth number) = own_lines t depth number
line_text t (line.Again depth a) = again_line t depth a
line_text t (line.Untold depth a) = unknown_line depth a (codes " is not told\n")
line_text t line.More = codes "    ... and more\n"

-- the lines of a plan as text
abbrev pub lines_text : ToldThread → List Line → List ℕ
lines_text t lines = concat (map (λ l. line_text t l) lines)

-- ---- threads

-- whose exceptions they are, where there are any
abbrev pub title_text : ℕ → List Line → List ℕ
title_text id [] = []
title_text id (l ∷ ls) = codes "Exceptions of thread 0x" ++ (digits 16 true id ++ codes ":\n")

-- a thread's lines under their title
abbrev pub titled_text : ThreadTold → List Line → List ℕ
titled_text t lines = title_text t.thread_id lines ++ lines_text t.told lines

-- a thread; one that neither raises nor handles any has no lines
abbrev pub thread_text : ThreadTold → List ℕ
thread_text t = titled_text t (lines_of t.told.thread.met.items (roots_of t.told.thread))

-- the exceptions of several threads, in order
abbrev pub threads_text : List ThreadTold → List ℕ
threads_text threads = concat (map (λ t. thread_text t) threads)

-- the exceptions of an interpreter's threads, or that they are not described for its version
abbrev pub of_text : ExceptionsOf → List ℕ
of_text NotDescribed = codes "Exceptions are not told: not described for this version\n"
of_text (Read threads) = threads_text threads.items

-- those of an interpreter's threads
abbrev pub interpreter_text : InterpreterExceptions → List ℕ
interpreter_text i = of_text i.exceptions
