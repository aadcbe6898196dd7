-- The JSON of exceptions. The keys of an object stand in the order of their bytes.
use Rattle.std.specs.Prelude.{ℕ, zero, suc, nat_eq, ◌++◌, Bool, true, false, if◌then◌else◌, List, [], ◌∷◌, length, map}
use Rattle.std.specs.Prelude.{Option, Some, None, codes, encode_utf8_all, slice_get}
use Rattle.std.specs.Fmt.{digits}
use Rattle.serde_json.specs.Data.{Data, Members as Keys, array, boolean, member, no_members, null, number, object}
use Rattle.serde_json.specs.Data.{string}
use Rattle.serde_json.specs.Data.{unsigned}
use Rattle.serde_json.specs.View.{items_of}
use Rattle.exception_texts.specs.Frames.{shown_line}
use Rattle.exception_texts.specs.Known.{knows}
use Rattle.exception_texts.specs.Said.{message_text}
use Rattle.exception_texts.specs.Text.{known_class, named_text}
use Rattle.exception_texts.specs.Values.{repr_text, str_text}
use Rattle.exception_texts.specs.declared.told.ThreadTold.{ThreadTold}
use Rattle.py_exceptions.specs.declared.name.ClassName.{ClassName}
use Rattle.py_exceptions.specs.declared.value.Value as field
use Rattle.py_exceptions.specs.declared.rule.Rule.{Rule}
use Rattle.py_exceptions.specs.declared.rule.Rule.TheVariants as rule
use Rattle.py_exceptions.specs.declared.entry.CalledFrame.{CalledFrame}
use Rattle.py_exceptions.specs.declared.entry.Entry.{Entry}
use Rattle.py_exceptions.specs.declared.notes.Notes.{Notes}
use Rattle.py_exceptions.specs.declared.notes.Notes.TheVariants as notes
use Rattle.py_exceptions.specs.declared.thread.RaisedParts.{RaisedParts}
use Rattle.py_exceptions.specs.declared.said.Said.{Said}
use Rattle.py_exceptions.specs.declared.exception.ToldException.{ToldException}
use Rattle.py_exceptions.specs.declared.thread.ToldThread.{ToldThread}
use Rattle.py_exceptions.specs.declared.traceback.Traceback.{Traceback}
use Rattle.py_exceptions.specs.declared.values.Values.{Values}
use Rattle.thread_exceptions.specs.declared.discovery.Met.{Met}
use Rattle.thread_exceptions.specs.declared.exception.Parts.{Parts}
use Rattle.thread_exceptions.specs.declared.exception.What.{What}
use Rattle.thread_exceptions.specs.declared.exception.What.TheVariants as whats
use Rattle.thread_exceptions.specs.declared.links.Lost.{Lost}
use Rattle.thread_exceptions.specs.declared.links.LinkEnd.{LinkEnd}
use Rattle.thread_exceptions.specs.declared.links.LinkEnd.TheVariants as links
use Rattle.thread_exceptions.specs.declared.thread.Handled.{Handled}
use Rattle.thread_exceptions.specs.declared.thread.Owner.{Owner}
use Rattle.thread_exceptions.specs.declared.thread.Owner.TheVariants as owner
use Rattle.thread_exceptions.specs.declared.thread.Raised.{Raised}
use Rattle.thread_exceptions.specs.declared.thread.Raised.TheVariants as raised
use Rattle.thread_exceptions.specs.declared.thread.Value.{Value}
use Rattle.thread_exceptions.specs.declared.thread.Value.TheVariants as value
use Rattle.thread_exceptions.specs.Groups.{Members, members_of}

-- ---- addresses, texts and ends

-- an address: `0x` and lower-case hexadecimal digits
abbrev pub address_text : ℕ → List ℕ
address_text a = codes "0x" ++ digits 16 false a

-- an address as JSON: a string of hexadecimal digits
abbrev pub address_tree : ℕ → Data
address_tree a = string (address_text a)

-- null where it is 0
abbrev pub link_tree : ℕ → Data
link_tree a = if nat_eq a 0 then null else address_tree a

-- a text as JSON; null where it can't be read
abbrev pub text_tree : Option (List ℕ) → Data
text_tree None = null
text_tree (Some text) = string (encode_utf8_all text)

-- a word as a JSON string
abbrev pub word_tree : List ℕ → Data
word_tree word = string word

-- bytes that can't be read, as JSON: their address and how many they are
abbrev pub lost_tree : Lost → Data
lost_tree l = object (
    member (codes "address") (string (address_text l.addr)) (
    member (codes "kind") (string (codes "unreadable")) (
    member (codes "length") (number (unsigned l.len)) no_members)))

-- a JSON object of an address and a kind
abbrev pub end_at : List ℕ → ℕ → Data
end_at kind a = object (
    member (codes "address") (string (address_text a)) (
    member (codes "kind") (string kind) no_members))

-- how a chain breaks off; null where it is whole
abbrev pub end_tree : LinkEnd → Data
end_tree links.Null = null
end_tree (links.Unreadable l) = lost_tree l
end_tree (links.Cycle a) = end_at (codes "cycle") a
end_tree (links.Cut a) = end_at (codes "cut") a

-- a class's name as JSON
abbrev pub own_class_tree : ClassName → Data
own_class_tree class = string (known_class class)

-- the same; `?` where it can't be read
abbrev pub class_tree : Option ClassName → Data
class_tree class = string (named_text class)

-- ---- values

-- a value as JSON, by its `repr`
abbrev pub repr_tree : Option field.Value → Data
repr_tree v = string (repr_text true v)

-- a value as JSON, by its `str`
abbrev pub str_tree : Option field.Value → Data
str_tree v = string (str_text true v)

-- values as a JSON array, by their `repr`
abbrev pub reprs_tree : List (Option field.Value) → Data
reprs_tree values = array (items_of (map (λ v. repr_tree v) values))

-- values as a JSON array, by their `str`
abbrev pub strs_tree : List (Option field.Value) → Data
strs_tree values = array (items_of (map (λ v. str_tree v) values))

-- a list, and how many more there are
abbrev pub listed_tree : ℕ → Data → Data
listed_tree left_out values = object (
    member (codes "left_out") (number (unsigned left_out)) (
    member (codes "values") values no_members))

-- values by their `repr`, and how many are left out
abbrev pub all_reprs_tree : Values → Data
all_reprs_tree v = listed_tree v.left_out (reprs_tree v.values.items)

-- an exception's arguments as JSON; null where they can't be read
abbrev pub arguments_tree : Option Values → Data
arguments_tree (Some v) = all_reprs_tree v
arguments_tree None = null

-- values by their `str`, and how many are left out
abbrev pub all_strs_tree : Values → Data
all_strs_tree v = listed_tree v.left_out (strs_tree v.values.items)

-- an empty list, of which none is left out, as JSON
abbrev pub no_values_tree : Data
no_values_tree = listed_tree 0 (array (items_of []))

-- an exception's notes (`__notes__`) as JSON; null where they can't be read
abbrev pub notes_tree : Notes → Data
notes_tree notes.Without = no_values_tree
notes_tree (notes.Listed v) = all_strs_tree v
notes_tree notes.Unreadable = null

-- what an exception says, where that is told exactly as Python shows it
abbrev pub message_tree : Said → Members → Data
message_tree s own = if knows s own then string (message_text true s own) else null

-- whose rule says it
abbrev pub rule_tree : Rule → Data
rule_tree rule.Plain = word_tree (codes "BaseException")
rule_tree rule.Key = word_tree (codes "KeyError")
rule_tree (rule.System e t f s) = word_tree (codes "OSError")
rule_tree (rule.Import t) = word_tree (codes "ImportError")
rule_tree (rule.Syntax t f l) = word_tree (codes "SyntaxError")
rule_tree (rule.Group t) = word_tree (codes "BaseExceptionGroup")
rule_tree (rule.Encode encoding d) = word_tree (codes "UnicodeEncodeError")
rule_tree (rule.Decode encoding d) = word_tree (codes "UnicodeDecodeError")
rule_tree (rule.Translate d) = word_tree (codes "UnicodeTranslateError")
rule_tree (rule.Own class) = own_class_tree class
rule_tree rule.Unreadable = null

-- ---- frames and members

-- a called function in a traceback as JSON; its line is 0 where it isn't known
abbrev pub frame_tree : CalledFrame → Data
frame_tree f = object (
    member (codes "filename") (text_tree f.filename) (
    member (codes "line") (number (unsigned (shown_line f.line))) (
    member (codes "name") (text_tree f.function) no_members)))

-- an entry's frame as JSON; null where it can't be read
abbrev pub own_frame_tree : Option CalledFrame → Data
own_frame_tree (Some f) = frame_tree f
own_frame_tree None = null

-- an entry of a traceback as JSON
abbrev pub entry_tree : Entry → Data
entry_tree e = own_frame_tree e.frame

-- the entries of a traceback as JSON, each by itself
abbrev pub entries_list : List Entry → List Data
entries_list es = map (λ e. entry_tree e) es

-- a traceback's frames as JSON, the oldest call first, without those left out
abbrev pub frames_tree : Traceback → Data
frames_tree t = array (items_of (entries_list t.first.items ++ entries_list t.last.items))

-- the same; null where the traceback can't be read
abbrev pub own_frames_tree : Option Traceback → Data
own_frames_tree (Some t) = frames_tree t
own_frames_tree None = null

-- addresses as a JSON array
abbrev pub addresses_tree : List ℕ → Data
addresses_tree its = array (items_of (map (λ a. address_tree a) its))

-- the members of an exception group by their addresses, and how many are left out
abbrev pub group_tree : List ℕ → ℕ → Data
group_tree its left_out = listed_tree left_out (addresses_tree its)

-- an exception's members as JSON; null where it is no group, or they can't be read
abbrev pub members_tree : Members → Data
members_tree (Members.Group its left_out) = group_tree its left_out
members_tree Members.NoGroup = null
members_tree (Members.Lost f) = null

-- ---- exceptions

-- the first five keys of an exception's JSON object
abbrev pub first_members : ℕ → Parts → ToldException → Keys
first_members a p e =
    member (codes "address") (address_tree a) (
    member (codes "args") (arguments_tree e.said.arguments) (
    member (codes "cause") (link_tree p.cause) (
    member (codes "context") (link_tree p.context) (
    member (codes "end") (end_tree e.traceback.end) no_members))))

-- the first ten keys of an exception's JSON object
abbrev pub next_members : ℕ → Parts → ToldException → Members → Keys
next_members a p e own =
    member (codes "address") (address_tree a) (
    member (codes "args") (arguments_tree e.said.arguments) (
    member (codes "cause") (link_tree p.cause) (
    member (codes "context") (link_tree p.context) (
    member (codes "end") (end_tree e.traceback.end) (
    member (codes "frames") (frames_tree e.traceback) (
    member (codes "frames_left_out") (number (unsigned e.traceback.left_out)) (
    member (codes "kind") (word_tree (codes "exception")) (
    member (codes "members") (members_tree own) (
    member (codes "message") (message_tree e.said own) no_members)))))))))

-- an exception as JSON
abbrev pub exception_tree : ℕ → Parts → ToldException → Members → Data
exception_tree a p e own = object (
    member (codes "address") (address_tree a) (
    member (codes "args") (arguments_tree e.said.arguments) (
    member (codes "cause") (link_tree p.cause) (
    member (codes "context") (link_tree p.context) (
    member (codes "end") (end_tree e.traceback.end) (
    member (codes "frames") (frames_tree e.traceback) (
    member (codes "frames_left_out") (number (unsigned e.traceback.left_out)) (
    member (codes "kind") (word_tree (codes "exception")) (
    member (codes "members") (members_tree own) (
    member (codes "message") (message_tree e.said own) (
    member (codes "message_by") (rule_tree e.said.rule) (
    member (codes "notes") (notes_tree e.notes) (
    member (codes "suppress_context") (boolean p.suppress_context) (
    member (codes "type") (class_tree e.class) no_members))))))))))))))

-- an exception as JSON, or only its address where nothing is told of it
abbrev pub told_tree : ℕ → Parts → Option ToldException → Members → Data
told_tree a p (Some e) own = exception_tree a p e own
told_tree a p None own = end_at (codes "not told") a

-- an object of which bytes can't be read, as JSON
abbrev pub unreadable_tree : ℕ → Lost → Data
unreadable_tree a l = object (
    member (codes "address") (string (address_text a)) (
    member (codes "fault") (lost_tree l) (
    member (codes "kind") (string (codes "unreadable")) no_members)))

-- what stands at an address as JSON: an exception, another object, or bytes that can't be read
abbrev pub what_tree : ℕ → What → Option ToldException → Data
what_tree a (whats.Exception p members) told = told_tree a p told (members_of members)
what_tree a whats.Other told = end_at (codes "other") a
what_tree a (whats.Unreadable l) told = unreadable_tree a l

-- an object that was met, as JSON
abbrev pub object_tree : Met → Option ToldException → Data
object_tree m told = what_tree m.addr m.what told

-- the same, where what is told of it may be missing
abbrev pub told_object : Met → Option (Option ToldException) → Data
told_object m (Some told) = object_tree m told
told_object m None = end_at (codes "not told") m.addr

-- the same, where the object itself may be missing: then `?`
abbrev pub met_object : Option Met → Option (Option ToldException) → Data
met_object (Some m) told = told_object m told
met_object None told = word_tree (codes "?")

-- the object of this number among those a thread leads to, as JSON
abbrev pub numbered_tree : ToldThread → ℕ → Data
numbered_tree t n = met_object (slice_get t.thread.met.items n) (slice_get t.told.items n)

-- the first objects
unfoldable pub first_trees : ToldThread → ℕ → List Data
first_trees t zero = []
first_trees t (suc n) = first_trees t n ++ numbered_tree t n ∷ []

-- all objects that a thread's exceptions lead to, as a JSON array
abbrev pub objects_tree : ToldThread → Data
objects_tree t = array (items_of (first_trees t (length t.thread.met.items)))

-- ---- threads

-- what is raised by its type, value and traceback, as JSON; the address is the value's
abbrev pub parts_tree : ℕ → RaisedParts → Data
parts_tree a p = object (
    member (codes "address") (link_tree a) (
    member (codes "frames") (own_frames_tree p.traceback) (
    member (codes "kind") (string (codes "parts")) (
    member (codes "type") (class_tree p.class) (
    member (codes "value") (repr_tree p.value) no_members)))))

-- the same; only the address where no more is told
abbrev pub own_parts_tree : ℕ → Option RaisedParts → Data
own_parts_tree a (Some p) = parts_tree a p
own_parts_tree a None = end_at (codes "parts") a

-- what a thread raises, as JSON; null where it raises nothing
abbrev pub raised_tree : Raised → Option RaisedParts → Data
raised_tree raised.Nothing parts = null
raised_tree (raised.Exception a) parts = end_at (codes "exception") a
raised_tree (raised.Parts class a) parts = own_parts_tree a parts
raised_tree (raised.Unreadable l) parts = lost_tree l

-- the address of the generator or coroutine that handles it, as JSON; null for the thread itself
abbrev pub running_tree : Owner → Data
running_tree owner.Thread = null
running_tree (owner.Running a) = address_tree a

-- the address that an item names, as JSON; null where it is 0 or can't be read
abbrev pub named_tree : Value → Data
named_tree (value.At a) = link_tree a
named_tree (value.Unreadable l) = null

-- which bytes of an item can't be read, as JSON; null where it was read
abbrev pub fault_tree : Value → Data
fault_tree (value.At a) = null
fault_tree (value.Unreadable l) = lost_tree l

-- what one item of a thread handles, as JSON
abbrev pub item_tree : Handled → Data
item_tree h = object (
    member (codes "address") (named_tree h.value) (
    member (codes "fault") (fault_tree h.value) (
    member (codes "running") (running_tree h.owner) no_members)))

-- what a thread's items handle, the newest first, as a JSON array
abbrev pub items_tree : List Handled → Data
items_tree its = array (items_of (map (λ h. item_tree h) its))

-- a thread's exceptions as JSON: what it raises and handles, and all objects that this leads to
abbrev pub thread_tree : ThreadTold → Data
thread_tree t = object (
    member (codes "end") (end_tree t.told.thread.end) (
    member (codes "exceptions") (objects_tree t.told) (
    member (codes "handled") (items_tree t.told.thread.handled.items) (
    member (codes "raised") (raised_tree t.told.thread.raised t.told.raised) (
    member (codes "thread_id") (number (unsigned t.thread_id)) no_members)))))

-- the exceptions of several threads as a JSON array
abbrev pub threads_tree : List ThreadTold → Data
threads_tree its = array (items_of (map (λ t. thread_tree t) its))
