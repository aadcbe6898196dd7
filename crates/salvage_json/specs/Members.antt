-- The JSON of members: frames with their locals, and those that have no names.
use Rattle.std.specs.Prelude.{ℕ, Bool, if◌then◌else◌, List, map, Option, Some, None, Vec, codes, encode_utf8_all}
use Rattle.std.specs.Global.{Global}
use Rattle.serde_json.specs.Data.{Data, array, boolean, member, no_members, null, number, object, string, unsigned}
use Rattle.serde_json.specs.View.{items_of}
use Rattle.py_stacks.specs.declared.error.StackError.{StackError}
use Rattle.py_stacks.specs.declared.trace.Frame.{Frame}
use Rattle.py_stacks.specs.declared.trace.LocalVariable.{LocalVariable}
use Rattle.py_fronts.specs.declared.standing.Standing.{Standing}
use Rattle.py_fronts.specs.declared.standing.Standing.TheVariants as standing
use Rattle.py_fronts.specs.Lines.{shown_line}
use Rattle.salvage_json.specs.Kinds.{address_tree, fault_or_null, why_tree}
use Rattle.repr_json.specs.Shown.{data_in, text_in, type_in}
use Rattle.repr_json.specs.declared.shown.ShownValues.{ShownValues}

-- a text in UTF-8, or null
abbrev pub text_tree : Option (List ℕ) → Data
text_tree (Some text) = string (encode_utf8_all text)
text_tree None = null

-- the text of a value that is kept, or what stands where none is
abbrev pub kept_text : Option (List ℕ) → (none : Data) → Data
kept_text (Some text) none = string text
kept_text None none = none

-- the JSON of a value that is kept, or null
abbrev pub kept_tree : Option Data → Data
kept_tree (Some tree) = tree
kept_tree None = null

-- what a variable is to its function
abbrev pub kind_word : (is_argument : Bool) → List ℕ
kind_word is_argument = if is_argument then codes "argument" else codes "local"

-- a local variable as JSON
abbrev pub local_tree : ShownValues → LocalVariable → Data
local_tree values l = object (
    member (codes "address") (address_tree l.addr) (
    member (codes "arg") (boolean l.arg) (
    member (codes "kind") (string (kind_word l.arg)) (
    member (codes "name") (string (encode_utf8_all l.name)) (
    member (codes "repr") (kept_text (text_in values l.addr) (text_tree l.repr)) (
    member (codes "type") (text_tree (type_in values l.addr)) (
    member (codes "value") (kept_tree (data_in values l.addr)) no_members)))))))

-- a frame's local variables as a JSON array
abbrev pub locals_tree : ShownValues → List LocalVariable → Data
locals_tree values locals = array (items_of (map (λ l. local_tree values l) locals))

-- the locals, where they were asked for and are there
abbrev pub shown_tree : ShownValues → Option (Vec LocalVariable Global) → Data
shown_tree values (Some locals) = locals_tree values locals.items
shown_tree values None = null

-- a frame as JSON; its line is 0 where it isn't known
abbrev pub frame_tree : ShownValues → Frame → Option StackError → Data
frame_tree values f fault = object (
    member (codes "filename") (string (encode_utf8_all f.filename)) (
    member (codes "line") (number (unsigned (shown_line f.line))) (
    member (codes "locals") (shown_tree values f.locals) (
    member (codes "locals_fault") (fault_or_null fault) (
    member (codes "name") (string (encode_utf8_all f.name)) no_members)))))

-- what stands for a member
abbrev pub standing_tree : ShownValues → Standing → Data
standing_tree values (standing.Frame frame fault) = frame_tree values frame fault
standing_tree values (standing.Member address why) = object (
    member (codes "address") (address_tree address) (
    member (codes "why") (why_tree why) no_members))

-- a chain's members as a JSON array
abbrev pub standings_tree : ShownValues → List Standing → Data
standings_tree values standings = array (items_of (map (λ s. standing_tree values s) standings))
