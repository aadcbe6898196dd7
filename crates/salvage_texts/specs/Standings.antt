-- The lines of frames, and of members that have none.
use Rattle.std.specs.Prelude.{ℕ, ◌++◌, true, false, List, [], map, Option, Some, None, Vec, codes}
use Rattle.std.specs.Global.{Global}
use Rattle.std.specs.List.{concat}
use Rattle.py_builtins.specs.declared.error.ObjectError.{ObjectError}
use Rattle.py_builtins.specs.declared.error.ObjectError.TheVariants as object
use Rattle.py_stacks.specs.declared.error.StackError.{StackError}
use Rattle.py_stacks.specs.declared.error.StackError.TheVariants as stack
use Rattle.py_stacks.specs.declared.trace.Frame.{Frame}
use Rattle.py_stacks.specs.declared.trace.LocalVariable.{LocalVariable}
use Rattle.py_fronts.specs.declared.standing.Standing.{Standing}
use Rattle.py_fronts.specs.declared.standing.Standing.TheVariants as standing
use Rattle.salvage_texts.specs.Ends.{missing_text}
use Rattle.salvage_texts.specs.Escape.{escaped}
use Rattle.py_fronts.specs.Lines.{shown_line}
use Rattle.salvage_texts.specs.Lines.{line_text}
use Rattle.repr_json.specs.Shown.{text_in}
use Rattle.repr_json.specs.declared.shown.ShownValues.{ShownValues}

-- a frame's function, file and line
abbrev pub frame_line : Frame → List ℕ
frame_line f = codes "    " ++ (escaped true f.name ++ (codes " (" ++ (escaped true f.filename
    ++ (line_text (shown_line f.line) ++ codes ")\n"))))

-- a value, or a question mark where it isn't shown
abbrev pub value_text : Option (List ℕ) → List ℕ
value_text (Some value) = escaped false value
value_text None = codes "?"

-- the text of a value that is kept, which has no line's end, or what stands where none is
abbrev pub kept_text : Option (List ℕ) → (none : List ℕ) → List ℕ
kept_text (Some text) none = text
kept_text None none = none

-- the line of a local variable: its name and its value
abbrev pub local_text : ShownValues → LocalVariable → List ℕ
local_text values v = codes "        " ++ (escaped true v.name ++ (codes ": "
    ++ (kept_text (text_in values v.addr) (value_text v.repr) ++ codes "\n")))

-- the lines of a frame's local variables
abbrev pub locals_text : ShownValues → List LocalVariable → List ℕ
locals_text values locals = concat (map (λ v. local_text values v) locals)

-- the lines of locals, where they were asked for and are there
abbrev pub shown_locals : ShownValues → Option (Vec LocalVariable Global) → List ℕ
shown_locals values None = []
shown_locals values (Some locals) = locals_text values locals.items

-- why a frame's locals can't be read
abbrev pub fault_text : StackError → List ℕ
fault_text (stack.Unreadable addr len) = missing_text addr len
fault_text (stack.LocalsLimit count) = codes "more than 65535"
fault_text _ = codes "with a bad name or count"

-- the line that says why a frame's locals can't be read; none where they can
abbrev pub locals_fault : Option StackError → List ℕ
locals_fault None = []
locals_fault (Some fault) = codes "        ... locals " ++ (fault_text fault ++ codes "\n")

-- why a member has no names
abbrev pub why_text : ObjectError → List ℕ
why_text (object.Unreadable addr len) = missing_text addr len
why_text (object.TooLong len) = codes "a name that is too long"
why_text _ = codes "a name that is no text"

-- the line of a member without names. It doesn't end in a parenthesis, as each frame's line does
abbrev pub member_line : ObjectError → List ℕ
member_line why = codes "    ? " ++ (why_text why ++ codes "\n")

-- the line of what stands for a member
abbrev pub standing_line : Standing → List ℕ
standing_line (standing.Frame frame fault) = frame_line frame
standing_line (standing.Member address why) = member_line why

-- the lines of what stands for a member
abbrev pub standing_text : ShownValues → Standing → List ℕ
standing_text values (standing.Frame frame fault) =
    frame_line frame ++ (shown_locals values frame.locals ++ locals_fault fault)
standing_text values (standing.Member address why) = member_line why

-- the lines of a chain's members, in order
abbrev pub standings_text : ShownValues → List Standing → List ℕ
standings_text values standings = concat (map (λ s. standing_text values s) standings)
