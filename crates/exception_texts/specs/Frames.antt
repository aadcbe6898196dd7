-- The lines of an exception behind its own: its traceback and its notes. An exception's own lines stand 8 or more by 8
-- characters from the margin, and those behind them 4 further, so that none can be taken for the other.
use Rattle.std.specs.Prelude.{ℕ, zero, suc, ◌++◌, ◌==◌, Bool, true, false, if◌then◌else◌, List, [], ◌∷◌, map, Option}
use Rattle.std.specs.Prelude.{Some, None, codes, decimal, ℤ, pos, negsuc}
use Rattle.std.specs.Fmt.{digits}
use Rattle.std.specs.List.{concat}
use Rattle.exception_texts.specs.Values.{name_text, str_text}
use Rattle.py_exceptions.specs.declared.value.Value.{Value}
use Rattle.py_exceptions.specs.declared.values.Values.{Values}
use Rattle.py_exceptions.specs.declared.entry.CalledFrame.{CalledFrame}
use Rattle.py_exceptions.specs.declared.entry.Entry.{Entry}
use Rattle.py_exceptions.specs.declared.notes.Notes.{Notes}
use Rattle.py_exceptions.specs.declared.notes.Notes.TheVariants as notes
use Rattle.py_exceptions.specs.declared.traceback.Traceback.{Traceback}
use Rattle.thread_exceptions.specs.declared.links.Lost.{Lost}
use Rattle.thread_exceptions.specs.declared.links.LinkEnd.{LinkEnd}
use Rattle.thread_exceptions.specs.declared.links.LinkEnd.TheVariants.{Null, Unreadable, Cycle, Cut}

-- one step of indentation: 8 blanks
abbrev pub step_text : List ℕ
step_text = codes "        "

-- so many steps
unfoldable pub steps_text : ℕ → List ℕ
steps_text zero = []
steps_text (suc n) = steps_text n ++ codes "        "

-- what stands in front of an exception at a depth
abbrev pub indent_text : ℕ → List ℕ
indent_text depth = codes "        " ++ steps_text depth

-- and in front of its other lines
abbrev pub behind_text : ℕ → List ℕ
behind_text depth = indent_text depth ++ codes "    "

-- which bytes can't be read: `unreadable at 0x.., n bytes`
abbrev pub lost_text : Lost → List ℕ
lost_text l = codes "unreadable at 0x" ++ (digits 16 false l.addr ++ (codes ", " ++ (decimal l.len ++ codes " bytes")))

-- a line's number as it is shown: from 1 on, and 0 where none is known
abbrev pub shown_line : ℤ → ℕ
shown_line (pos n) = n
shown_line (negsuc n) = 0

-- where it is known
abbrev pub line_number : ℕ → List ℕ
line_number n = if n == 0 then [] else codes ":" ++ decimal n

-- a called function in a traceback, to the end of its line: name, file and, where it is known, line
abbrev pub frame_text : CalledFrame → List ℕ
frame_text f = name_text f.function ++ (codes " (" ++ (name_text f.filename
    ++ (line_number (shown_line f.line) ++ codes ")\n")))

-- an entry's frame, or that it can't be read
abbrev pub own_frame_text : Option CalledFrame → List ℕ
own_frame_text None = codes "? unreadable\n"
own_frame_text (Some f) = frame_text f

-- the line of an entry of a traceback, below an exception at this depth
abbrev pub entry_text : ℕ → Entry → List ℕ
entry_text depth e = behind_text depth ++ own_frame_text e.frame

-- the lines of several entries of a traceback
abbrev pub entries_text : ℕ → List Entry → List ℕ
entries_text depth entries = concat (map (λ e. entry_text depth e) entries)

-- that so many of something are left out
abbrev pub more_text : ℕ → List ℕ → List ℕ
more_text left_out what = codes "... " ++ (decimal left_out ++ what)

-- how many of something are left out
abbrev pub left_out_line : ℕ → ℕ → List ℕ → List ℕ
left_out_line depth left_out what = if left_out == 0 then [] else behind_text depth ++ more_text left_out what

-- a line that says which bytes can't be read, below an exception at this depth
abbrev pub lost_line : ℕ → Lost → List ℕ
lost_line depth l = behind_text depth ++ (codes "... " ++ (lost_text l ++ codes "\n"))

-- an address in hexadecimal digits, at the end of a line
abbrev pub address_end : ℕ → List ℕ
address_end a = codes "0x" ++ (digits 16 false a ++ codes "\n")

-- a line that ends in an address, below an exception at this depth
abbrev pub on_line : ℕ → List ℕ → ℕ → List ℕ
on_line depth lead a = behind_text depth ++ (lead ++ address_end a)

-- how a traceback breaks off, where it does
abbrev pub end_text : ℕ → LinkEnd → List ℕ
end_text depth Null = []
end_text depth (Unreadable l) = lost_line depth l
end_text depth (Cycle a) = on_line depth (codes "... and again from ") a
end_text depth (Cut a) = on_line depth (codes "... and more from ") a

-- a traceback, the oldest call first
abbrev pub trace_text : ℕ → Traceback → List ℕ
trace_text depth t = entries_text depth t.first.items ++ (left_out_line depth t.left_out (codes " more frames\n")
    ++ (entries_text depth t.last.items ++ end_text depth t.end))

-- a note, in quotes
abbrev pub note_line : ℕ → Option Value → List ℕ
note_line depth note = behind_text depth ++ (codes "Note: \"" ++ (str_text false note ++ codes "\"\n"))

-- the lines of an exception's notes
abbrev pub note_lines : ℕ → List (Option Value) → List ℕ
note_lines depth notes = concat (map (λ n. note_line depth n) notes)

-- the notes, and how many more are left out
abbrev pub some_notes : ℕ → Values → List ℕ
some_notes depth v = note_lines depth v.values.items ++ left_out_line depth v.left_out (codes " more notes\n")

-- the line that says that the notes can't be read
abbrev pub lost_notes : ℕ → List ℕ
lost_notes depth = behind_text depth ++ codes "... its notes are unreadable\n"

-- an exception's notes (`__notes__`); no line where it has none
abbrev pub notes_text : ℕ → Notes → List ℕ
notes_text depth notes.Without = []
notes_text depth (notes.Listed v) = some_notes depth v
notes_text depth notes.Unreadable = lost_notes depth
