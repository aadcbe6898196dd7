-- How many bytes the objects of a program take in memory, by a layout. Each is as long as its record, or as what
-- stands behind its fields, and is followed by what fills it up to a multiple of 16. Where each stands is said nowhere
-- here: a length depends on no address.
use Rattle.std.specs.Prelude.{ℕ, ◌+◌, ◌-◌, ◌*◌, ◌^◌, max, min, Option, Some, None, length}
use Rattle.std.specs.List.{sum_by}
use Rattle.py_fields.specs.declared.layout.CframeAt.{CframeAt}
use Rattle.py_fields.specs.declared.layout.GilAt.{GilAt}
use Rattle.py_fields.specs.declared.layout.Layout.{Layout}
use Rattle.py_lines.specs.Coding.{coded}
use Rattle.py_stacks.specs.Lines.{family_of}
pub use Rattle.object_builder.specs.Sizes.{rounded}
unfoldable pub use Rattle.object_builder.specs.Sizes.{text_len}
use Rattle.memory_builder.specs.Program.{Item, Held, Local, Frame, Thread, Program}
use Rattle.memory_builder.specs.Program.Item.{Number, Words}
use Rattle.memory_builder.specs.Program.Held.{Single, Items}

-- a number that a u64 can hold, or else the greatest of those
abbrev pub capped : ℕ → ℕ
capped n = min n (2 ^ 64 - 1)

-- ---- values

-- a number has two digits of 4 bytes
abbrev pub number_len : Layout → ℕ
number_len l = max (max l.long.size l.object.size) (l.long.digits + 8)

-- the bytes of a list's record, which has the head of every object too
abbrev pub list_len : Layout → ℕ
list_len l = max l.list.size l.object.size

-- the bytes that a single value takes
unfoldable pub item_size : Layout → Item → ℕ
item_size l (Number n) = rounded (number_len l)
item_size l (Words cs) = rounded (text_len l cs)

-- a list has the addresses of its items beside its record
unfoldable pub held_size : Layout → Held → ℕ
held_size l (Single item) = item_size l item
held_size l (Items items) = rounded (list_len l) + rounded (8 * length items) + sum_by (item_size l) items

-- ---- frames

-- a frame has the addresses of its locals' values behind its fields
abbrev pub frame_len : Layout → Frame → ℕ
frame_len l f = max l.frame.size (l.frame.locals + 8 * length f.locals)

-- the bytes of the bytes object that has a frame's line table
abbrev pub table_len : Layout → Frame → ℕ
table_len l f = max l.bytes.size (l.bytes.at + length (coded (family_of l.lines) f.first f.ranges))

-- the names of the locals stand in a tuple
abbrev pub tuple_len : Layout → Frame → ℕ
tuple_len l f = max l.tuple.size (l.tuple.at + 8 * length f.locals)

-- the bytes that the text of a local's name takes
unfoldable pub name_size : Layout → Local → ℕ
name_size l v = rounded (text_len l v.name)

-- the bytes that a local's value takes
unfoldable pub local_size : Layout → Local → ℕ
local_size l v = held_size l v.value

-- the frame's records and texts, but for those of its locals
unfoldable pub records_size : Layout → Frame → ℕ
records_size l f = rounded (frame_len l f) + rounded l.code.size + rounded (table_len l f) + rounded (tuple_len l f)
    + rounded (text_len l f.filename) + rounded (text_len l f.name)

-- a frame, its code, line table and names, and its locals with their names
unfoldable pub frame_size : Layout → Frame → ℕ
frame_size l f = records_size l f + sum_by (name_size l) f.locals + sum_by (local_size l) f.locals

-- ---- threads

-- the bytes that a C frame takes: up to its word, and 0 where the layout has none
abbrev pub cframe_size : Option CframeAt → ℕ
cframe_size None = 0
cframe_size (Some c) = rounded (c.current + 8)

-- a thread, its C frame where there is one, and its frames
unfoldable pub thread_size : Layout → Thread → ℕ
thread_size l t = rounded l.thread.size + cframe_size l.cframe + sum_by (frame_size l) t.frames

-- ---- programs

-- where a word ends, if it is there
abbrev pub word_end : Option ℕ → ℕ
word_end None = 0
word_end (Some at) = at + 8

-- the bytes of the interpreter's record: up to the last of its words that are written
abbrev pub interpreter_len : Layout → ℕ
interpreter_len l = max (max (l.interpreter.threads + 8) (l.interpreter.modules + 8)) (word_end l.interpreter.gil)

-- the bytes that the lock's record takes; 0 where the layout has none
abbrev pub gil_size : Option GilAt → ℕ
gil_size None = 0
gil_size (Some g) = rounded g.size

-- a type, and its name
abbrev pub type_size : Layout → ℕ
type_size l = rounded l.klass.size + 128

-- the interpreter, the lock's record and three types
unfoldable pub shared_size : Layout → ℕ
shared_size l = rounded (interpreter_len l) + gil_size l.gil + 3 * type_size l

-- the bytes that a whole program takes
unfoldable pub program_size : Layout → Program → ℕ
program_size l p = shared_size l + sum_by (thread_size l) p.threads
