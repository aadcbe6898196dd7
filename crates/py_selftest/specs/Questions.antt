-- Questions whose answers are known: of which classes a frame, its code and what that holds are, that a byte of 0
-- follows what bytes hold, and that a thread of an interpreter's chain names that. All are CPython's rules
-- (`PyFrameObject` up to 3.10, `PyCodeObject`, `PyBytesObject`, `PyThreadState`); which are asked is this project's.
use Rattle.std.specs.Prelude.{ℕ, ◌+◌, ◌==◌, ◌&&◌, ◌/◌, ◌%◌, ◌++◌, not, nat_lt, nat_le, Bool, true, false, if◌then◌else◌}
use Rattle.std.specs.Prelude.{List, [], ◌∷◌, Option, Some, None, Ok}
use Rattle.process_memory.specs.Memory.{Memory, Found, ◌>>=◌, word_at}
use Rattle.py_fields.specs.declared.layout.Layout.{Layout}
use Rattle.py_selftest.specs.declared.questions.Answer.{Answer}
use Rattle.py_selftest.specs.declared.questions.Counted.{Counted}
use Rattle.py_selftest.specs.declared.questions.Counted.TheVariants.{Right, RightOfFrames}
use Rattle.py_selftest.specs.declared.questions.FrameTold.{FrameTold}
use Rattle.py_selftest.specs.declared.questions.Question.{Question}
use Rattle.py_selftest.specs.declared.questions.Question.TheVariants as question
use Rattle.py_selftest.specs.declared.telling.Release.{Release}
use Rattle.py_selftest.specs.declared.telling.Types.{Types}
use Rattle.py_selftest.specs.Telling.{is_before, kept, less}

-- the class of an object is a type, where that is known
unfoldable pub class_told : Layout → Memory → Option ℕ → ℕ → Found (Option Bool)
class_told l m None object = Ok None
class_told l m (Some of) object = do
  class ← word_at m (object + l.object.klass)
  Ok (Some (class == of))

-- the same of the object that a word of a record names
unfoldable pub member_class_told : Layout → Memory → Option ℕ → ℕ → ℕ → Found (Option Bool)
member_class_told l m of holder field = do
  object ← word_at m (holder + field)
  class_told l m of object

-- the flags of a class say that its objects are texts: bit 28 (`Py_TPFLAGS_UNICODE_SUBCLASS`), and of Python 2 also bit
-- 27 (`Py_TPFLAGS_STRING_SUBCLASS`)
abbrev pub has_texts : Release → ℕ → Bool
has_texts r flags = if is_before r 0 then not (flags / 134217728 % 4 == 0) else flags / 268435456 % 2 == 1

-- the object that a word of a record names is a text, of whatever class
unfoldable pub text_told : Layout → Memory → Release → ℕ → ℕ → Found (Option Bool)
text_told l m r holder field = do
  object ← word_at m (holder + field)
  class ← word_at m (object + l.object.klass)
  flags ← word_at m (class + l.klass.flags)
  Ok (Some (has_texts r flags))

-- the last of the 8 bytes of a word is 0
abbrev pub is_end : ℕ → Bool
is_end word = nat_lt word 72057594037927936

-- whether the last byte of the word at an offset of a bytes object is 0; none where there is no offset
unfoldable pub last_told : Memory → ℕ → Option ℕ → Found (Option Bool)
last_told m table None = Ok None
last_told m table (Some offset) = do
  word ← word_at m (table + offset)
  Ok (Some (is_end word))

-- whether a byte of 0 follows so many bytes; not where these are too many
unfoldable pub end_if : Layout → Memory → ℕ → ℕ → Bool → Found (Option Bool)
end_if l m table length true = Ok (Some false)
end_if l m table length false = last_told m table (less (length + l.bytes.at) 7)

-- a byte of 0 follows so many bytes; none does where they are 2^24 and more
abbrev pub end_told : Layout → Memory → ℕ → ℕ → Found (Option Bool)
end_told l m table length = end_if l m table length (nat_le 16777216 length)

-- a byte of 0 follows the line table of code
unfoldable pub table_told : Layout → Memory → ℕ → Found (Option Bool)
table_told l m code = do
  table ← word_at m (code + l.code.table)
  length ← word_at m (table + l.bytes.length)
  end_told l m table length

-- an instruction stands at most one code unit before those of code, which begin at `start`, and in the first 2^24 bytes
-- of them
abbrev pub stands_in : ℕ → ℕ → ℕ → Bool
stands_in code start at = nat_le (code + start) (at + 2) && nat_lt at (code + start + 16777216)

-- whether a frame's instruction stands in its code; none where it is not known where code begins
unfoldable pub instruction_told : Layout → Memory → Option ℕ → ℕ → ℕ → Found (Option Bool)
instruction_told l m None frame code = Ok None
instruction_told l m (Some start) frame code = do
  at ← word_at m (frame + l.frame.instr)
  Ok (Some (stands_in code start at))

-- bit 31 of a class's flags: its objects are types (`Py_TPFLAGS_TYPE_SUBCLASS`)
abbrev pub has_types : ℕ → Bool
has_types flags = flags / 2147483648 % 2 == 1

-- the class of an object is a type
unfoldable pub object_told : Layout → Memory → ℕ → Found (Option Bool)
object_told l m object = do
  class ← word_at m (object + l.object.klass)
  of_class ← word_at m (class + l.object.klass)
  flags ← word_at m (of_class + l.klass.flags)
  Ok (Some (has_types flags))

-- whether the class of a variable's value is a type; none where there is no value
abbrev pub value_told : Layout → Memory → ℕ → Bool → Found (Option Bool)
value_told l m object true = object_told l m object
value_told l m object false = Ok None

-- there is a first variable, by their number in 4 bytes, and a value of it
abbrev pub has_value : ℕ → ℕ → Bool
has_value count object = not (count % 4294967296 == 0) && not (object == 0)

-- the first variable of a frame has a class that is a type, where its code has one, and it has a value
unfoldable pub local_told : Layout → Memory → ℕ → ℕ → Found (Option Bool)
local_told l m frame code = do
  count ← word_at m (code + l.code.nlocals)
  object ← word_at m (frame + l.frame.locals)
  value_told l m object (has_value count object)

-- the type of the name of a function: in Python 2 it is that of bytes
abbrev pub text_type : Types → Release → Option ℕ
text_type t r = if is_before r 0 then t.bytes else t.text

-- the type of frames, where these are objects
abbrev pub frame_type : Types → Release → Option ℕ
frame_type t r = if is_before r 11 then t.frame else None

-- the answers of a frame with its code; none to what is not in memory
unfoldable pub frame_told : Layout → Memory → Release → Types → ℕ → ℕ → Found FrameTold
frame_told l m r t at of = do
  frame ← kept (class_told l m (frame_type t r) at)
  code ← kept (class_told l m t.code of)
  name ← kept (member_class_told l m (text_type t r) of l.code.name)
  file ← kept (text_told l m r of l.code.filename)
  variables ← kept (member_class_told l m t.tuple of l.code.varnames)
  table ← kept (member_class_told l m t.bytes of l.code.table)
  end ← kept (table_told l m of)
  instruction ← kept (instruction_told l m l.code.start at of)
  local ← kept (local_told l m at of)
  Ok (record {
    frame = frame;
    code = code;
    name = name;
    file = file;
    variables = variables;
    table = table;
    end = end;
    instruction = instruction;
    local = local;
  })

-- an answer more, if there is one
abbrev pub add : List Answer → Question → Option Bool → List Answer
add answers q None = answers
add answers q (Some right) = answers ++ record { question = q; right = right } ∷ []

-- those of a frame more
abbrev pub add_frame : List Answer → FrameTold → List Answer
add_frame answers t = add (add (add (add (add (add (add (add (add answers
    question.Frame t.frame) question.Code t.code) question.Name t.name) question.File t.file)
    question.Variables t.variables) question.Table t.table) question.End t.end)
    question.Instruction t.instruction) question.Local t.local

-- whether a question is asked of a frame
abbrev pub is_of_frame : Question → Bool
is_of_frame question.Interpreter = false
is_of_frame question.Pointer = false
is_of_frame question.Modules = false
is_of_frame question.Largest = false
is_of_frame question.Float = false
is_of_frame question.Truth = false
is_of_frame question.Frame = true
is_of_frame question.Code = true
is_of_frame question.Name = true
is_of_frame question.File = true
is_of_frame question.Variables = true
is_of_frame question.Table = true
is_of_frame question.End = true
is_of_frame question.Instruction = true
is_of_frame question.Local = true

-- whether an answer is right, and of a frame where only those are counted
abbrev pub is_counted : Counted → Answer → Bool
is_counted Right a = a.right
is_counted RightOfFrames a = a.right && is_of_frame a.question

-- 1 for what holds, else 0
abbrev pub one_if : Bool → ℕ
one_if true = 1
one_if false = 0

-- how many answers are counted
unfoldable pub count_known : Counted → List Answer → ℕ
count_known counted [] = 0
count_known counted (a ∷ rest) = one_if (is_counted counted a) + count_known counted rest

-- at least eight frames were met, and none of them has an answer that is right
abbrev pub has_no_right_frame : ℕ → List Answer → Bool
has_no_right_frame frames known = nat_le 8 frames && count_known RightOfFrames known == 0

-- a frame more, where fewer than eight were met: more are not counted
abbrev pub one_more : ℕ → ℕ
one_more frames = if nat_lt frames 8 then frames + 1 else frames
