-- The layout that a table without flaw says: each field is the value of the key of its group and name.
use Rattle.std.specs.Prelude.{List, Bool, ℕ, Some, None, cond, codes, is_some}
use Rattle.toml.specs.Data.{Members}
use Rattle.py_layout.specs.Words.{families_of}
use Rattle.py_layout.specs.Values.{group_at, number_at, optional_at, truth_at}
use Rattle.py_fields.specs.declared.layout.InterpreterAt.{InterpreterAt}
use Rattle.py_fields.specs.declared.layout.ThreadAt.{ThreadAt}
use Rattle.py_fields.specs.declared.layout.CframeAt.{CframeAt}
use Rattle.py_fields.specs.declared.layout.FrameAt.{FrameAt}
use Rattle.py_fields.specs.declared.layout.CodeAt.{CodeAt}
use Rattle.py_fields.specs.declared.layout.StringAt.{StringAt}
use Rattle.py_fields.specs.declared.layout.BytesAt.{BytesAt}
use Rattle.py_fields.specs.declared.layout.TupleAt.{TupleAt}
use Rattle.py_fields.specs.declared.layout.ListAt.{ListAt}
use Rattle.py_fields.specs.declared.layout.ObjectAt.{ObjectAt}
use Rattle.py_fields.specs.declared.layout.KlassAt.{KlassAt}
use Rattle.py_fields.specs.declared.layout.LongAt.{LongAt}
use Rattle.py_fields.specs.declared.layout.ValueAt.{ValueAt}
use Rattle.py_fields.specs.declared.layout.DictAt.{DictAt}
use Rattle.py_fields.specs.declared.layout.KeysAt.{KeysAt}
use Rattle.py_fields.specs.declared.layout.HeapAt.{HeapAt}
use Rattle.py_fields.specs.declared.layout.GilAt.{GilAt}
use Rattle.py_fields.specs.declared.layout.OffsetsAt.{OffsetsAt}
use Rattle.py_fields.specs.declared.layout.Layout.{Layout}

-- what a table says of the interpreter's record
abbrev pub interpreter_from : Members → InterpreterAt
interpreter_from ms = record {
  threads = number_at ms (Some (codes "interpreter")) (codes "threads");
  modules = number_at ms (Some (codes "interpreter")) (codes "modules");
  gil = optional_at ms (Some (codes "interpreter")) (codes "gil");
}

-- what a table says of a thread's record
abbrev pub thread_from : Members → ThreadAt
thread_from ms = record {
  size = number_at ms (Some (codes "thread")) (codes "size");
  next = number_at ms (Some (codes "thread")) (codes "next");
  interp = number_at ms (Some (codes "thread")) (codes "interp");
  id = number_at ms (Some (codes "thread")) (codes "id");
  frame = number_at ms (Some (codes "thread")) (codes "frame");
  native_id = optional_at ms (Some (codes "thread")) (codes "native_id");
}

-- what a table says of a `_PyCFrame`
abbrev pub cframe_from : Members → CframeAt
cframe_from ms = record {
  current = number_at ms (Some (codes "cframe")) (codes "current");
}

-- what a table says of a frame's record
abbrev pub frame_from : Members → FrameAt
frame_from ms = record {
  size = number_at ms (Some (codes "frame")) (codes "size");
  code = number_at ms (Some (codes "frame")) (codes "code");
  back = number_at ms (Some (codes "frame")) (codes "back");
  instr = number_at ms (Some (codes "frame")) (codes "instr");
  entry = optional_at ms (Some (codes "frame")) (codes "entry");
  locals = number_at ms (Some (codes "frame")) (codes "locals");
  code_tag_bits = number_at ms (Some (codes "frame")) (codes "code_tag_bits");
}

-- what a table says of a code object
abbrev pub code_from : Members → CodeAt
code_from ms = record {
  size = number_at ms (Some (codes "code")) (codes "size");
  argcount = number_at ms (Some (codes "code")) (codes "argcount");
  nlocals = number_at ms (Some (codes "code")) (codes "nlocals");
  first_line = number_at ms (Some (codes "code")) (codes "first_line");
  filename = number_at ms (Some (codes "code")) (codes "filename");
  name = number_at ms (Some (codes "code")) (codes "name");
  table = number_at ms (Some (codes "code")) (codes "table");
  varnames = number_at ms (Some (codes "code")) (codes "varnames");
  start = optional_at ms (Some (codes "code")) (codes "start");
}

-- what a table says of a text's record
abbrev pub string_from : Members → StringAt
string_from ms = record {
  size = number_at ms (Some (codes "string")) (codes "size");
  length = number_at ms (Some (codes "string")) (codes "length");
  state = optional_at ms (Some (codes "string")) (codes "state");
  pointer = optional_at ms (Some (codes "string")) (codes "pointer");
  short_at = number_at ms (Some (codes "string")) (codes "short_at");
  long_at = optional_at ms (Some (codes "string")) (codes "long_at");
  kind_shift = optional_at ms (Some (codes "string")) (codes "kind_shift");
  compact_bit = optional_at ms (Some (codes "string")) (codes "compact_bit");
  ascii_bit = optional_at ms (Some (codes "string")) (codes "ascii_bit");
}

-- what a table says of a bytes object
abbrev pub bytes_from : Members → BytesAt
bytes_from ms = record {
  size = number_at ms (Some (codes "bytes")) (codes "size");
  length = number_at ms (Some (codes "bytes")) (codes "length");
  at = number_at ms (Some (codes "bytes")) (codes "at");
}

-- what a table says of a tuple
abbrev pub tuple_from : Members → TupleAt
tuple_from ms = record {
  size = number_at ms (Some (codes "tuple")) (codes "size");
  count = number_at ms (Some (codes "tuple")) (codes "count");
  at = number_at ms (Some (codes "tuple")) (codes "at");
}

-- what a table says of a list
abbrev pub list_from : Members → ListAt
list_from ms = record {
  size = number_at ms (Some (codes "list")) (codes "size");
  count = number_at ms (Some (codes "list")) (codes "count");
  items = number_at ms (Some (codes "list")) (codes "items");
}

-- what a table says of the head of every object
abbrev pub object_from : Members → ObjectAt
object_from ms = record {
  size = number_at ms (Some (codes "object")) (codes "size");
  klass = number_at ms (Some (codes "object")) (codes "klass");
}

-- what a table says of a type's record
abbrev pub klass_from : Members → KlassAt
klass_from ms = record {
  size = number_at ms (Some (codes "klass")) (codes "size");
  name = number_at ms (Some (codes "klass")) (codes "name");
  flags = number_at ms (Some (codes "klass")) (codes "flags");
  dict_offset = number_at ms (Some (codes "klass")) (codes "dict_offset");
}

-- what a table says of an integer of any size
abbrev pub long_from : Members → LongAt
long_from ms = record {
  size = number_at ms (Some (codes "long")) (codes "size");
  count = number_at ms (Some (codes "long")) (codes "count");
  digits = number_at ms (Some (codes "long")) (codes "digits");
}

-- what a table says of a record with one value, a float or an integer of Python 2
abbrev pub value_from : Members → List ℕ → ValueAt
value_from ms group = record {
  size = number_at ms (Some group) (codes "size");
  value = number_at ms (Some group) (codes "value");
}

-- what a table says of a dict
abbrev pub dict_from : Members → DictAt
dict_from ms = record {
  size = number_at ms (Some (codes "dict")) (codes "size");
  keys = number_at ms (Some (codes "dict")) (codes "keys");
  values = number_at ms (Some (codes "dict")) (codes "values");
}

-- what a table says of the keys of a dict
abbrev pub keys_from : Members → KeysAt
keys_from ms = record {
  size = number_at ms (Some (codes "keys")) (codes "size");
  used = number_at ms (Some (codes "keys")) (codes "used");
  slots = optional_at ms (Some (codes "keys")) (codes "slots");
  log2 = optional_at ms (Some (codes "keys")) (codes "log2");
  kind = optional_at ms (Some (codes "keys")) (codes "kind");
}

-- what a table says of a heap type
abbrev pub heap_from : Members → HeapAt
heap_from ms = record {
  size = number_at ms (Some (codes "heap")) (codes "size");
  cached_keys = number_at ms (Some (codes "heap")) (codes "cached_keys");
  inline = number_at ms (Some (codes "heap")) (codes "inline");
}

-- what a table says of the record of the interpreter lock
abbrev pub gil_from : Members → GilAt
gil_from ms = record {
  size = number_at ms (Some (codes "gil")) (codes "size");
  locked = number_at ms (Some (codes "gil")) (codes "locked");
  holder = number_at ms (Some (codes "gil")) (codes "holder");
}

-- what a table says of `_Py_DebugOffsets`
abbrev pub offsets_from : Members → OffsetsAt
offsets_from ms = record {
  size = number_at ms (Some (codes "offsets")) (codes "size");
  head = number_at ms (Some (codes "offsets")) (codes "head");
}

-- whether a group is there
abbrev pub has_group : Members → List ℕ → Bool
has_group ms name = is_some (group_at ms name)

-- the layout that a table says; a number that is missing is 0
unfoldable pub layout_from : Members → Layout
layout_from ms = record {
  major = number_at ms None (codes "major");
  first_minor = number_at ms None (codes "first_minor");
  last_minor = number_at ms None (codes "last_minor");
  bytes_text = truth_at ms (codes "bytes_text");
  head = (families_of ms).head;
  lock = (families_of ms).lock;
  frames = (families_of ms).frames;
  lasti = (families_of ms).lasti;
  lines = (families_of ms).lines;
  strings = (families_of ms).strings;
  integers = (families_of ms).integers;
  dicts = (families_of ms).dicts;
  managed = (families_of ms).managed;
  interpreter = interpreter_from ms;
  thread = thread_from ms;
  cframe = cond (has_group ms (codes "cframe")) (Some (cframe_from ms)) None;
  frame = frame_from ms;
  code = code_from ms;
  string = string_from ms;
  bytes = bytes_from ms;
  tuple = tuple_from ms;
  list = list_from ms;
  object = object_from ms;
  klass = klass_from ms;
  long = long_from ms;
  small = value_from ms (codes "small");
  float = value_from ms (codes "float");
  dict = cond (has_group ms (codes "dict")) (Some (dict_from ms)) None;
  keys = cond (has_group ms (codes "keys")) (Some (keys_from ms)) None;
  heap = cond (has_group ms (codes "heap")) (Some (heap_from ms)) None;
  gil = cond (has_group ms (codes "gil")) (Some (gil_from ms)) None;
  offsets = cond (has_group ms (codes "offsets")) (Some (offsets_from ms)) None;
}
