-- An example of a layout: with the families of CPython 3.9, and shorter records.
use Rattle.std.specs.Prelude.{Some, None, false}
use Rattle.py_fields.specs.declared.layout.Head.TheVariants.{Runtime}
use Rattle.py_fields.specs.declared.layout.Lock.TheVariants.{Runtime as RuntimeLock}
use Rattle.py_fields.specs.declared.layout.Frames.TheVariants.{Direct}
use Rattle.py_fields.specs.declared.layout.Lasti.TheVariants.{Bytes}
use Rattle.py_fields.specs.declared.layout.Lines.TheVariants.{Pairs}
use Rattle.py_fields.specs.declared.layout.Strings.TheVariants.{State}
use Rattle.py_fields.specs.declared.layout.Integers.TheVariants.{Signed}
use Rattle.py_fields.specs.declared.layout.Dicts.TheVariants.{General}
use Rattle.py_fields.specs.declared.layout.Managed.TheVariants.{Absent}
use Rattle.py_fields.specs.declared.layout.Layout.{Layout}

-- the layout of the example in docs/LAYOUTS.md
abbrev pub sample_layout : Layout
sample_layout = record {
  major = 3;
  first_minor = 9;
  last_minor = 9;
  bytes_text = false;
  head = Runtime;
  lock = RuntimeLock;
  frames = Direct;
  lasti = Bytes;
  lines = Pairs;
  strings = State;
  integers = Signed;
  dicts = General;
  managed = Absent;
  interpreter = record { threads = 8; modules = 16; gil = None };
  thread = record { size = 64; next = 8; interp = 16; id = 32; frame = 24; native_id = None };
  cframe = None;
  frame = record { size = 64; code = 16; back = 24; instr = 32; entry = None; locals = 56; code_tag_bits = 0 };
  code = record {
    size = 64;
    argcount = 16;
    nlocals = 20;
    first_line = 24;
    filename = 32;
    name = 40;
    table = 48;
    varnames = 56;
    start = None;
  };
  string = record {
    size = 72;
    length = 16;
    state = Some 32;
    pointer = Some 64;
    short_at = 48;
    long_at = Some 72;
    kind_shift = Some 2;
    compact_bit = Some 5;
    ascii_bit = Some 6;
  };
  bytes = record { size = 32; length = 16; at = 32 };
  tuple = record { size = 24; count = 16; at = 24 };
  list = record { size = 40; count = 16; items = 24 };
  object = record { size = 16; klass = 8 };
  klass = record { size = 48; name = 24; flags = 32; dict_offset = 40 };
  long = record { size = 32; count = 16; digits = 24 };
  small = record { size = 24; value = 16 };
  float = record { size = 24; value = 16 };
  dict = Some (record { size = 48; keys = 32; values = 40 });
  keys = Some (record { size = 40; used = 32; slots = Some 8; log2 = None; kind = None });
  heap = None;
  gil = None;
  offsets = None;
}
