-- Frames, as they are laid: the record, its code, the line table, the names' tuple, the texts, and the locals.
use Rattle.std.specs.Prelude.{ℕ, ◌+◌, ◌/◌, None, List, [], ◌∷◌, ◌++◌, length, unsigned_abs}
use Rattle.std.specs.Option.{unwrap_or}
use Rattle.std.specs.List.{flat_map}
use Rattle.py_fields.specs.declared.layout.Lasti.{Lasti}
use Rattle.py_fields.specs.declared.layout.Lasti.TheVariants.{Bytes as InBytes, Units, Pointer}
use Rattle.py_fields.specs.declared.layout.Layout.{Layout}
use Rattle.py_lines.specs.Coding.{coded}
use Rattle.object_builder.specs.Objects as objects
use Rattle.object_builder.specs.Objects.{Write, optional_write, object, aligned}
use Rattle.object_builder.specs.Objects.Value.{U64, U32, U8, Bytes}
use Rattle.memory_builder.specs.Program.{Frame}
use Rattle.object_builder.specs.Texts.{text_object}
use Rattle.memory_builder.specs.Chains.{addresses_from}
use Rattle.memory_builder.specs.Values.{address_array, laid_all, laid_name, laid_local}
use Rattle.memory_builder.specs.Sizes.{frame_len, local_size, name_size, rounded, table_len, text_len, tuple_len}
use Rattle.py_stacks.specs.Lines.{family_of}
use Rattle.std.specs.List.{sum_by}
use Rattle.memory_builder.specs.declared.values.TypesAt.{TypesAt}
use Rattle.memory_builder.specs.declared.frames.FrameSpots.{FrameSpots}

-- the line table
abbrev pub coded_lines : Layout → Frame → List ℕ
coded_lines l f = coded (family_of l.lines) f.first f.ranges

-- the first line, which is positive
abbrev pub first_number : Frame → ℕ
first_number f = unsigned_abs f.first

-- ---- where each stands

-- the address of a frame's code object, behind its record
abbrev pub code_place : Layout → ℕ → Frame → ℕ
code_place l a f = a + rounded (frame_len l f)

-- the address of the line table's bytes object, behind the code object
abbrev pub table_place : Layout → ℕ → Frame → ℕ
table_place l a f = code_place l a f + rounded l.code.size

-- the address of the tuple of the locals' names, behind the line table
abbrev pub tuple_place : Layout → ℕ → Frame → ℕ
tuple_place l a f = table_place l a f + rounded (table_len l f)

-- the address of the text of the file name, behind the tuple
abbrev pub file_place : Layout → ℕ → Frame → ℕ
file_place l a f = tuple_place l a f + rounded (tuple_len l f)

-- the address of the text of the function's name, behind the file name
abbrev pub name_place : Layout → ℕ → Frame → ℕ
name_place l a f = file_place l a f + rounded (text_len l f.filename)

-- the address of the first local's name, behind the function's name
abbrev pub names_place : Layout → ℕ → Frame → ℕ
names_place l a f = name_place l a f + rounded (text_len l f.name)

-- the address of the first local's value, behind the locals' names
abbrev pub values_place : Layout → ℕ → Frame → ℕ
values_place l a f = names_place l a f + sum_by (name_size l) f.locals

-- ---- what is written

-- where the code begins
abbrev pub start_in : Layout → ℕ → ℕ
start_in l code = code + unwrap_or l.code.start 0

-- the last instruction, as a frame has it: an offset in bytes or in code units of 2 bytes, or an address
abbrev pub instr_value : Lasti → (start offset : ℕ) → objects.Value
instr_value InBytes start offset = U32 offset
instr_value Units start offset = U32 (offset / 2)
instr_value Pointer start offset = U64 (start + offset)

-- the fields of a frame's record: its code, caller, last instruction and locals, and that a C call entered it
abbrev pub frame_writes : Layout → (code back offset : ℕ) → List ℕ → List Write
frame_writes l code back offset slots =
    record { at = l.frame.code; value = U64 code } ∷
    record { at = l.frame.back; value = U64 back } ∷
    record { at = l.frame.instr; value = instr_value l.lasti (start_in l code) offset } ∷
    optional_write l.frame.entry (U8 1) ∷
    record { at = l.frame.locals; value = Bytes slots } ∷ []

-- the fields of a code object, `PyCodeObject`: counts, first line, and the addresses of its other objects
abbrev pub code_writes : Layout → (args count first file name table names : ℕ) → List Write
code_writes l args count first file name table names =
    record { at = l.code.argcount; value = U32 args } ∷
    record { at = l.code.nlocals; value = U32 count } ∷
    record { at = l.code.first_line; value = U32 first } ∷
    record { at = l.code.filename; value = U64 file } ∷
    record { at = l.code.name; value = U64 name } ∷
    record { at = l.code.table; value = U64 table } ∷
    record { at = l.code.varnames; value = U64 names } ∷ []

-- the fields of a bytes object that has a line table, `PyBytesObject`: the length and the bytes
abbrev pub table_writes : Layout → List ℕ → List Write
table_writes l table =
    record { at = l.bytes.length; value = U64 (length table) } ∷
    record { at = l.bytes.at; value = Bytes table } ∷ []

-- the fields of a tuple, `PyTupleObject`: the count and the addresses of its items
abbrev pub tuple_writes : Layout → ℕ → List ℕ → List Write
tuple_writes l count names =
    record { at = l.tuple.count; value = U64 count } ∷
    record { at = l.tuple.at; value = Bytes names } ∷ []

-- ---- the group

-- the bytes object of a frame's line table
abbrev pub table_object : Layout → Frame → List ℕ
table_object l f = object (table_len l f) (table_writes l (coded_lines l f))

-- the records of a frame whose other objects stand at some spots, called by the one at another address
unfoldable pub laid_records : Layout → FrameSpots → ℕ → Frame → List ℕ
laid_records l s back f =
    aligned (object (frame_len l f) (frame_writes l s.code back f.offset
    (address_array (addresses_from (local_size l) s.values f.locals)))) ++
    (aligned (object l.code.size
    (code_writes l f.args (length f.locals) (first_number f) s.file s.name s.table s.tuple)) ++
    (aligned (table_object l f) ++
    aligned (object (tuple_len l f) (tuple_writes l (length f.locals)
    (address_array (addresses_from (name_size l) s.names f.locals))))))

-- its texts, and the values of its locals
unfoldable pub laid_contents : Layout → TypesAt → ℕ → Frame → List ℕ
laid_contents l t values f =
    aligned (text_object l None f.filename) ++
    (aligned (text_object l None f.name) ++
    (flat_map (laid_name l) f.locals ++
    laid_all (local_size l) (laid_local l t) values f.locals))

-- the addresses of a frame's other objects, by that of its record
abbrev pub spots_for : Layout → ℕ → Frame → FrameSpots
spots_for l a f = record {
  code = code_place l a f;
  table = table_place l a f;
  tuple = tuple_place l a f;
  file = file_place l a f;
  name = name_place l a f;
  names = names_place l a f;
  values = values_place l a f;
}

-- all objects of a frame that stands at an address, whose caller is at another one
unfoldable pub laid_frame : Layout → TypesAt → ℕ → ℕ → Frame → List ℕ
laid_frame l t a back f = laid_records l (spots_for l a f) back f ++ laid_contents l t (values_place l a f) f
