-- Where the parts of exceptions and of what they lead to stand, by a layout and the records beside it: which group says
-- what. That a group which is needed and isn't described leaves no places, nor one of which what is read would not lie
-- inside its record, is this project's rule.
use Rattle.std.specs.Prelude.{◌≡◌, ℕ, Option, Some, None}
use Rattle.py_fields.specs.declared.layout.Layout.{Layout}
use Rattle.py_records.specs.declared.exceptions.ExceptionGroupRecord.{ExceptionGroupRecord}
use Rattle.py_records.specs.declared.exceptions.ExceptionRecords.{ExceptionRecords}
use Rattle.py_records.specs.declared.exceptions.ImportErrorRecord.{ImportErrorRecord}
use Rattle.py_records.specs.declared.exceptions.OsErrorRecord.{OsErrorRecord}
use Rattle.py_records.specs.declared.exceptions.RaisedPartsRecord.{RaisedPartsRecord}
use Rattle.py_records.specs.declared.exceptions.SyntaxErrorRecord.{SyntaxErrorRecord}
use Rattle.py_records.specs.declared.exceptions.UnicodeErrorRecord.{UnicodeErrorRecord}
use Rattle.py_records.specs.declared.frames.FrameObjectRecord.{FrameObjectRecord}
use Rattle.py_records.specs.declared.frames.TracebackRecord.{TracebackRecord}
use Rattle.py_records.specs.declared.records.Records.{Records}
use Rattle.py_records.specs.declared.types.HeapTypeRecord.{HeapTypeRecord}
use Rattle.py_records.specs.declared.types.KlassRecord.{KlassRecord}
use Rattle.thread_exceptions.specs.declared.places.Places.{Places}
use Rattle.thread_exceptions.specs.Described.{ArePlaces}
use Rattle.py_exceptions.specs.declared.described.Described.{Described}
use Rattle.py_exceptions.specs.declared.entry.TracebackPlaces.{TracebackPlaces}
use Rattle.py_exceptions.specs.declared.name.ClassPlaces.{ClassPlaces}
use Rattle.py_exceptions.specs.declared.rule.FieldPlaces.{FieldPlaces}
use Rattle.py_exceptions.specs.Places.{IsSoundTraceback}

-- where a class has its flags, names, dict, base and text function (`PyTypeObject`, `PyHeapTypeObject`)
abbrev pub class_of : Layout → KlassRecord → HeapTypeRecord → ClassPlaces
class_of l klass heap = record {
  flags = l.klass.flags;
  name = l.klass.name;
  dict = klass.dict;
  qualname = heap.qualname;
  base = klass.base;
  to_str = klass.to_str;
}

-- where a frame object names the frame that it stands for (`f_frame`, from 3.11 on); none where it is the frame
abbrev pub inner_of : Option FrameObjectRecord → Option ℕ
inner_of None = None
inner_of (Some at) = Some at.frame

-- where an entry of a traceback has its parts (`PyTracebackObject`)
abbrev pub traceback_of : TracebackRecord → Option ℕ → TracebackPlaces
traceback_of at inner = record {
  size = at.size;
  next = at.next;
  frame = at.frame;
  lasti = at.lasti;
  line = at.line;
  inner = inner;
}

-- where a thread names the traceback of what it raises (`curexc_traceback`), in versions that have it
abbrev pub raised_traceback_of : Option RaisedPartsRecord → Option ℕ
raised_traceback_of None = None
raised_traceback_of (Some at) = Some at.traceback

-- fields of some classes' own
abbrev pub fields_by : Option OsErrorRecord → Option ImportErrorRecord → Option SyntaxErrorRecord
    → Option ExceptionGroupRecord → Option UnicodeErrorRecord → Option FieldPlaces
fields_by None imports syntaxes group unicode = None
fields_by (Some system) None syntaxes group unicode = None
fields_by (Some system) (Some imports) None group unicode = None
fields_by (Some system) (Some imports) (Some syntaxes) group unicode = Some (record {
  system = system;
  «import» = imports;
  «syntax» = syntaxes;
  group = group;
  unicode = unicode;
})

-- fields of some classes' own, by the records of a version
abbrev pub fields_of : ExceptionRecords → Option FieldPlaces
fields_of r = fields_by r.os_error r.import_error r.syntax_error r.exception_group r.unicode_error

-- the places of all parts, where the groups that are needed are described
abbrev pub described_by : Layout → Records → Places → Option KlassRecord → Option HeapTypeRecord
    → Option TracebackRecord → Option FieldPlaces → Option Described
described_by l r thread None heap traceback fields = None
described_by l r thread (Some klass) None traceback fields = None
described_by l r thread (Some klass) (Some heap) None fields = None
described_by l r thread (Some klass) (Some heap) (Some traceback) None = None
described_by l r thread (Some klass) (Some heap) (Some traceback) (Some fields) = Some (record {
  thread = thread;
  class = class_of l klass heap;
  fields = fields;
  traceback = traceback_of traceback (inner_of r.frames.frame_object);
  raised_traceback = raised_traceback_of r.exceptions.raised_parts;
})

-- the places as they are described, with those of threads
unfoldable pub with_thread : Layout → Records → Places → Option Described
with_thread l r thread = described_by l r thread r.types.klass r.types.heap_type r.frames.traceback (fields_of r.exceptions)

-- the places with those of threads, where what is read lies inside its record
abbrev pub AreWith : Layout → Records → Places → Option Described → Type 0
AreWith l r thread None = (d : Described) → with_thread l r thread ≡ Some d → IsSoundTraceback d.traceback → ⊥
AreWith l r thread (Some d) = (with_thread l r thread ≡ Some d) × IsSoundTraceback d.traceback

-- these are the places, where those of threads are described; else there are none
abbrev pub AreBy : Layout → Records → Option Places → Option Described → Type 0
AreBy l r None described = described ≡ None
AreBy l r (Some thread) described = AreWith l r thread described

-- these are the places: those of threads, and as the others are described
pub record AreDescribed (l : Layout) (r : Records) (described : Option Described) : Type 0 where
  pub thread : Option Places
  pub are_threads : ArePlaces l r thread
  pub are : AreBy l r thread described
