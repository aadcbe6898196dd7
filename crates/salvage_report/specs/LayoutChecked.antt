-- What a process says of its layout, by the symbols of its images. Which symbols name the built-in types and the
-- runtime record is CPython's rule (Include/cpython, `PyAPI_DATA`).
use Rattle.std.specs.Prelude.{◌≡◌, ℕ, ◌==◌, Bool, true, false, if◌then◌else◌, List, Option, Some, None, Ok, codes}
use Rattle.std.specs.Prelude.{map, option_map}
use Rattle.std.specs.List.{flat_map}
use Rattle.elf64_core.specs.Header.{machine_of}
use Rattle.elf64_core.specs.Notes.{Noted}
use Rattle.image_memory.specs.Backed.{regions_of}
use Rattle.image_memory.specs.Notes.{AreNotesOfCore}
use Rattle.process_memory.specs.Memory.{Found, Memory, byte_at}
use Rattle.py_fields.specs.declared.layout.Layout.{Layout}
use Rattle.py_fields.specs.declared.version.Version.{Version}
use Rattle.py_process.specs.Facts.{Known, known_of, symbol_known}
use Rattle.py_process.specs.Reports.{memory_in}
use Rattle.py_selftest.specs.Checking.{CheckShown, check_at, check_shown}
use Rattle.py_selftest.specs.declared.checking.LayoutCheck.{LayoutCheck}
use Rattle.py_selftest.specs.declared.telling.Release.{Release}
use Rattle.py_selftest.specs.declared.telling.Types.{Types}
use Rattle.py_selftest.specs.declared.walking.ThreadPlace.{ThreadPlace}
use Rattle.py_fronts.specs.declared.salvaged.SalvagedInterpreter.{SalvagedInterpreter}
use Rattle.py_fronts.specs.declared.thread_front.ThreadFront.{ThreadFront}
use Rattle.core_stacks.specs.Process.{OpenedProcess}
use Rattle.core_stacks.specs.declared.process.Process.{Process}
use Rattle.salvage_report.specs.Pointers.{pointers_of}

-- a version's major and minor
abbrev pub release_of : Version → Release
release_of v = record { major = v.major; minor = v.minor }

-- `bytes` is `str` in Python 2
abbrev pub bytes_symbol : Version → List ℕ
bytes_symbol v = if v.major == 2 then codes "PyString_Type" else codes "PyBytes_Type"

-- where the built-in types stand
abbrev pub types_of : Known → Version → Types
types_of k v = record {
  metatype = symbol_known k (codes "PyType_Type");
  code = symbol_known k (codes "PyCode_Type");
  frame = symbol_known k (codes "PyFrame_Type");
  text = symbol_known k (codes "PyUnicode_Type");
  tuple = symbol_known k (codes "PyTuple_Type");
  bytes = symbol_known k (bytes_symbol v);
  long = symbol_known k (codes "PyLong_Type");
}

-- a thread of an interpreter, by its record's address
abbrev pub thread_place : ℕ → ThreadFront → ThreadPlace
thread_place interpreter t = record { address = t.address; interpreter = interpreter }

-- where the threads of an interpreter stand
abbrev pub places_of : SalvagedInterpreter → List ThreadPlace
places_of i = map (thread_place i.front.address) i.front.threads.threads.items

-- the threads of the interpreters that are shown, in the order of the interpreters and of their chains
abbrev pub thread_places : List SalvagedInterpreter → List ThreadPlace
thread_places is = flat_map places_of is

-- what a process says of its layout, over its memory
abbrev pub checked_by : Memory → Layout → Known → Version → List SalvagedInterpreter → List ℕ → Found CheckShown
checked_by m l k v is pointers =
    check_at m l (types_of k v) (symbol_known k (codes "_PyRuntime")) (release_of v) pointers (thread_places is)

-- the layout of an opened process, beside what the process says, over the memory of its core and images, with the
-- threads that are shown and the thread pointers that are known
abbrev pub layout_checked : OpenedProcess → List SalvagedInterpreter → List ℕ → Found CheckShown
layout_checked o is pointers = checked_by (memory_in o.dumped) o.layout o.known o.version is pointers

-- the same of the code's own value of it
abbrev pub process_checked : Process → List SalvagedInterpreter → List ℕ → Found CheckShown
process_checked p is pointers =
    checked_by (byte_at (regions_of p.dump)) p.layout (known_of p.info) p.version is pointers

-- it is what is told by the thread pointers that the notes of a core tell
pub record CheckTold (bytes : List ℕ) (checked : List ℕ → Found CheckShown) (told : LayoutCheck) : Type 0 where
  pub notes : List Noted
  pub are : AreNotesOfCore bytes notes
  pub is : checked (pointers_of (machine_of bytes) notes) ≡ Ok (check_shown told)

-- it is told where it is asked for
abbrev pub CheckIs : Bool → List ℕ → (List ℕ → Found CheckShown) → Option LayoutCheck → Type 0
CheckIs false bytes checked told = told ≡ None
CheckIs true bytes checked None = ⊥
CheckIs true bytes checked (Some told) = CheckTold bytes checked told

-- what a process says of its layout, where that is asked for
abbrev pub check_of : Option LayoutCheck → Option CheckShown
check_of told = option_map check_shown told
