-- What of a process may tell numbers. That `type` is its own type, and that a build with other object headers has two
-- words more before a type's name of its own, is CPython's rule (`PyObject`, `Py_TRACE_REFS`, `Py_GIL_DISABLED`); so
-- are the cookie, the version and the lock's word of the table (`_Py_DebugOffsets`). That the types tell only where `type`
-- confirms one of these places by its own members, and the table only by the form of 3.13, is this project's.
use Rattle.std.specs.Prelude.{ℕ, ◌+◌, ◌/◌, ◌%◌, ◌==◌, ◌&&◌, not, Bool, false, if◌then◌else◌, is_some, nat_le}
use Rattle.std.specs.Prelude.{Option, Some, None, Ok}
use Rattle.process_memory.specs.Memory.{Memory, Found, ◌>>=◌, word_at}
use Rattle.py_selftest.specs.declared.telling.Release.{Release}
use Rattle.py_selftest.specs.declared.telling.Types.{Types}
use Rattle.py_selftest.specs.declared.trusting.Build.{Build}
use Rattle.py_selftest.specs.declared.trusting.Build.TheVariants.{FreeThreaded, TraceRefs}
use Rattle.py_selftest.specs.declared.trusting.Table.{Table}
use Rattle.py_selftest.specs.Telling.{is_before}

-- it is known what the types of a version tell: of 2.7, and of 3.6 to 3.13
unfoldable pub is_described : Release → Bool
is_described r = if r.major == 2 then r.minor == 7
    else r.major == 3 && nat_le 6 r.minor && nat_le r.minor 13

-- where a type names its own type, in bytes: 8 or, with longer object headers, 24; none where neither is `type`
abbrev pub own_from : ℕ → ℕ → ℕ → Option ℕ
own_from metatype usual wide =
    if usual == metatype then Some 8 else (if wide == metatype then Some 24 else None)

-- where `type` names its own type, which is itself
unfoldable pub own_place_at : Memory → Option ℕ → Found (Option ℕ)
own_place_at m None = Ok None
own_place_at m (Some metatype) = do
  usual ← word_at m (metatype + 8)
  wide ← word_at m (metatype + 24)
  Ok (own_from metatype usual wide)

-- `type` says that its word of a size stands where it is read
abbrev pub is_confirmed : Option ℕ → Option ℕ → Bool
is_confirmed None size = false
is_confirmed (Some own) None = false
is_confirmed (Some own) (Some size) = size == own + 24

-- it says that this stands elsewhere
abbrev pub is_doubted : Option ℕ → Option ℕ → Bool
is_doubted own size = is_some size && not (is_confirmed own size)

-- no type is known
abbrev pub no_types : Types
no_types = record {
  metatype = None;
  code = None;
  frame = None;
  text = None;
  tuple = None;
  bytes = None;
  long = None;
}

-- the types that tell: all, or none where `type` confirms nothing
abbrev pub trusted : Types → Option ℕ → Option ℕ → Types
trusted types own size = if is_confirmed own size then types else no_types

-- the form of 3.13, by the process's version and the table's
abbrev pub has_form : Release → ℕ → Bool
has_form r version = r.major == 3 && r.minor == 13 && version / 65536 == 0x030d

-- a table, by its cookie `xdebugpy`, its version, and whether there is no lock
abbrev pub table_by : Release → ℕ → ℕ → ℕ → Option Table
table_by r cookie version free = if cookie == 0x7970677562656478
    then Some (record { is_known = has_form r version; version = version; free_threaded = free == 1 }) else None

-- the table at the runtime's address, if there is one (`_Py_DebugOffsets`)
unfoldable pub table_at : Memory → Release → Option ℕ → Found (Option Table)
table_at m r None = Ok None
table_at m r (Some runtime) = do
  cookie ← word_at m (runtime + 0)
  version ← word_at m (runtime + 8)
  free ← word_at m (runtime + 16)
  Ok (table_by r cookie version free)

-- the table's address, where its form is known
abbrev pub address_if : Option Table → Option ℕ → Option ℕ
address_if None runtime = None
address_if (Some table) runtime = if table.is_known then runtime else None

-- the first two numbers of a version word (`PY_VERSION_HEX`)
abbrev pub release_by : ℕ → Release
release_by version = record { major = version / 16777216; minor = version / 65536 % 256 }

-- of which version a table says that it is, where its form is not known
abbrev pub other_of : Option Table → Option Release
other_of None = None
other_of (Some table) = if table.is_known then None else Some (release_by table.version)

-- whether a table says that there is no lock, as in a free-threaded build
abbrev pub is_free : Option Table → Bool
is_free None = false
is_free (Some table) = table.free_threaded

-- whether objects have two words more in their headers
abbrev pub is_wide : Option ℕ → Bool
is_wide None = false
is_wide (Some own) = own == 24

-- the build whose objects have two words more: with trace refs before 3.13, free-threaded from then on
abbrev pub wide_build : Release → Build
wide_build r = if is_before r 13 then TraceRefs else FreeThreaded

-- the build, where it is none of the usual ones
abbrev pub build_of : Release → Option ℕ → Option Table → Option Build
build_of r own table = if is_free table then Some FreeThreaded
    else (if is_wide own then Some (wide_build r) else None)
