-- A program, as it is laid: the interpreter, the lock's record, the three types, and the threads.
use Rattle.std.specs.Prelude.{ℕ, zero, suc, ◌+◌, ◌^◌, Option, Some, None, List, [], ◌∷◌, ◌++◌, codes, map}
use Rattle.std.specs.Prelude.{slice_index_or}
use Rattle.py_fields.specs.declared.layout.GilAt.{GilAt}
use Rattle.py_fields.specs.declared.layout.Layout.{Layout}
use Rattle.object_builder.specs.Objects.{Write, optional_write, object, aligned}
use Rattle.object_builder.specs.Objects.Value.{U64, U32, Bytes}
use Rattle.memory_builder.specs.Program.{Program, Thread}
use Rattle.memory_builder.specs.Chains.{head_of, addresses_from}
use Rattle.memory_builder.specs.Threads.{laid_threads}
use Rattle.memory_builder.specs.Sizes.{gil_size, interpreter_len, rounded, thread_size, type_size}
use Rattle.memory_builder.specs.declared.values.TypesAt.{TypesAt}

-- ---- the interpreter

-- the fields of an interpreter, `PyInterpreterState`: its first thread, no modules, and its lock's record
abbrev pub interpreter_writes : Layout → (first gil : ℕ) → List Write
interpreter_writes l first gil =
    record { at = l.interpreter.threads; value = U64 first } ∷
    record { at = l.interpreter.modules; value = U64 0 } ∷
    optional_write l.interpreter.gil (U64 gil) ∷ []

-- ---- the lock's record

-- what a lock's record has as `locked`: 1 where a thread holds it, and else 0
abbrev pub is_held : ℕ → ℕ
is_held zero = 0
is_held (suc holder) = 1

-- the fields of a lock's record, `_gil_runtime_state`: whether it is held, and the holder's address
abbrev pub gil_writes : GilAt → ℕ → List Write
gil_writes g holder =
    record { at = g.locked; value = U32 (is_held holder) } ∷ record { at = g.holder; value = U64 holder } ∷ []

-- the lock's record, where the layout has one
unfoldable pub laid_gil : Option GilAt → ℕ → List ℕ
laid_gil None holder = []
laid_gil (Some g) holder = aligned (object g.size (gil_writes g holder))

-- ---- the types

-- the fields of a type, `PyTypeObject`: its name's address, its flags, and no place of a dict
abbrev pub type_writes : Layout → (name flags : ℕ) → List Write
type_writes l name flags =
    record { at = l.klass.name; value = U64 name } ∷
    record { at = l.klass.flags; value = U64 flags } ∷
    record { at = l.klass.dict_offset; value = U64 0 } ∷ []

-- a name has 128 bytes
abbrev pub type_name : List ℕ → List ℕ
type_name name = object 128 (record { at = 0; value = Bytes name } ∷ [])

-- a type at an address, and its name behind it
unfoldable pub laid_type : Layout → (a flags : ℕ) → List ℕ → List ℕ
laid_type l a flags name =
    aligned (object l.klass.size (type_writes l (a + rounded l.klass.size) flags)) ++ aligned (type_name name)

-- ---- the program

-- the address of the lock's record, behind the interpreter
abbrev pub gil_place : Layout → ℕ → ℕ
gil_place l a = a + rounded (interpreter_len l)

-- the address of the first type, behind the lock's record
abbrev pub types_place : Layout → ℕ → ℕ
types_place l a = gil_place l a + gil_size l.gil

-- the addresses of the three types, one behind the other
abbrev pub types_at : Layout → ℕ → TypesAt
types_at l a = record { integer = a; text = a + type_size l; list = a + type_size l + type_size l }

-- the address of the first thread, behind the types
abbrev pub first_place : Layout → ℕ → ℕ
first_place l a = types_place l a + type_size l + type_size l + type_size l

-- where the thread stands that holds the lock; 0 where none does
abbrev pub place_or_none : List ℕ → Option ℕ → ℕ
place_or_none places None = 0
place_or_none places (Some i) = slice_index_or places i 0

-- the address of the thread that holds the lock; 0 where none does
abbrev pub owner_place : Layout → ℕ → Program → ℕ
owner_place l a p = place_or_none (addresses_from (thread_size l) (first_place l a) p.threads) p.owner

-- the id of the thread that holds the lock; 0 where none does
abbrev pub owner_id : Program → ℕ
owner_id p = place_or_none (map (λ (t : Thread). t.id) p.threads) p.owner

-- the types `int`, `str` and `list`, each with its `Py_TPFLAGS_*_SUBCLASS` flag (CPython's `Include/object.h`)
unfoldable pub three_types : Layout → TypesAt → List ℕ
three_types l t =
    laid_type l t.integer (2 ^ 24) (codes "int") ++
    (laid_type l t.text (2 ^ 28) (codes "str") ++ laid_type l t.list (2 ^ 25) (codes "list"))

-- the interpreter of a program that stands at an address
abbrev pub interpreter_object : Layout → ℕ → Program → List ℕ
interpreter_object l a p =
    object (interpreter_len l) (interpreter_writes l (head_of (first_place l a) p.threads) (gil_place l a))

-- all objects of a program from an address on
unfoldable pub laid_program : Layout → ℕ → Program → List ℕ
laid_program l a p =
    aligned (interpreter_object l a p) ++
    (laid_gil l.gil (owner_place l a p) ++
    (three_types l (types_at l (types_place l a)) ++
    laid_threads l (types_at l (types_place l a)) a (first_place l a) p.threads))
