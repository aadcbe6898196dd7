-- Names of classes. A class of C's has its whole name in its record (`tp_name`), which ends at its first nul; one of
-- the heap (bit 9 of its flags, `Py_TPFLAGS_HEAPTYPE`, Include/object.h) has its qualified name behind its record
-- (`ht_qualname`, Include/cpython/object.h), and the name of its module in its dict. That 128 bytes of a name of C's
-- are looked at is this project's rule.
use Rattle.std.specs.Prelude.{ℕ, ◌+◌, ◌/◌, ◌%◌, ◌^◌, nat_eq, Bool, true, false, Option, Some, None, List, Ok, codes}
use Rattle.std.specs.Prelude.{if◌then◌else◌}
use Rattle.std.specs.Str.{is_utf8, chars}
use Rattle.elf64_core.specs.Nul.{until_nul}
use Rattle.process_memory.specs.Memory.{Found, Memory, ◌>>=◌, record_at, word_at}
use Rattle.py_fields.specs.declared.layout.Layout.{Layout}
use Rattle.py_exceptions.specs.declared.name.ClassName.{ClassName}
use Rattle.py_exceptions.specs.declared.name.ClassName.TheVariants.{Whole, Parts}
use Rattle.py_exceptions.specs.declared.name.ClassPlaces.{ClassPlaces}
use Rattle.py_exceptions.specs.Entries.{entry_at, found_text_at}
use Rattle.py_exceptions.specs.Faults.{found_or_none, known}
use Rattle.py_exceptions.specs.Texts.{text_or_none_at}

-- the characters of bytes that are UTF-8; none where they aren't
abbrev pub text_if : Option (List ℕ) → Option (List ℕ)
text_if None = None
text_if (Some bytes) = if is_utf8 bytes then Some (chars bytes) else None

-- the bytes before the first nul, where they are a text
abbrev pub class_name : List ℕ → Option (List ℕ)
class_name bytes = text_if (until_nul bytes)

-- a class's whole name as C has it, where there is one
abbrev pub whole_of : Option (List ℕ) → Option ClassName
whole_of None = None
whole_of (Some name) = Some (Whole name)

-- the name that a class of C's has
unfoldable pub whole_at : ClassPlaces → Memory → ℕ → Found (Option ClassName)
whole_at p m class = do
  at ← word_at m (class + p.name)
  bytes ← record_at m at 128
  Ok (whole_of (class_name bytes))

-- the qualified name of a class of the heap
unfoldable pub qualname_at : Layout → ClassPlaces → Memory → ℕ → Found (Option (List ℕ))
qualname_at l p m class = word_at m (class + p.qualname) >>= (λ at. text_or_none_at l m at)

-- the name of its module
unfoldable pub module_at : Layout → ClassPlaces → Memory → ℕ → Found (Option (List ℕ))
module_at l p m class = do
  dict ← word_at m (class + p.dict)
  found ← entry_at l m dict (codes "__module__")
  found_text_at l m found

-- the name of a class of the heap by its parts: its module's, and its qualified name
abbrev pub heap_name : Option (List ℕ) → Option (List ℕ) → Option ClassName
heap_name module_name name = Some (Parts module_name name)

-- the name of the class of the heap at an address; a part that can't be read is none
unfoldable pub heap_name_at : Layout → ClassPlaces → Memory → ℕ → Option ClassName
heap_name_at l p m class =
    heap_name (found_or_none (module_at l p m class)) (found_or_none (qualname_at l p m class))

-- whether the flags of a class say that it is one of the heap (bit 9, `Py_TPFLAGS_HEAPTYPE`)
abbrev pub is_heap : ℕ → Bool
is_heap flags = nat_eq (flags / 2 ^ 9 % 2) 1

-- the name of a class, by whether it is one of the heap
abbrev pub class_by_kind : Layout → ClassPlaces → Memory → ℕ → Bool → Option ClassName
class_by_kind l p m class true = heap_name_at l p m class
class_by_kind l p m class false = found_or_none (whole_at p m class)

-- the name of a class, by its flags; none where they can't be read
abbrev pub class_by_flags : Layout → ClassPlaces → Memory → ℕ → Option ℕ → Option ClassName
class_by_flags l p m class None = None
class_by_flags l p m class (Some flags) = class_by_kind l p m class (is_heap flags)

-- the name of the class at an address
unfoldable pub class_at : Layout → ClassPlaces → Memory → ℕ → Option ClassName
class_at l p m class = class_by_flags l p m class (known (word_at m (class + p.flags)))
