-- Texts and bytes as they are shown: the first of them, and how many there are. A text has so many units, each a code
-- point, of as many bytes as its state says (Include/cpython/unicodeobject.h): a surrogate is one of its own. A bytearray's
-- length, and the address at which its bytes start, stand in its record (Include/cpython/bytearrayobject.h).
use Rattle.std.specs.Prelude.{ℕ, ◌+◌, ◌*◌, min, if◌then◌else◌, Option, Some, None, List, Ok, Err}
use Rattle.std.specs.Int.{w16, w32}
use Rattle.elf64_core.specs.Fields.{u64_in}
use Rattle.process_memory.specs.Memory.{Found, Memory, ◌>>=◌, record_at}
use Rattle.process_memory.specs.Memory.Fault.{NoText}
use Rattle.py_fields.specs.declared.layout.Layout.{Layout}
use Rattle.py_builtins.specs.declared.coding.TextKind.{TextKind}
use Rattle.py_builtins.specs.declared.coding.TextKind.TheVariants.{Utf8, Latin1, Utf16, Utf32}
use Rattle.py_builtins.specs.declared.strings.Characters.{Characters}
use Rattle.py_builtins.specs.Items.{item_count}
use Rattle.py_builtins.specs.TextKind.{numbers_of, width}
use Rattle.py_builtins.specs.Texts.{characters_of}
use Rattle.py_reprs.specs.declared.limits.Limits.{Limits}
use Rattle.py_reprs.specs.declared.repr.BytesForm.{BytesForm}
use Rattle.py_reprs.specs.declared.repr.BytesForm.TheVariants as bytes_form
use Rattle.py_reprs.specs.declared.repr.TextForm.TheVariants as text_form
use Rattle.py_reprs.specs.Fronts.{front_at}
use Rattle.py_reprs.specs.Kinds.{is_python_2}
use Rattle.py_reprs.specs.Trees.{Tree}
use Rattle.py_reprs.specs.Trees.Tree.{Text, Bytes}

-- the code points that bytes are, one for each unit
abbrev pub points_of : TextKind → List ℕ → List ℕ
points_of Utf8 bytes = bytes
points_of Latin1 bytes = bytes
points_of Utf16 bytes = numbers_of w16 2 bytes
points_of Utf32 bytes = numbers_of w32 4 bytes

-- a text of so many units, which stand where and as is said
unfoldable pub text_front_at : Limits → Memory → ℕ → Characters → Found Tree
text_front_at b m n c = do
  bytes ← front_at m c.at (min n b.characters * width c.kind)
  Ok (Text text_form.Str (points_of c.kind bytes) n)

-- the front of a text, where the coding of its characters is known
abbrev pub text_with : Limits → Memory → ℕ → Option Characters → Found Tree
text_with b m n None = Err NoText
text_with b m n (Some c) = text_front_at b m n c

-- the text at an address
unfoldable pub text_tree_at : Layout → Limits → Memory → ℕ → Found Tree
text_tree_at l b m a = do
  object ← record_at m a l.string.size
  n ← item_count (u64_in object l.string.length)
  text_with b m n (characters_of l a object)

-- so many bytes, which stand at an address
unfoldable pub bytes_front_at : Limits → BytesForm → Memory → (length at : ℕ) → Found Tree
bytes_front_at b form m n at = do
  bytes ← front_at m at (min n b.characters)
  Ok (Bytes form bytes n)

-- how bytes are written: `str` of Python 2 has no `b` before it
abbrev pub bytes_form_of : Layout → BytesForm
bytes_form_of l = if is_python_2 l then bytes_form.Str else bytes_form.Bytes

-- the bytes object at an address: Python 2's `str`
unfoldable pub bytes_tree_at : Layout → Limits → Memory → ℕ → Found Tree
bytes_tree_at l b m a = do
  object ← record_at m a l.bytes.size
  n ← item_count (u64_in object l.bytes.length)
  bytes_front_at b (bytes_form_of l) m n (a + l.bytes.at)

-- where the first field stands behind the head that every object has: a list's is its count
abbrev pub head_of : Layout → ℕ
head_of l = l.list.count

-- the bytearray at an address: its length is its first field, and the address of its bytes the fourth
unfoldable pub bytearray_at : Layout → Limits → Memory → ℕ → Found Tree
bytearray_at l b m a = do
  fields ← record_at m (a + head_of l) 32
  n ← item_count (u64_in fields 0)
  bytes_front_at b bytes_form.ByteArray m n (u64_in fields 24)
