-- The words of the second segment, the bss of the image: by them the interpreter is found, and who holds the lock.
use Rattle.std.specs.Prelude.{ℕ, Option, Some, None, List, [], ◌∷◌, option_map, IfSome}
use Rattle.elf64_core.specs.declared.header.Machine.{Machine}
use Rattle.py_fields.specs.Offsets.{interp_head_offset, tstate_current_offset}
use Rattle.py_fields.specs.declared.version.Version.{Version}
use Rattle.py_fields.specs.Places.{Apart}
use Rattle.py_fields.specs.declared.layout.Head.{Head}
use Rattle.py_fields.specs.declared.layout.Head.TheVariants.{Symbol, Runtime, Offsets}
use Rattle.py_fields.specs.declared.layout.Lock.{Lock}
use Rattle.py_fields.specs.declared.layout.Lock.TheVariants.{Symbol as SymbolLock, Runtime as RuntimeLock, Gil}
use Rattle.py_fields.specs.declared.layout.OffsetsAt.{OffsetsAt}
use Rattle.py_fields.specs.declared.layout.Layout.{Layout}
use Rattle.object_builder.specs.Objects.{Write, object, optional_write}
use Rattle.object_builder.specs.Objects.Value.{U64}

-- where the objects begin, with the interpreter
abbrev pub interpreter_at : ℕ
interpreter_at = 0x60_0000

-- the word that names the newest interpreter, in bytes from 0x500000 on: the symbol `interp_head`, or in the runtime
-- record, by the version or by the record's own field
abbrev pub head_place : Head → Version → ℕ
head_place Symbol v = 0x1_0010
head_place Runtime v = interp_head_offset v
head_place Offsets v = 0x1_0000

-- that field, where the layout has the record
abbrev pub head_field : Head → Option OffsetsAt → Option ℕ
head_field Symbol o = None
head_field Runtime o = None
head_field Offsets o = option_map (λ o. o.head) o

-- the word that names the thread that holds the lock: the symbol `_PyThreadState_Current`, or in the runtime record; a
-- lock with a record of its own has none
abbrev pub lock_word_place : Lock → Machine → Version → Option ℕ
lock_word_place SymbolLock machine v = Some 0x1_0008
lock_word_place RuntimeLock machine v = tstate_current_offset machine v
lock_word_place Gil machine v = None

-- the words that are written: the interpreter, the runtime record's field, and the lock's holder
abbrev pub words_writes : Layout → Machine → Version → (holder : ℕ) → List Write
words_writes l machine v holder =
    record { at = head_place l.head v; value = U64 interpreter_at }
    ∷ optional_write (head_field l.head l.offsets) (U64 0x1_0000)
    ∷ optional_write (lock_word_place l.lock machine v) (U64 holder) ∷ []

-- the 2^17 bytes of the bss, zeros but for these words
unfoldable pub runtime_words : Layout → Machine → Version → (holder : ℕ) → List ℕ
runtime_words l machine v holder = object 0x2_0000 (words_writes l machine v holder)

-- the field of the runtime record and the word of the lock don't meet, where there are both
abbrev pub HasWordRoom : Layout → Machine → Version → Type 0
HasWordRoom l machine v = IfSome (head_field l.head l.offsets)
    (λ field. IfSome (lock_word_place l.lock machine v) (λ word. Apart (field, 8) (word, 8)))
