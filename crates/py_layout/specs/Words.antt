-- The words of the families.
use Rattle.std.specs.Prelude.{List, ℕ, Bool, Option, Some, None, is_some, cond, codes, bytes_eq, unwrap_or}
use Rattle.toml.specs.Data.{Data, string, Members, get_member}
use Rattle.py_layout.specs.declared.keys.Family.{Family}
use Rattle.py_layout.specs.declared.keys.Family.TheVariants as family
use Rattle.py_layout.specs.declared.families.Families.{Families}
use Rattle.py_fields.specs.declared.layout.Head.{Head}
use Rattle.py_fields.specs.declared.layout.Head.TheVariants as head
use Rattle.py_fields.specs.declared.layout.Lock.{Lock}
use Rattle.py_fields.specs.declared.layout.Lock.TheVariants as lock
use Rattle.py_fields.specs.declared.layout.Frames.{Frames}
use Rattle.py_fields.specs.declared.layout.Frames.TheVariants as frames
use Rattle.py_fields.specs.declared.layout.Lasti.{Lasti}
use Rattle.py_fields.specs.declared.layout.Lasti.TheVariants as lasti
use Rattle.py_fields.specs.declared.layout.Lines.{Lines}
use Rattle.py_fields.specs.declared.layout.Lines.TheVariants as lines
use Rattle.py_fields.specs.declared.layout.Strings.{Strings}
use Rattle.py_fields.specs.declared.layout.Strings.TheVariants as strings
use Rattle.py_fields.specs.declared.layout.Integers.{Integers}
use Rattle.py_fields.specs.declared.layout.Integers.TheVariants as integers
use Rattle.py_fields.specs.declared.layout.Dicts.{Dicts}
use Rattle.py_fields.specs.declared.layout.Dicts.TheVariants as dicts
use Rattle.py_fields.specs.declared.layout.Managed.{Managed}
use Rattle.py_fields.specs.declared.layout.Managed.TheVariants as managed

-- the family that a word names, of where the newest interpreter's address stands
abbrev pub head_of_word : List ℕ → Option Head
head_of_word word =
    cond (bytes_eq word (codes "symbol")) (Some head.Symbol) (
    cond (bytes_eq word (codes "runtime")) (Some head.Runtime) (
    cond (bytes_eq word (codes "offsets")) (Some head.Offsets) (None)))

-- the family that a word names, of what names the lock's holder
abbrev pub lock_of_word : List ℕ → Option Lock
lock_of_word word =
    cond (bytes_eq word (codes "symbol")) (Some lock.Symbol) (
    cond (bytes_eq word (codes "runtime")) (Some lock.Runtime) (
    cond (bytes_eq word (codes "gil")) (Some lock.Gil) (None)))

-- the family that a word names, of how a thread names its newest frame
abbrev pub frames_of_word : List ℕ → Option Frames
frames_of_word word =
    cond (bytes_eq word (codes "direct")) (Some frames.Direct) (
    cond (bytes_eq word (codes "cframe")) (Some frames.Cframe) (None))

-- the family that a word names, of how a frame has its last instruction
abbrev pub lasti_of_word : List ℕ → Option Lasti
lasti_of_word word =
    cond (bytes_eq word (codes "bytes")) (Some lasti.Bytes) (
    cond (bytes_eq word (codes "units")) (Some lasti.Units) (
    cond (bytes_eq word (codes "pointer")) (Some lasti.Pointer) (None)))

-- the family that a word names, of the line table
abbrev pub lines_of_word : List ℕ → Option Lines
lines_of_word word =
    cond (bytes_eq word (codes "pairs")) (Some lines.Pairs) (
    cond (bytes_eq word (codes "ranges")) (Some lines.Ranges) (
    cond (bytes_eq word (codes "locations")) (Some lines.Locations) (None)))

-- the family that a word names, of texts
abbrev pub strings_of_word : List ℕ → Option Strings
strings_of_word word =
    cond (bytes_eq word (codes "state")) (Some strings.State) (
    cond (bytes_eq word (codes "bytes")) (Some strings.Bytes) (None))

-- the family that a word names, of integers
abbrev pub integers_of_word : List ℕ → Option Integers
integers_of_word word =
    cond (bytes_eq word (codes "signed")) (Some integers.Signed) (
    cond (bytes_eq word (codes "tagged")) (Some integers.Tagged) (None))

-- the family that a word names, of dicts
abbrev pub dicts_of_word : List ℕ → Option Dicts
dicts_of_word word =
    cond (bytes_eq word (codes "none")) (Some dicts.Absent) (
    cond (bytes_eq word (codes "general")) (Some dicts.General) (
    cond (bytes_eq word (codes "compact")) (Some dicts.Compact) (None)))

-- the family that a word names, of managed dicts
abbrev pub managed_of_word : List ℕ → Option Managed
managed_of_word word =
    cond (bytes_eq word (codes "none")) (Some managed.Absent) (
    cond (bytes_eq word (codes "split")) (Some managed.Split) (
    cond (bytes_eq word (codes "tagged")) (Some managed.Tagged) (None)))

-- whether it is one of the family's words
abbrev pub is_word : Family → List ℕ → Bool
is_word family.Head word = is_some (head_of_word word)
is_word family.Lock word = is_some (lock_of_word word)
is_word family.Frames word = is_some (frames_of_word word)
is_word family.Lasti word = is_some (lasti_of_word word)
is_word family.Lines word = is_some (lines_of_word word)
is_word family.Strings word = is_some (strings_of_word word)
is_word family.Integers word = is_some (integers_of_word word)
is_word family.Dicts word = is_some (dicts_of_word word)
is_word family.Managed word = is_some (managed_of_word word)

-- the text, which is empty where the value is none
abbrev pub word_of : Data → List ℕ
word_of (string word) = word
word_of _ = codes ""

-- the characters of a word; none where no value stands
abbrev pub word_if : Option Data → List ℕ
word_if None = codes ""
word_if (Some d) = word_of d

-- the text at a key
abbrev pub family_word : Members → List ℕ → List ℕ
family_word ms name = word_if (get_member name ms)

-- the families; where a key has none of its family's words, which is a flaw, the first
abbrev pub families_of : Members → Families
families_of ms = record {
  head = unwrap_or (head_of_word (family_word ms (codes "head"))) head.Symbol;
  lock = unwrap_or (lock_of_word (family_word ms (codes "lock"))) lock.Symbol;
  frames = unwrap_or (frames_of_word (family_word ms (codes "frames"))) frames.Direct;
  lasti = unwrap_or (lasti_of_word (family_word ms (codes "lasti"))) lasti.Bytes;
  lines = unwrap_or (lines_of_word (family_word ms (codes "lines"))) lines.Pairs;
  strings = unwrap_or (strings_of_word (family_word ms (codes "strings"))) strings.State;
  integers = unwrap_or (integers_of_word (family_word ms (codes "integers"))) integers.Signed;
  dicts = unwrap_or (dicts_of_word (family_word ms (codes "dicts"))) dicts.Absent;
  managed = unwrap_or (managed_of_word (family_word ms (codes "managed"))) managed.Absent;
}
