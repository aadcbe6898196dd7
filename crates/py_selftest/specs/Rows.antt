-- Which numbers of a layout a process tells itself, and where. That a type names its members with their places and how
-- many bytes an instance has is CPython's rule (`PyMemberDef`, `PyTypeObject`), and so are the members' names
-- (Objects/codeobject.c, frameobject.c, typeobject.c) and the table of 3.13
-- (Include/internal/pycore_runtime.h, `_Py_DebugOffsets`); which of them are looked at is this project's.
use Rattle.std.specs.Prelude.{ℕ, List, [], ◌∷◌, codes}
use Rattle.py_selftest.specs.declared.keys.Key.{Key}
use Rattle.py_selftest.specs.declared.keys.Key.TheVariants.{Record, Object, Free}
use Rattle.py_selftest.specs.declared.keys.RecordKey.TheVariants.{InterpreterThreads, InterpreterModules}
use Rattle.py_selftest.specs.declared.keys.RecordKey.TheVariants.{InterpreterGil}
use Rattle.py_selftest.specs.declared.keys.RecordKey.TheVariants.{ThreadNext, ThreadInterp, ThreadId, ThreadFrame}
use Rattle.py_selftest.specs.declared.keys.RecordKey.TheVariants.{ThreadNativeId, FrameCode, FrameBack, FrameInstr}
use Rattle.py_selftest.specs.declared.keys.RecordKey.TheVariants.{FrameEntry, FrameLocals, FrameCodeTagBits}
use Rattle.py_selftest.specs.declared.keys.RecordKey.TheVariants.{CodeArgcount}
use Rattle.py_selftest.specs.declared.keys.RecordKey.TheVariants.{CodeNlocals, CodeFirstLine, CodeFilename, CodeName}
use Rattle.py_selftest.specs.declared.keys.RecordKey.TheVariants.{CodeTable, CodeVarnames, CodeStart}
use Rattle.py_selftest.specs.declared.keys.ObjectKey.TheVariants.{StringLength, StringState, StringPointer}
use Rattle.py_selftest.specs.declared.keys.ObjectKey.TheVariants.{StringShortAt}
use Rattle.py_selftest.specs.declared.keys.ObjectKey.TheVariants.{StringLongAt, StringKindShift, StringCompactBit}
use Rattle.py_selftest.specs.declared.keys.ObjectKey.TheVariants.{StringAsciiBit, BytesLength, BytesAt, TupleCount}
use Rattle.py_selftest.specs.declared.keys.ObjectKey.TheVariants.{TupleAt, ListCount, ListItems, ObjectKlass, KlassName}
use Rattle.py_selftest.specs.declared.keys.ObjectKey.TheVariants.{KlassFlags, KlassDictOffset, LongCount, LongDigits}
use Rattle.py_selftest.specs.declared.keys.ObjectKey.TheVariants.{SmallValue, FloatValue}
use Rattle.py_selftest.specs.declared.keys.FreeKey.TheVariants.{CframeCurrent, DictKeys, DictValues, KeysUsed, KeysLog2}
use Rattle.py_selftest.specs.declared.keys.FreeKey.TheVariants.{KeysKind, KeysSlots, HeapCachedKeys, HeapInline}
use Rattle.py_selftest.specs.declared.keys.FreeKey.TheVariants.{GilLocked, GilHolder, OffsetsHead}
use Rattle.py_selftest.specs.declared.rows.BuiltIn.{BuiltIn}
use Rattle.py_selftest.specs.declared.rows.BuiltIn.TheVariants.{Metatype, Code, Frame, Tuple, Bytes, Long}
use Rattle.py_selftest.specs.declared.rows.When.{When}
use Rattle.py_selftest.specs.declared.rows.When.TheVariants.{Never, Always, BeforeEleven, FromEleven}
use Rattle.py_selftest.specs.declared.rows.Entry.{Entry}
use Rattle.py_selftest.specs.declared.rows.Entry.TheVariants.{Absent, At, Behind}
use Rattle.py_selftest.specs.declared.rows.Source.{Source as CodeSource}
use Rattle.py_selftest.specs.declared.rows.Source.TheVariants as code
use Rattle.py_selftest.specs.declared.rows.Row.{Row as CodeRow}

-- what of the types tells a number
pub data Source : Type 0 where
  Nothing : Source
  -- where the member of this name stands
  Member : BuiltIn → (name : List ℕ) → Source
  -- where the member of code stands that is its line table
  LineTable : Source
  -- how many bytes an instance has, less so many
  BasicSize : BuiltIn → (less : ℕ) → When → Source
  -- where the type of a type stands in its record
  OwnPlace : Source

-- a number of a layout, and what tells it
pub record Row : Type 0 where
  pub key : Key
  pub width : ℕ
  pub entry : Entry
  pub source : Source
  pub needed : When

-- the same, as the code has them
abbrev pub source_of : CodeSource → Source
source_of code.Nothing = Source.Nothing
source_of (code.Member of name) = Source.Member of name.now
source_of code.LineTable = Source.LineTable
source_of (code.BasicSize of less when) = Source.BasicSize of less when
source_of code.OwnPlace = Source.OwnPlace

-- a row, as the code has it
abbrev pub row_of : CodeRow → Row
row_of r = record {
  key = r.key;
  width = r.width;
  entry = r.entry;
  source = source_of r.source;
  needed = r.needed;
}

abbrev row : Key → ℕ → Entry → Source → When → Row
row key width entry source needed = record {
  key = key;
  width = width;
  entry = entry;
  source = source;
  needed = needed;
}

-- each number that is looked at, with its word in the table of 3.13 and what of the types tells it
unfoldable pub the_rows : List Row
the_rows =
    row (Record InterpreterThreads) 8 (At 72) Source.Nothing Never
    ∷ row (Record InterpreterModules) 8 (At 88) Source.Nothing Never
    ∷ row (Record InterpreterGil) 8 (At 112) Source.Nothing Never
    ∷ row (Record ThreadNext) 8 (At 168) Source.Nothing Never
    ∷ row (Record ThreadInterp) 8 (At 176) Source.Nothing Never
    ∷ row (Record ThreadId) 8 (At 192) Source.Nothing Never
    ∷ row (Record ThreadFrame) 8 (At 184) Source.Nothing Never
    ∷ row (Record ThreadNativeId) 8 (At 200) Source.Nothing Never
    ∷ row (Free CframeCurrent) 8 Absent Source.Nothing Never
    ∷ row (Record FrameCode) 8 (At 240) (Source.Member Frame (codes "f_code")) BeforeEleven
    ∷ row (Record FrameBack) 8 (At 232) (Source.Member Frame (codes "f_back")) BeforeEleven
    ∷ row (Record FrameInstr) 4 (At 248) (Source.Member Frame (codes "f_lasti")) Never
    ∷ row (Record FrameEntry) 8 Absent Source.Nothing Never
    ∷ row (Record FrameLocals) 8 (At 256) (Source.BasicSize Frame 8 BeforeEleven) BeforeEleven
    ∷ row (Record FrameCodeTagBits) 8 Absent Source.Nothing Never
    ∷ row (Record CodeArgcount) 4 (At 320) (Source.Member Code (codes "co_argcount")) Always
    ∷ row (Record CodeNlocals) 4 Absent (Source.Member Code (codes "co_nlocals")) Always
    ∷ row (Record CodeFirstLine) 4 (At 312)
    (Source.Member Code (codes "co_firstlineno")) Always
    ∷ row (Record CodeFilename) 8 (At 280) (Source.Member Code (codes "co_filename")) Always
    ∷ row (Record CodeName) 8 (At 288) (Source.Member Code (codes "co_name")) Always
    ∷ row (Record CodeTable) 8 (At 304) Source.LineTable Always
    ∷ row (Record CodeVarnames) 8 (At 328) (Source.Member Code (codes "co_varnames")) Never
    ∷ row (Record CodeStart) 8 (At 344) (Source.BasicSize Code 0 FromEleven) Never
    ∷ row (Object StringLength) 8 (At 552) Source.Nothing Never
    ∷ row (Object StringState) 8 (At 544) Source.Nothing Never
    ∷ row (Object StringPointer) 8 Absent Source.Nothing Never
    ∷ row (Object StringShortAt) 8 (At 560) Source.Nothing Never
    ∷ row (Object StringLongAt) 8 Absent Source.Nothing Never
    ∷ row (Object StringKindShift) 8 Absent Source.Nothing Never
    ∷ row (Object StringCompactBit) 8 Absent Source.Nothing Never
    ∷ row (Object StringAsciiBit) 8 Absent Source.Nothing Never
    ∷ row (Object BytesLength) 8 (At 520) Source.Nothing Never
    ∷ row (Object BytesAt) 8 (At 528) (Source.BasicSize Bytes 1 Always) Never
    ∷ row (Object TupleCount) 8 (At 416) Source.Nothing Never
    ∷ row (Object TupleAt) 8 (At 408) (Source.BasicSize Tuple 0 Always) Never
    ∷ row (Object ListCount) 8 (At 440) Source.Nothing Never
    ∷ row (Object ListItems) 8 (At 432) Source.Nothing Never
    ∷ row (Object ObjectKlass) 8 (At 360) Source.OwnPlace Never
    ∷ row (Object KlassName) 8 (At 376) Source.Nothing Never
    ∷ row (Object KlassFlags) 8 (At 392) (Source.Member Metatype (codes "__flags__")) Never
    ∷ row (Object KlassDictOffset) 8 Absent
    (Source.Member Metatype (codes "__dictoffset__")) Never
    ∷ row (Object LongCount) 8 (At 496) Source.Nothing Never
    ∷ row (Object LongDigits) 8 (At 504) (Source.BasicSize Long 0 Always) Never
    ∷ row (Object SmallValue) 8 Absent Source.Nothing Never
    ∷ row (Object FloatValue) 8 (At 480) Source.Nothing Never
    ∷ row (Free DictKeys) 8 (At 456) Source.Nothing Never
    ∷ row (Free DictValues) 8 (At 464) Source.Nothing Never
    ∷ row (Free KeysUsed) 8 Absent Source.Nothing Never
    ∷ row (Free KeysSlots) 8 Absent Source.Nothing Never
    ∷ row (Free KeysLog2) 8 Absent Source.Nothing Never
    ∷ row (Free KeysKind) 8 Absent Source.Nothing Never
    ∷ row (Free HeapCachedKeys) 8 Absent Source.Nothing Never
    ∷ row (Free HeapInline) 8 Absent Source.Nothing Never
    ∷ row (Free GilLocked) 8 (Behind 136 120) Source.Nothing Never
    ∷ row (Free GilHolder) 8 (Behind 144 120) Source.Nothing Never
    ∷ row (Free OffsetsHead) 8 Absent Source.Nothing Never ∷ []
