-- The numbers of a layout, by their keys (`Layout` of py_fields). Sizes are none of them: they are made of the others.
use Rattle.std.specs.Prelude.{ℕ, codes, List, Option, Some, option_map}
use Rattle.std.specs.Option.{option_and_then}
use Rattle.py_fields.specs.declared.layout.Layout.{Layout}
use Rattle.py_fields.specs.declared.layout.CframeAt.{CframeAt}
use Rattle.py_fields.specs.declared.layout.DictAt.{DictAt}
use Rattle.py_fields.specs.declared.layout.KeysAt.{KeysAt}
use Rattle.py_fields.specs.declared.layout.HeapAt.{HeapAt}
use Rattle.py_fields.specs.declared.layout.GilAt.{GilAt}
use Rattle.py_fields.specs.declared.layout.OffsetsAt.{OffsetsAt}
use Rattle.py_selftest.specs.declared.keys.RecordKey.{RecordKey}
use Rattle.py_selftest.specs.declared.keys.RecordKey.TheVariants.{InterpreterThreads, InterpreterModules}
use Rattle.py_selftest.specs.declared.keys.RecordKey.TheVariants.{InterpreterGil}
use Rattle.py_selftest.specs.declared.keys.RecordKey.TheVariants.{ThreadNext, ThreadInterp, ThreadId, ThreadFrame}
use Rattle.py_selftest.specs.declared.keys.RecordKey.TheVariants.{ThreadNativeId, FrameCode, FrameBack, FrameInstr}
use Rattle.py_selftest.specs.declared.keys.RecordKey.TheVariants.{FrameEntry, FrameLocals, FrameCodeTagBits}
use Rattle.py_selftest.specs.declared.keys.RecordKey.TheVariants.{CodeArgcount}
use Rattle.py_selftest.specs.declared.keys.RecordKey.TheVariants.{CodeNlocals, CodeFirstLine, CodeFilename, CodeName}
use Rattle.py_selftest.specs.declared.keys.RecordKey.TheVariants.{CodeTable, CodeVarnames, CodeStart}
use Rattle.py_selftest.specs.declared.keys.ObjectKey.{ObjectKey}
use Rattle.py_selftest.specs.declared.keys.ObjectKey.TheVariants.{StringLength, StringState, StringPointer}
use Rattle.py_selftest.specs.declared.keys.ObjectKey.TheVariants.{StringShortAt}
use Rattle.py_selftest.specs.declared.keys.ObjectKey.TheVariants.{StringLongAt, StringKindShift, StringCompactBit}
use Rattle.py_selftest.specs.declared.keys.ObjectKey.TheVariants.{StringAsciiBit, BytesLength, BytesAt, TupleCount}
use Rattle.py_selftest.specs.declared.keys.ObjectKey.TheVariants.{TupleAt, ListCount, ListItems, ObjectKlass, KlassName}
use Rattle.py_selftest.specs.declared.keys.ObjectKey.TheVariants.{KlassFlags, KlassDictOffset, LongCount, LongDigits}
use Rattle.py_selftest.specs.declared.keys.ObjectKey.TheVariants.{SmallValue, FloatValue}
use Rattle.py_selftest.specs.declared.keys.FreeKey.{FreeKey}
use Rattle.py_selftest.specs.declared.keys.FreeKey.TheVariants.{CframeCurrent, DictKeys, DictValues, KeysUsed, KeysLog2}
use Rattle.py_selftest.specs.declared.keys.FreeKey.TheVariants.{KeysKind, KeysSlots, HeapCachedKeys, HeapInline}
use Rattle.py_selftest.specs.declared.keys.FreeKey.TheVariants.{GilLocked, GilHolder, OffsetsHead}
use Rattle.py_selftest.specs.declared.keys.Key.{Key}
use Rattle.py_selftest.specs.declared.keys.Key.TheVariants.{Record, Object, Free}

-- a layout's number of the interpreter, of threads, frames or code; none where it has none
abbrev pub record_number : Layout → RecordKey → Option ℕ
record_number l InterpreterThreads = Some l.interpreter.threads
record_number l InterpreterModules = Some l.interpreter.modules
record_number l InterpreterGil = l.interpreter.gil
record_number l ThreadNext = Some l.thread.next
record_number l ThreadInterp = Some l.thread.interp
record_number l ThreadId = Some l.thread.id
record_number l ThreadFrame = Some l.thread.frame
record_number l ThreadNativeId = l.thread.native_id
record_number l FrameCode = Some l.frame.code
record_number l FrameBack = Some l.frame.back
record_number l FrameInstr = Some l.frame.instr
record_number l FrameEntry = l.frame.entry
record_number l FrameLocals = Some l.frame.locals
record_number l FrameCodeTagBits = Some l.frame.code_tag_bits
record_number l CodeArgcount = Some l.code.argcount
record_number l CodeNlocals = Some l.code.nlocals
record_number l CodeFirstLine = Some l.code.first_line
record_number l CodeFilename = Some l.code.filename
record_number l CodeName = Some l.code.name
record_number l CodeTable = Some l.code.table
record_number l CodeVarnames = Some l.code.varnames
record_number l CodeStart = l.code.start

-- a layout's number of a built-in object or a type; none where it has none
abbrev pub object_number : Layout → ObjectKey → Option ℕ
object_number l StringLength = Some l.string.length
object_number l StringState = l.string.state
object_number l StringPointer = l.string.pointer
object_number l StringShortAt = Some l.string.short_at
object_number l StringLongAt = l.string.long_at
object_number l StringKindShift = l.string.kind_shift
object_number l StringCompactBit = l.string.compact_bit
object_number l StringAsciiBit = l.string.ascii_bit
object_number l BytesLength = Some l.bytes.length
object_number l BytesAt = Some l.bytes.at
object_number l TupleCount = Some l.tuple.count
object_number l TupleAt = Some l.tuple.at
object_number l ListCount = Some l.list.count
object_number l ListItems = Some l.list.items
object_number l ObjectKlass = Some l.object.klass
object_number l KlassName = Some l.klass.name
object_number l KlassFlags = Some l.klass.flags
object_number l KlassDictOffset = Some l.klass.dict_offset
object_number l LongCount = Some l.long.count
object_number l LongDigits = Some l.long.digits
object_number l SmallValue = Some l.small.value
object_number l FloatValue = Some l.float.value

-- a layout's number of a record that not every version has; none where the layout lacks it
abbrev pub free_number : Layout → FreeKey → Option ℕ
free_number l CframeCurrent = option_map (λ (at : CframeAt). at.current) l.cframe
free_number l DictKeys = option_map (λ (at : DictAt). at.keys) l.dict
free_number l DictValues = option_map (λ (at : DictAt). at.values) l.dict
free_number l KeysUsed = option_map (λ (at : KeysAt). at.used) l.keys
free_number l KeysLog2 = option_and_then (λ (at : KeysAt). at.log2) l.keys
free_number l KeysKind = option_and_then (λ (at : KeysAt). at.kind) l.keys
free_number l KeysSlots = option_and_then (λ (at : KeysAt). at.slots) l.keys
free_number l HeapCachedKeys = option_map (λ (at : HeapAt). at.cached_keys) l.heap
free_number l HeapInline = option_map (λ (at : HeapAt). at.inline) l.heap
free_number l GilLocked = option_map (λ (at : GilAt). at.locked) l.gil
free_number l GilHolder = option_map (λ (at : GilAt). at.holder) l.gil
free_number l OffsetsHead = option_map (λ (at : OffsetsAt). at.head) l.offsets

-- the number of a key; none where the layout has no such key
abbrev pub number_in : Layout → Key → Option ℕ
number_in l (Record key) = record_number l key
number_in l (Object key) = object_number l key
number_in l (Free key) = free_number l key

-- the name in a layout file of a number of the interpreter, of threads, frames or code
abbrev pub record_name : RecordKey → List ℕ
record_name InterpreterThreads = codes "interpreter.threads"
record_name InterpreterModules = codes "interpreter.modules"
record_name InterpreterGil = codes "interpreter.gil"
record_name ThreadNext = codes "thread.next"
record_name ThreadInterp = codes "thread.interp"
record_name ThreadId = codes "thread.id"
record_name ThreadFrame = codes "thread.frame"
record_name ThreadNativeId = codes "thread.native_id"
record_name FrameCode = codes "frame.code"
record_name FrameBack = codes "frame.back"
record_name FrameInstr = codes "frame.instr"
record_name FrameEntry = codes "frame.entry"
record_name FrameLocals = codes "frame.locals"
record_name FrameCodeTagBits = codes "frame.code_tag_bits"
record_name CodeArgcount = codes "code.argcount"
record_name CodeNlocals = codes "code.nlocals"
record_name CodeFirstLine = codes "code.first_line"
record_name CodeFilename = codes "code.filename"
record_name CodeName = codes "code.name"
record_name CodeTable = codes "code.table"
record_name CodeVarnames = codes "code.varnames"
record_name CodeStart = codes "code.start"

-- the name in a layout file of a number of a built-in object or a type
abbrev pub object_name : ObjectKey → List ℕ
object_name StringLength = codes "string.length"
object_name StringState = codes "string.state"
object_name StringPointer = codes "string.pointer"
object_name StringShortAt = codes "string.short_at"
object_name StringLongAt = codes "string.long_at"
object_name StringKindShift = codes "string.kind_shift"
object_name StringCompactBit = codes "string.compact_bit"
object_name StringAsciiBit = codes "string.ascii_bit"
object_name BytesLength = codes "bytes.length"
object_name BytesAt = codes "bytes.at"
object_name TupleCount = codes "tuple.count"
object_name TupleAt = codes "tuple.at"
object_name ListCount = codes "list.count"
object_name ListItems = codes "list.items"
object_name ObjectKlass = codes "object.klass"
object_name KlassName = codes "klass.name"
object_name KlassFlags = codes "klass.flags"
object_name KlassDictOffset = codes "klass.dict_offset"
object_name LongCount = codes "long.count"
object_name LongDigits = codes "long.digits"
object_name SmallValue = codes "small.value"
object_name FloatValue = codes "float.value"

-- the name in a layout file of a number of a record that not every version has
abbrev pub free_name : FreeKey → List ℕ
free_name CframeCurrent = codes "cframe.current"
free_name DictKeys = codes "dict.keys"
free_name DictValues = codes "dict.values"
free_name KeysUsed = codes "keys.used"
free_name KeysSlots = codes "keys.slots"
free_name KeysLog2 = codes "keys.log2"
free_name KeysKind = codes "keys.kind"
free_name HeapCachedKeys = codes "heap.cached_keys"
free_name HeapInline = codes "heap.inline"
free_name GilLocked = codes "gil.locked"
free_name GilHolder = codes "gil.holder"
free_name OffsetsHead = codes "offsets.head"

-- the name of a number in a layout file
abbrev pub key_name : Key → List ℕ
key_name (Record key) = record_name key
key_name (Object key) = object_name key
key_name (Free key) = free_name key
