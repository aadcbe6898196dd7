-- A value without the values within it: it is shown whole, or the places are known at which the first of those stand. A
-- list or a tuple has a row of them; so has a range or a slice of its start, stop and step, a cell of what it holds, and
-- a method of its function and its object, which are their first fields (Objects/rangeobject.c, Include/sliceobject.h,
-- Include/cellobject.h, Include/cpython/classobject.h).
use Rattle.std.specs.Prelude.{◌≡◌, ℕ, ◌+◌, ◌-◌, ◌*◌, ◌≤◌, ◌==◌, if◌then◌else◌, ⊤, Option, Some, None, length}
use Rattle.std.specs.Prelude.{Result, Ok, Err, IfOk}
use Rattle.process_memory.specs.Memory.{Fault, Found, Memory, ◌>>=◌}
use Rattle.process_memory.specs.Memory.Fault.{Missing}
use Rattle.py_fields.specs.declared.layout.Layout.{Layout}
use Rattle.py_builtins.specs.declared.error.ObjectError.{ObjectError}
use Rattle.py_builtins.specs.declared.items.Sequence.{Sequence}
use Rattle.py_builtins.specs.declared.items.Sequence.TheVariants as sequence
use Rattle.py_builtins.specs.declared.types.ObjectType.{ObjectType}
use Rattle.py_builtins.specs.Items.{items_at}
use Rattle.py_builtins.specs.ObjectError.{object_fault}
use Rattle.py_builtins.specs.Types.{type_at}
use Rattle.py_reprs.specs.declared.error.ReprError.{ReprError}
use Rattle.py_reprs.specs.declared.error.ReprError.TheVariants.{OutOfMemory}
use Rattle.py_reprs.specs.declared.kinds.Kind.{Kind}
use Rattle.py_reprs.specs.declared.kinds.Kind.TheVariants as kind
use Rattle.py_reprs.specs.declared.kinds.ReprTypes.{ReprTypes}
use Rattle.py_reprs.specs.declared.levels.Level.{Level as LevelRead}
use Rattle.py_reprs.specs.declared.levels.Level.TheVariants.{Whole as WholeRead, Row as RowRead, Entries as EntriesRead}
use Rattle.py_reprs.specs.declared.levels.Level.TheVariants.{Attributes as AttributesRead}
use Rattle.py_reprs.specs.declared.limits.Limits.{Limits}
use Rattle.py_reprs.specs.declared.repr.ItemsForm.{ItemsForm}
use Rattle.py_reprs.specs.declared.repr.ItemsForm.TheVariants as form
use Rattle.py_reprs.specs.declared.attributes.InstanceRule.{InstanceRule}
use Rattle.py_reprs.specs.declared.coroutines.CoroutineForm.{CoroutineForm}
use Rattle.py_reprs.specs.declared.coroutines.CoroutineRule.{CoroutineRule}
use Rattle.py_reprs.specs.Attributes.{attributes_at, found_or_none, instance_by}
use Rattle.py_reprs.specs.Coroutines.{coroutine_at}
use Rattle.py_reprs.specs.Kinds.{is_python_2, kind_of}
use Rattle.py_reprs.specs.LevelForms.{Level, Whole, Row, Entries, Attributes}
use Rattle.py_reprs.specs.Limits.{share, shown_count}
use Rattle.py_reprs.specs.Names.{class_at, name_at, opaque_at}
use Rattle.py_reprs.specs.Numbers.{complex_at, float_at, integer_at, small_integer_at, truth_by}
use Rattle.py_reprs.specs.Places.{places_at}
use Rattle.py_reprs.specs.Slots.{dict_level_at, set_level_at}
use Rattle.py_reprs.specs.Texts.{bytearray_at, bytes_tree_at, head_of, text_tree_at}
use Rattle.py_reprs.specs.Trees.{Tree, tree_of}
use Rattle.py_reprs.specs.Trees.Tree.{Absent, Nothing, Ellipsis, NotImplemented, Lost, Damaged}

-- the first items of a row, at consecutive words, and how many are left out
abbrev pub row_by : Memory → ItemsForm → (nodes count base shown : ℕ) → Level
row_by m form nodes count base shown = Row form (places_at m base shown) (share nodes shown) (count - shown)

-- the first of so many values, by the words from an address on
unfoldable pub row_at : Limits → Memory → ItemsForm → (nodes count base : ℕ) → Level
row_at b m form nodes count base = row_by m form nodes count base (shown_count b.items nodes count)

-- the items of a list or a tuple
unfoldable pub items_level_at : Layout → Limits → Memory → ItemsForm → Sequence → (nodes addr : ℕ) → Found Level
items_level_at l b m form s nodes a = do
  items ← items_at l m s a
  Ok (row_at b m form nodes items.count (items.base + items.offset))

-- the first fields of an object, so many of them
unfoldable pub fields_level_at : Layout → Limits → Memory → ItemsForm → (nodes count addr : ℕ) → Found Level
fields_level_at l b m form nodes count a = Ok (row_at b m form nodes count (a + head_of l))

-- a value of a kind whose own record says all of it; one of another type, whose name stands at an address
unfoldable pub leaf_at : Layout → Limits → Memory → (name addr : ℕ) → Kind → Found Tree
leaf_at l b m name a kind.Nothing = Ok Nothing
leaf_at l b m name a kind.Ellipsis = Ok Ellipsis
leaf_at l b m name a kind.NotImplemented = Ok NotImplemented
leaf_at l b m name a kind.Truth = truth_by (is_python_2 l) l m a
leaf_at l b m name a kind.Integer = integer_at l m a
leaf_at l b m name a kind.SmallInteger = small_integer_at l m a
leaf_at l b m name a kind.Float = float_at l m a
leaf_at l b m name a kind.Complex = complex_at l m a
leaf_at l b m name a kind.Text = text_tree_at l b m a
leaf_at l b m name a kind.Bytes = bytes_tree_at l b m a
leaf_at l b m name a kind.ByteArray = bytearray_at l b m a
leaf_at l b m name a kind.Class = class_at l m a
leaf_at l b m name a _ = opaque_at m name a

-- an object without parts
unfoldable pub leaf_level_at : Layout → Limits → Memory → (name addr : ℕ) → Kind → Found Level
leaf_level_at l b m name a k = do
  t ← leaf_at l b m name a k
  Ok (Whole t)

-- the instance of a class at an address, with its attributes
unfoldable pub instance_at : Layout → Limits → Memory → InstanceRule → (nodes name addr : ℕ) → Level
instance_at l b m r nodes name a =
    instance_by b (name_at m name) a nodes (found_or_none (attributes_at l r m (4 * b.items) a))

-- an object of another type
unfoldable pub other_level_at : Layout → Limits → Memory → Option InstanceRule → (nodes name addr : ℕ) → Found Level
other_level_at l b m None nodes name a = leaf_level_at l b m name a kind.Other
other_level_at l b m (Some r) nodes name a = Ok (instance_at l b m r nodes name a)

-- a coroutine, a generator or an async generator, which is shown whole
unfoldable pub coroutine_level_at : Layout → Memory → Option CoroutineRule → CoroutineForm → (addr : ℕ) → Found Level
coroutine_level_at l m r form a = do
  t ← coroutine_at l m r form a
  Ok (Whole t)

-- a value of a kind
unfoldable pub kind_level_at : Layout → ReprTypes → Limits → Memory → (nodes name addr : ℕ) → Kind → Found Level
kind_level_at l t b m nodes name a kind.List = items_level_at l b m form.List sequence.List nodes a
kind_level_at l t b m nodes name a kind.Tuple = items_level_at l b m form.Tuple sequence.Tuple nodes a
kind_level_at l t b m nodes name a kind.Range = fields_level_at l b m form.Range nodes 3 a
kind_level_at l t b m nodes name a kind.Slice = fields_level_at l b m form.Slice nodes 3 a
kind_level_at l t b m nodes name a kind.Cell = fields_level_at l b m form.Cell nodes 1 a
kind_level_at l t b m nodes name a kind.Method = fields_level_at l b m form.Method nodes 2 a
kind_level_at l t b m nodes name a kind.Dict = dict_level_at l b m nodes a
kind_level_at l t b m nodes name a kind.Set = set_level_at l b m form.Set nodes a
kind_level_at l t b m nodes name a kind.FrozenSet = set_level_at l b m form.FrozenSet nodes a
kind_level_at l t b m nodes name a (kind.Coroutine form) = coroutine_level_at l m t.coroutines form a
kind_level_at l t b m nodes name a kind.Other = other_level_at l b m t.instances nodes name a
kind_level_at l t b m nodes name a k = leaf_level_at l b m name a k

-- what is shown of an object that can't be read: the range that isn't there, or that it is damaged
abbrev pub fault_tree : Kind → ℕ → Fault → Tree
fault_tree k a (Missing at len) = Lost k at len
fault_tree k a _ = Damaged k a

-- what is told of a value of a kind: what was found, or what is missing, or that its record can't be
abbrev pub told : Kind → ℕ → Found Level → Level
told k a (Ok level) = level
told k a (Err f) = Whole (fault_tree k a f)

-- an object and the places of its parts, where its type can be read
abbrev pub level_by : Layout → ReprTypes → Limits → Memory → (nodes addr : ℕ) → Found ObjectType → Level
level_by l t b m nodes a (Ok class) =
    told (kind_of l t class) a (kind_level_at l t b m nodes class.name a (kind_of l t class))
level_by l t b m nodes a (Err f) = told kind.Other a (Err f)

-- the value at an address
unfoldable pub level_at : Layout → ReprTypes → Limits → Memory → (nodes addr : ℕ) → Level
level_at l t b m nodes a = if a == 0 then Whole Absent else level_by l t b m nodes a (type_at l m a)

-- the values that are shown have their shares within the nodes
abbrev pub FitsIn : ℕ → Level → Type 0
FitsIn nodes (Whole t) = ⊤
FitsIn nodes (Row form places share left_out) = length places * (1 + share) ≤ nodes
FitsIn nodes (Entries keys values share left_out) = (length keys + length values) * (1 + share) ≤ nodes
FitsIn nodes (Attributes class a names values share left_out) = (length names + length values) * (1 + share) ≤ nodes

-- ---- as it is read

-- one level of a value that was read
abbrev pub level_of : LevelRead → Level
level_of (WholeRead r) = Whole (tree_of r)
level_of (RowRead form places share left_out) = Row form places.items share left_out
level_of (EntriesRead keys values share left_out) = Entries keys.items values.items share left_out
level_of (AttributesRead class a names values share left_out) = Attributes class a names.items values.items share left_out

-- a result with one level of a value
abbrev pub levels_found : {E : Type 0} → Result LevelRead E → Result Level E
levels_found (Ok level) = Ok (level_of level)
levels_found (Err e) = Err e

-- a fault is told in place of the object; an error is out of memory
abbrev pub ToldBy : Kind → ℕ → Option Fault → Result LevelRead ReprError → Type 0
ToldBy k a None result = result ≡ Err OutOfMemory
ToldBy k a (Some f) result = IfOk result (λ level. level_of level ≡ Whole (fault_tree k a f))

-- what is told of what was found; out of memory is handed on
abbrev pub Tells : Kind → ℕ → Result LevelRead ObjectError → Result LevelRead ReprError → Type 0
Tells k a (Ok level) result = result ≡ Ok level
Tells k a (Err e) result = ToldBy k a (object_fault e) result
