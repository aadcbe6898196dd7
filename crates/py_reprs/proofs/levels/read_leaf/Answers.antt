use Rattle.std.proofs.Common.{arith, ap, sym}
use Rattle.std.specs.Prelude.{Ok}
use Rattle.process_memory.proofs.Reading.{reading_none, reads_within}
use Rattle.py_reprs.proofs.Views.{tree-Nothing, tree-Ellipsis, tree-NotImplemented}
use Rattle.py_reprs.specs.Levels.{leaf_at}
use Rattle.py_reprs.proofs.levels.read_leaf.Goals as goal

pub returns-in-Nothing : goal.returns-in-Nothing
unfolding leaf_at
returns-in-Nothing g c = rw c.in-Nothing.is (reading_none _ _ _ (λ m. record { is = ap Ok (sym tree-Nothing) }))

pub returns-in-Ellipsis : goal.returns-in-Ellipsis
unfolding leaf_at
returns-in-Ellipsis g c = rw c.in-Ellipsis.is (reading_none _ _ _ (λ m. record { is = ap Ok (sym tree-Ellipsis) }))

pub returns-in-NotImplemented : goal.returns-in-NotImplemented
unfolding leaf_at
returns-in-NotImplemented g c = rw c.in-NotImplemented.is (reading_none _ _ _ (λ m. record { is = ap Ok (sym tree-NotImplemented) }))

pub returns-in-Truth : goal.returns-in-Truth
unfolding leaf_at
returns-in-Truth g c = rw c.in-Truth.is (reads_within _ (rw c.is_python_2.ensures at c.read_truth.ensures) (omega arith))

pub returns-in-Integer : goal.returns-in-Integer
unfolding leaf_at
returns-in-Integer g c = rw c.in-Integer.is (reads_within _ c.read_integer.ensures (omega arith))

pub returns-in-SmallInteger : goal.returns-in-SmallInteger
unfolding leaf_at
returns-in-SmallInteger g c = rw c.in-SmallInteger.is (reads_within _ c.read_small_integer.ensures (omega arith))

pub returns-in-Float : goal.returns-in-Float
unfolding leaf_at
returns-in-Float g c = rw c.in-Float.is (reads_within _ c.read_float.ensures (omega arith))

pub returns-in-Complex : goal.returns-in-Complex
unfolding leaf_at
returns-in-Complex g c = rw c.in-Complex.is (reads_within _ c.read_complex.ensures (omega arith))

pub returns-in-Text : goal.returns-in-Text
unfolding leaf_at
returns-in-Text g c = rw c.in-Text.is (reads_within _ c.read_text.ensures (omega arith))

pub returns-in-Bytes : goal.returns-in-Bytes
unfolding leaf_at
returns-in-Bytes g c = rw c.in-Bytes.is (reads_within _ c.read_bytes.ensures (omega arith))

pub returns-in-ByteArray : goal.returns-in-ByteArray
unfolding leaf_at
returns-in-ByteArray g c = rw c.in-ByteArray.is (reads_within _ c.read_bytearray.ensures (omega arith))

pub returns-in-Class : goal.returns-in-Class
unfolding leaf_at
returns-in-Class g c = rw c.in-Class.is (reads_within _ c.read_class.ensures (omega arith))

pub returns-in-List : goal.returns-in-List
unfolding leaf_at
returns-in-List g c = rw c.in-List.is (reads_within _ c.read_opaque.ensures (omega arith))

pub returns-in-Tuple : goal.returns-in-Tuple
unfolding leaf_at
returns-in-Tuple g c = rw c.in-Tuple.is (reads_within _ c.read_opaque-in-Tuple.ensures (omega arith))

pub returns-in-Dict : goal.returns-in-Dict
unfolding leaf_at
returns-in-Dict g c = rw c.in-Dict.is (reads_within _ c.read_opaque-in-Dict.ensures (omega arith))

pub returns-in-Set : goal.returns-in-Set
unfolding leaf_at
returns-in-Set g c = rw c.in-Set.is (reads_within _ c.read_opaque-in-Set.ensures (omega arith))

pub returns-in-FrozenSet : goal.returns-in-FrozenSet
unfolding leaf_at
returns-in-FrozenSet g c = rw c.in-FrozenSet.is (reads_within _ c.read_opaque-in-FrozenSet.ensures (omega arith))

pub returns-in-Range : goal.returns-in-Range
unfolding leaf_at
returns-in-Range g c = rw c.in-Range.is (reads_within _ c.read_opaque-in-Range.ensures (omega arith))

pub returns-in-Slice : goal.returns-in-Slice
unfolding leaf_at
returns-in-Slice g c = rw c.in-Slice.is (reads_within _ c.read_opaque-in-Slice.ensures (omega arith))

pub returns-in-Cell : goal.returns-in-Cell
unfolding leaf_at
returns-in-Cell g c = rw c.in-Cell.is (reads_within _ c.read_opaque-in-Cell.ensures (omega arith))

pub returns-in-Function : goal.returns-in-Function
unfolding leaf_at
returns-in-Function g c = rw c.in-Function.is (reads_within _ c.read_opaque-in-Function.ensures (omega arith))

pub returns-in-Method : goal.returns-in-Method
unfolding leaf_at
returns-in-Method g c = rw c.in-Method.is (reads_within _ c.read_opaque-in-Method.ensures (omega arith))

pub returns-in-Builtin : goal.returns-in-Builtin
unfolding leaf_at
returns-in-Builtin g c = rw c.in-Builtin.is (reads_within _ c.read_opaque-in-Builtin.ensures (omega arith))

pub returns-in-Module : goal.returns-in-Module
unfolding leaf_at
returns-in-Module g c = rw c.in-Module.is (reads_within _ c.read_opaque-in-Module.ensures (omega arith))

pub returns-in-Coroutine : goal.returns-in-Coroutine
unfolding leaf_at
returns-in-Coroutine g c = rw c.in-Coroutine.is (reads_within _ c.read_opaque-in-Coroutine.ensures (omega arith))

pub returns-in-Other : goal.returns-in-Other
unfolding leaf_at
returns-in-Other g c = rw c.in-Other.is (reads_within _ c.read_opaque-in-Other.ensures (omega arith))
