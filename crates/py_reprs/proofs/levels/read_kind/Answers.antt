use Rattle.std.proofs.Common.{arith}
use Rattle.process_memory.proofs.Reading.{reads_within}
use Rattle.py_reprs.specs.Levels.{kind_level_at}
use Rattle.py_reprs.proofs.levels.read_kind.Goals as goal

pub returns-in-List-clause-answer : goal.returns-in-List-clause-answer
unfolding kind_level_at
returns-in-List-clause-answer g c = rw c.in-List.is (reads_within _ c.read_sequence.ensures.answer (omega arith))

pub returns-in-Tuple-clause-answer : goal.returns-in-Tuple-clause-answer
unfolding kind_level_at
returns-in-Tuple-clause-answer g c = rw c.in-Tuple.is (reads_within _ c.read_sequence-in-Tuple.ensures.answer (omega arith))

pub returns-in-Range-clause-answer : goal.returns-in-Range-clause-answer
unfolding kind_level_at
returns-in-Range-clause-answer g c = rw c.in-Range.is (reads_within _ c.read_fields.ensures.answer (omega arith))

pub returns-in-Slice-clause-answer : goal.returns-in-Slice-clause-answer
unfolding kind_level_at
returns-in-Slice-clause-answer g c = rw c.in-Slice.is (reads_within _ c.read_fields-in-Slice.ensures.answer (omega arith))

pub returns-in-Cell-clause-answer : goal.returns-in-Cell-clause-answer
unfolding kind_level_at
returns-in-Cell-clause-answer g c = rw c.in-Cell.is (reads_within _ c.read_fields-in-Cell.ensures.answer (omega arith))

pub returns-in-Method-clause-answer : goal.returns-in-Method-clause-answer
unfolding kind_level_at
returns-in-Method-clause-answer g c = rw c.in-Method.is (reads_within _ c.read_fields-in-Method.ensures.answer (omega arith))

pub returns-in-Nothing-clause-answer : goal.returns-in-Nothing-clause-answer
unfolding kind_level_at
returns-in-Nothing-clause-answer g c = rw c.in-Nothing.is (reads_within _ c.read_leaf_level.ensures.answer (omega arith))

pub returns-in-Ellipsis-clause-answer : goal.returns-in-Ellipsis-clause-answer
unfolding kind_level_at
returns-in-Ellipsis-clause-answer g c = rw c.in-Ellipsis.is (reads_within _ c.read_leaf_level-in-Ellipsis.ensures.answer (omega arith))

pub returns-in-NotImplemented-clause-answer : goal.returns-in-NotImplemented-clause-answer
unfolding kind_level_at
returns-in-NotImplemented-clause-answer g c = rw c.in-NotImplemented.is (reads_within _ c.read_leaf_level-in-NotImplemented.ensures.answer (omega arith))

pub returns-in-Truth-clause-answer : goal.returns-in-Truth-clause-answer
unfolding kind_level_at
returns-in-Truth-clause-answer g c = rw c.in-Truth.is (reads_within _ c.read_leaf_level-in-Truth.ensures.answer (omega arith))

pub returns-in-Integer-clause-answer : goal.returns-in-Integer-clause-answer
unfolding kind_level_at
returns-in-Integer-clause-answer g c = rw c.in-Integer.is (reads_within _ c.read_leaf_level-in-Integer.ensures.answer (omega arith))

pub returns-in-SmallInteger-clause-answer : goal.returns-in-SmallInteger-clause-answer
unfolding kind_level_at
returns-in-SmallInteger-clause-answer g c = rw c.in-SmallInteger.is (reads_within _ c.read_leaf_level-in-SmallInteger.ensures.answer (omega arith))

pub returns-in-Float-clause-answer : goal.returns-in-Float-clause-answer
unfolding kind_level_at
returns-in-Float-clause-answer g c = rw c.in-Float.is (reads_within _ c.read_leaf_level-in-Float.ensures.answer (omega arith))

pub returns-in-Complex-clause-answer : goal.returns-in-Complex-clause-answer
unfolding kind_level_at
returns-in-Complex-clause-answer g c = rw c.in-Complex.is (reads_within _ c.read_leaf_level-in-Complex.ensures.answer (omega arith))

pub returns-in-Text-clause-answer : goal.returns-in-Text-clause-answer
unfolding kind_level_at
returns-in-Text-clause-answer g c = rw c.in-Text.is (reads_within _ c.read_leaf_level-in-Text.ensures.answer (omega arith))

pub returns-in-Bytes-clause-answer : goal.returns-in-Bytes-clause-answer
unfolding kind_level_at
returns-in-Bytes-clause-answer g c = rw c.in-Bytes.is (reads_within _ c.read_leaf_level-in-Bytes.ensures.answer (omega arith))

pub returns-in-ByteArray-clause-answer : goal.returns-in-ByteArray-clause-answer
unfolding kind_level_at
returns-in-ByteArray-clause-answer g c = rw c.in-ByteArray.is (reads_within _ c.read_leaf_level-in-ByteArray.ensures.answer (omega arith))

pub returns-in-Class-clause-answer : goal.returns-in-Class-clause-answer
unfolding kind_level_at
returns-in-Class-clause-answer g c = rw c.in-Class.is (reads_within _ c.read_leaf_level-in-Class.ensures.answer (omega arith))

pub returns-in-Dict-clause-answer : goal.returns-in-Dict-clause-answer
unfolding kind_level_at
returns-in-Dict-clause-answer g c = rw c.in-Dict.is (reads_within _ c.read_dict.ensures.answer (omega arith))

pub returns-in-Set-clause-answer : goal.returns-in-Set-clause-answer
unfolding kind_level_at
returns-in-Set-clause-answer g c = rw c.in-Set.is (reads_within _ c.read_set.ensures.answer (omega arith))

pub returns-in-FrozenSet-clause-answer : goal.returns-in-FrozenSet-clause-answer
unfolding kind_level_at
returns-in-FrozenSet-clause-answer g c = rw c.in-FrozenSet.is (reads_within _ c.read_set-in-FrozenSet.ensures.answer (omega arith))

pub returns-in-Function-clause-answer : goal.returns-in-Function-clause-answer
unfolding kind_level_at
returns-in-Function-clause-answer g c = rw c.in-Function.is (reads_within _ c.read_leaf_level-in-Function.ensures.answer (omega arith))

pub returns-in-Builtin-clause-answer : goal.returns-in-Builtin-clause-answer
unfolding kind_level_at
returns-in-Builtin-clause-answer g c = rw c.in-Builtin.is (reads_within _ c.read_leaf_level-in-Builtin.ensures.answer (omega arith))

pub returns-in-Module-clause-answer : goal.returns-in-Module-clause-answer
unfolding kind_level_at
returns-in-Module-clause-answer g c = rw c.in-Module.is (reads_within _ c.read_leaf_level-in-Module.ensures.answer (omega arith))

pub returns-in-Coroutine-clause-answer : goal.returns-in-Coroutine-clause-answer
unfolding kind_level_at
returns-in-Coroutine-clause-answer g c =
    rw c.in-Coroutine.is (reads_within _ c.read_coroutine_level.ensures.answer (omega arith))

pub returns-in-Other-clause-answer : goal.returns-in-Other-clause-answer
unfolding kind_level_at
returns-in-Other-clause-answer g c = rw c.in-Other.is (reads_within _ c.read_other.ensures.answer (omega arith))
