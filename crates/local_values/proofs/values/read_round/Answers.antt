use Rattle.std.proofs.Common.{arith}
use Rattle.std.proofs.lemmas.Result.{err_from_is_err_and}
use Rattle.process_memory.proofs.Reading.{reading_gives}
use Rattle.py_reprs.specs.Trees.{tree_of}
use Rattle.local_values.proofs.Filling.{filling_end, filling_full, filling_lost, filling_more, filling_none}
use Rattle.local_values.proofs.values.read_round.Goals as goal

pub loop-number-init : goal.loop-number-init
loop-number-init g c = filling_none _ _ _ _ _

pub loop-number-preserved : goal.loop-number-preserved
loop-number-preserved g c =
    filling_more (tree_of c.in_ok-value.value) c.loop-number.invariant c.if-left-eq0.false c.loop-number-test.true
    c.in_ok-value.ensures c.left_after-left.ensures c.in_ok-keep.ensures

pub returns-then-left-eq0 : goal.returns-then-left-eq0
returns-then-left-eq0 g c =
    filling_full _ c.loop-number.invariant c.if-left-eq0.true
    (λ m are count. record { are = are; past = omega (arith, count) })

pub returns-in_err-value : goal.returns-in_err-value
returns-in_err-value g c =
    let p = err_from_is_err_and c.from_residual.result c.from_residual.ensures.1 in
    rw p.1 (reading_gives _ _ (filling_lost c.loop-number.invariant c.loop-number-test.true c.in_err-value.ensures)
    (omega arith) (λ m h. tt))

pub returns-in_err-keep : goal.returns-in_err-keep
returns-in_err-keep g c =
    let p = err_from_is_err_and c.from_residual-in_err-keep.result c.from_residual-in_err-keep.ensures.1 in
    rw p.1 (reading_gives _ _ (filling_lost c.loop-number.invariant c.loop-number-test.true c.in_ok-value.ensures)
    (omega arith) (λ m h. tt))

pub returns : goal.returns
returns g c =
    filling_end _ c.loop-number.invariant c.loop-number-test.false
    (λ m are count. record { are = are; past = omega (arith, count) })
