use Rattle.std.proofs.Common.{arith}
use Rattle.std.proofs.lemmas.Result.{err_from_is_err_and}
use Rattle.process_memory.proofs.Reading.{reading_gives}
use Rattle.py_reprs.proofs.Mapping.{mapping_done, mapping_init, mapping_lost, mapping_more}
use Rattle.repr_types.proofs.found.classes_named.Goals as goal

pub loop-number-init : goal.loop-number-init
loop-number-init g c = mapping_init _ _ _ _ _ c.new-found.ensures.items

pub loop-number-preserved : goal.loop-number-preserved
loop-number-preserved g c =
    mapping_more _ _ c.loop-number.invariant c.loop-number-test.true c.in_ok-known.ensures c.in_ok-push.ensures.items

pub returns-in_err-known : goal.returns-in_err-known
returns-in_err-known g c =
    let p = err_from_is_err_and c.from_residual.result c.from_residual.ensures.1 in
    rw p.1 (reading_gives _ _ (mapping_lost c.loop-number.invariant c.loop-number-test.true c.in_err-known.ensures)
    (omega arith) (λ m h. tt))

pub returns-in_err-push : goal.returns-in_err-push
returns-in_err-push g c =
    let p = err_from_is_err_and c.from_residual-in_err-push.result c.from_residual-in_err-push.ensures.1 in
    rw p.1 (reading_gives _ _ (mapping_lost c.loop-number.invariant c.loop-number-test.true c.in_ok-known.ensures)
    (omega arith) (λ m h. tt))

pub returns : goal.returns
returns g c = mapping_done c.loop-number.invariant c.loop-number-test.false
