use Rattle.std.proofs.Common.{arith}
use Rattle.std.proofs.lemmas.Result.{err_from_is_err_and}
use Rattle.process_memory.proofs.Reading.{reading_gives}
use Rattle.py_reprs.proofs.Picking.{picking_done, picking_init, picking_lost, picking_more}
use Rattle.py_reprs.proofs.slots.read_entries.Goals as goal

pub loop-number-init : goal.loop-number-init
loop-number-init g c = picking_init _ _ _ _ _ _ c.new-found.ensures.items

pub returns-in_err-pick_entry : goal.returns-in_err-pick_entry
returns-in_err-pick_entry g c =
    let p = err_from_is_err_and c.from_residual.result c.from_residual.ensures.1 in
    rw p.1 (reading_gives _ _ (picking_lost c.loop-number.invariant (omega arith) c.in_err-pick_entry.ensures)
    (omega arith) (λ m h. tt))

pub loop-number-preserved : goal.loop-number-preserved
loop-number-preserved g c = picking_more c.loop-number.invariant (omega arith) c.in_ok-pick_entry.ensures

pub returns : goal.returns
returns g c = reading_gives _ _ (picking_done c.loop-number.invariant (omega arith)) (omega arith) (λ m h. h)
