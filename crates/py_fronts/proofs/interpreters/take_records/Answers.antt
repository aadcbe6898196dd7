use Rattle.std.proofs.Common.{arith}
use Rattle.std.proofs.lemmas.Result.{err_from_is_err_and}
use Rattle.py_fronts.proofs.FindSteps.{turning_done, turning_init, turning_lost, turning_more}
use Rattle.py_fronts.proofs.interpreters.take_records.Goals as goal

pub loop-index-init : goal.loop-index-init
loop-index-init g c = turning_init (g.M.ContainsAddr.contains c.args.maps.now) c.args.layout.now c.args.finds.now _

pub returns-in_err-take_record : goal.returns-in_err-take_record
returns-in_err-take_record g c =
    let p = err_from_is_err_and c.from_residual.result c.from_residual.ensures.1 in
    rw p.1 (turning_lost p.0 c.in_err-take_record.field-0.0 c.loop-index.invariant c.in_err-take_record.ensures p.2)

pub loop-index-preserved : goal.loop-index-preserved
loop-index-preserved g c = turning_more c.take_record.new.finds c.loop-index.invariant (omega arith) c.in_ok-take_record.ensures

pub returns : goal.returns
returns g c = turning_done c.loop-index.invariant (omega arith)
