use Rattle.std.proofs.Common.{arith, ap}
use Rattle.std.proofs.lemmas.Result.{err_from_is_err_and}
use Rattle.py_stacks.specs.StackError.{stack_fault}
use Rattle.py_stacks.specs.Records.{member_of}
use Rattle.py_stacks.proofs.LocalSteps.{taking_init, taking_more, taking_done, taking_stop, taking_lost}
use Rattle.py_stacks.proofs.locals.read_locals_each.Goals as goal

pub loop-index-init : goal.loop-index-init
loop-index-init g c = rw c.new-locals.ensures.items (taking_init c.args.layout.now (member_of c.args.records.now) _ c.args.count)

pub returns-in_err-local : goal.returns-in_err-local
returns-in_err-local g c =
    let p = err_from_is_err_and c.from_residual.result c.from_residual.ensures.1 in
    rw p.1 (taking_stop p.0 c.loop-index.invariant (omega arith) c.in_err-local.ensures (ap stack_fault p.2))

pub returns-in_err-add_local : goal.returns-in_err-add_local
returns-in_err-add_local g c =
    let p = err_from_is_err_and c.from_residual-in_err-add_local.result c.from_residual-in_err-add_local.ensures.1 in
    rw p.1 (taking_lost p.0 c.loop-index.invariant (omega arith) c.in_ok-local.ensures (ap stack_fault p.2))

pub loop-index-preserved : goal.loop-index-preserved
loop-index-preserved g c =
    rw c.in_ok-add_local.ensures (taking_more c.in_ok-local.local c.loop-index.invariant (omega arith) c.in_ok-local.ensures)

pub returns : goal.returns
returns g c = taking_done c.loop-index.invariant (omega arith)
