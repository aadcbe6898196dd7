use Rattle.std.proofs.Common.{arith, ap, refl}
use Rattle.std.proofs.Math.Nat.{le_refl}
use Rattle.std.proofs.lemmas.Result.{err_from_is_err_and}
use Rattle.process_memory.proofs.Reading.{reads_next, reads_halt, reads_end}
use Rattle.py_stacks.specs.StackError.{stack_fault}
use Rattle.py_stacks.specs.Stacks.{stacks_at}
use Rattle.py_stacks.proofs.StackLaws.{stacks_budget, stacks_costs}
use Rattle.py_stacks.proofs.stacks.walk_stack_traces.Goals as goal

pub returns-in_err-holder_id : goal.returns-in_err-holder_id
unfolding stacks_at
returns-in_err-holder_id g c =
    let p = err_from_is_err_and c.from_residual.result c.from_residual.ensures.1 in
    rw p.1 (reads_halt _ p.0 _ c.in_err-holder_id.ensures.answer (ap stack_fault p.2) (stacks_costs _ _ _ _ _))

pub returns-in_err-traces : goal.returns-in_err-traces
unfolding stacks_at
returns-in_err-traces g c =
    let p = err_from_is_err_and c.from_residual-in_err-traces.result c.from_residual-in_err-traces.ensures.1 in
    rw p.1 (reads_next _ _ c.in_ok-holder_id.ensures.answer (reads_halt _ p.0 _ c.in_err-traces.ensures (ap stack_fault p.2) (le_refl _)) (stacks_budget c.args.asked c.args.layout.now c.args.lock c.args.interpreter c.in_ok-holder_id.holder_id c.in_ok-holder_id.ensures.answer))

pub returns : goal.returns
unfolding stacks_at
returns g c = reads_next _ _ c.in_ok-holder_id.ensures.answer (reads_next _ _ c.in_ok-traces.ensures (reads_end 0 (rw c.mark_holder.ensures refl)) (omega arith)) (stacks_budget c.args.asked c.args.layout.now c.args.lock c.args.interpreter c.in_ok-holder_id.holder_id c.in_ok-holder_id.ensures.answer)
