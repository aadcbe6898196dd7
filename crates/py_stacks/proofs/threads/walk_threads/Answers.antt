use Rattle.std.proofs.Common.{arith, refl, ap}
use Rattle.std.proofs.lemmas.List.{map-append}
use Rattle.std.proofs.lemmas.Result.{err_from_is_err_and}
use Rattle.process_memory.specs.Memory.Fault.{ThreadLimit}
use Rattle.process_memory.proofs.Walks.{walking_init, walking_more, walking_done, walking_full, walking_lost}
use Rattle.process_memory.proofs.Walks.{walking_stop}
use Rattle.py_stacks.specs.declared.error.StackError.TheVariants as stack
use Rattle.py_stacks.specs.StackError.{stack_fault}
use Rattle.py_stacks.specs.Threads.{thread_step, thread_cost, thread_limit, threads_at, threads_cost}
use Rattle.py_stacks.proofs.threads.walk_threads.Goals as goal

pub loop-at-init : goal.loop-at-init
loop-at-init g c = rw (c.new-traces.ensures.len, c.new-traces.ensures.items) (walking_init ThreadLimit (thread_step c.args.asked c.args.layout.now) (thread_cost c.args.asked c.args.layout.now) thread_limit tt c.args.head _)

pub returns-then-len-eq-THREAD_LIMIT : goal.returns-then-len-eq-THREAD_LIMIT
unfolding threads_at threads_cost
returns-then-len-eq-THREAD_LIMIT g c = walking_full stack.ThreadLimit c.loop-at.invariant (omega arith) (omega arith) refl

pub returns-in_err-next : goal.returns-in_err-next
unfolding threads_at threads_cost
returns-in_err-next g c =
    let p = err_from_is_err_and c.from_residual.result c.from_residual.ensures.1 in
    rw p.1 (walking_stop p.0 c.loop-at.invariant (omega arith) (omega arith) c.in_err-next.ensures (ap stack_fault p.2))

pub returns-in_err-push : goal.returns-in_err-push
unfolding threads_at threads_cost
returns-in_err-push g c =
    let p = err_from_is_err_and c.from_residual-in_err-push.result c.from_residual-in_err-push.ensures.1 in
    rw p.1 (walking_lost {step = thread_step c.args.asked c.args.layout.now} p.0 (walking_more c.loop-at.invariant (omega arith) (omega arith) c.in_ok-next.ensures) (ap stack_fault p.2))

pub loop-at-preserved : goal.loop-at-preserved
loop-at-preserved g c =
    rw (c.in_ok-push.ensures.len, c.in_ok-push.ensures.items, map-append) (walking_more c.loop-at.invariant (omega arith) (omega arith) c.in_ok-next.ensures)

pub returns : goal.returns
unfolding threads_at threads_cost
returns g c = walking_done c.loop-at.invariant (omega arith)
