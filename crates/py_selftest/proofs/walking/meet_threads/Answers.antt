use Rattle.std.proofs.Common.{◌*◌, ◌+◌, ap, arith, length}
use Rattle.std.proofs.lemmas.Result.{err_from_is_err_and}
use Rattle.process_memory.specs.Seen.{read_fault}
use Rattle.py_selftest.specs.Walking.{met_shown}
use Rattle.py_selftest.proofs.Folding.{folding_done, folding_init, folding_more, folding_stop, threads_end, threads_go}
use Rattle.py_selftest.proofs.Folding.{threads_rest}
use Rattle.py_selftest.proofs.walking.meet_threads.Goals as goal

pub loop-thread-init : goal.loop-thread-init
loop-thread-init g c = (
  omega arith,
  folding_init (threads_rest c.args.layout.now c.args.release c.args.pointers.now c.args.threads.now) (met_shown c.args.begun) _,
)

pub returns-in_err-met : goal.returns-in_err-met
returns-in_err-met g c =
    let p = err_from_is_err_and c.from_residual.result c.from_residual.ensures.1 in
    rw p.1 (folding_stop (727 * length c.args.threads.now) _ p.0 c.loop-thread.invariant.1
    (threads_go c.args.layout.now c.args.release c.args.pointers.now c.args.threads.now c.loop-thread.thread-index _
    c.loop-thread-test.true) c.in_err-met.ensures
    (ap read_fault p.2) (omega (arith, c.loop-thread-test.true)))

pub loop-thread-preserved : goal.loop-thread-preserved
loop-thread-preserved g c = (
  omega (arith, c.loop-thread-test.true),
  folding_more (727 * (c.loop-thread.thread-index + 1)) _ (met_shown c.in_ok-met.met) c.loop-thread.invariant.1
      (threads_go c.args.layout.now c.args.release c.args.pointers.now c.args.threads.now c.loop-thread.thread-index _
      c.loop-thread-test.true) c.in_ok-met.ensures (omega arith),
)

pub returns : goal.returns
returns g c = folding_done (727 * length c.args.threads.now) c.loop-thread.invariant.1
    (λ m. threads_end c.args.layout.now c.args.release c.args.pointers.now c.args.threads.now c.loop-thread.thread-index (omega arith) m
    (met_shown c.loop-thread.met)) (omega (arith, c.loop-thread.invariant.0))
