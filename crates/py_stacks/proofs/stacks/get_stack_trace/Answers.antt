use Rattle.std.proofs.Common.{arith}
use Rattle.std.proofs.Math.Nat.{le_refl}
use Rattle.process_memory.specs.Memory.{byte_at}
use Rattle.process_memory.proofs.Reading.{reading_gives}
use Rattle.py_stacks.specs.Asking.{asks}
use Rattle.py_stacks.proofs.ThreadLaws.{trace_law, trace_faults_law}
use Rattle.py_stacks.proofs.Bounds.{thread_within}
use Rattle.py_stacks.proofs.DetailBounds.{thread_details_sum, thread_most}
use Rattle.py_stacks.proofs.Wholes.{trace_only}
use Rattle.py_stacks.proofs.stacks.get_stack_trace.Goals as goal

pub returns-clause-trace : goal.returns-clause-trace
returns-clause-trace g c = reading_gives _ _ c.walk_stack_trace.ensures (le_refl _) (λ m a. trace_law (asks c.args.lineno c.args.copy_locals) c.args.layout.now m c.args.thread c.walk_stack_trace.result a)

pub returns-clause-only : goal.returns-clause-only
returns-clause-only g c = reading_gives _ _ c.walk_stack_trace.ensures (le_refl _) (λ m a. trace_only (asks c.args.lineno c.args.copy_locals) c.args.layout.now m c.args.thread c.walk_stack_trace.result a)

pub returns-clause-faults : goal.returns-clause-faults
returns-clause-faults g c = reading_gives _ _ c.walk_stack_trace.ensures (le_refl _) (λ m a. trace_faults_law (asks c.args.lineno c.args.copy_locals) c.args.layout.now m c.args.thread c.walk_stack_trace.result a)

pub returns-clause-bound : goal.returns-clause-bound
returns-clause-bound g c =
    let m = byte_at (g.P.ProcessMemory.seen c.args.process.now).pieces in
    let q = asks c.args.lineno c.args.copy_locals in
    omega (arith, c.walk_stack_trace.ensures.cost, thread_within q c.args.layout.now m c.args.thread)

pub returns-clause-details : goal.returns-clause-details
returns-clause-details g c =
    thread_details_sum (asks c.args.lineno c.args.copy_locals) c.args.layout.now _ c.args.thread

pub returns-clause-most : goal.returns-clause-most
returns-clause-most g c =
    let m = byte_at (g.P.ProcessMemory.seen c.args.process.now).pieces in
    let q = asks c.args.lineno c.args.copy_locals in
    omega (arith, c.walk_stack_trace.ensures.cost, thread_most q c.args.layout.now m c.args.thread)
