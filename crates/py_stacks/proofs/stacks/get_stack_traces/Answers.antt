use Rattle.std.proofs.Common.{arith}
use Rattle.std.proofs.Math.Nat.{le_refl}
use Rattle.process_memory.proofs.Reading.{reading_gives}
use Rattle.py_stacks.specs.Asking.{asked_by}
use Rattle.process_memory.specs.Memory.{byte_at}
use Rattle.py_stacks.proofs.Bounds.{stacks_within}
use Rattle.py_stacks.proofs.StackLaws.{stacks_law, stacks_faults_law}
use Rattle.py_stacks.proofs.DetailBounds.{details_walked_sum, stacks_most}
use Rattle.py_stacks.proofs.Wholes.{stacks_only}
use Rattle.py_stacks.proofs.stacks.get_stack_traces.Goals as goal

pub returns-clause-answer : goal.returns-clause-answer
returns-clause-answer g c = rw c.asked_by-asked.ensures at c.walk_stack_traces.ensures

pub returns-clause-traces : goal.returns-clause-traces
returns-clause-traces g c = reading_gives _ _ (rw c.asked_by-asked.ensures at c.walk_stack_traces.ensures) (le_refl _) (λ m a. stacks_law (asked_by c.args.config) c.args.layout.now m c.args.lock c.args.interpreter c.walk_stack_traces.result a)

pub returns-clause-faults : goal.returns-clause-faults
returns-clause-faults g c = reading_gives _ _ (rw c.asked_by-asked.ensures at c.walk_stack_traces.ensures) (le_refl _) (λ m a. stacks_faults_law (asked_by c.args.config) c.args.layout.now m c.args.lock c.args.interpreter c.walk_stack_traces.result a)

pub returns-clause-only : goal.returns-clause-only
returns-clause-only g c = reading_gives _ _ (rw c.asked_by-asked.ensures at c.walk_stack_traces.ensures) (le_refl _) (λ m a. stacks_only (asked_by c.args.config) c.args.layout.now m c.args.lock c.args.interpreter c.walk_stack_traces.result a)

pub returns-clause-bound : goal.returns-clause-bound
returns-clause-bound g c =
    let cost = (rw c.asked_by-asked.ensures at c.walk_stack_traces.ensures).cost in
    let most = stacks_within (asked_by c.args.config) c.args.layout.now (byte_at (g.P.ProcessMemory.seen c.args.process.now).pieces) c.args.lock c.args.interpreter in
    omega (arith, cost, most)

pub returns-clause-details : goal.returns-clause-details
returns-clause-details g c = details_walked_sum (asked_by c.args.config) c.args.layout.now _ c.args.lock c.args.interpreter

pub returns-clause-most : goal.returns-clause-most
returns-clause-most g c =
    let m = byte_at (g.P.ProcessMemory.seen c.args.process.now).pieces in
    let cost = (rw c.asked_by-asked.ensures at c.walk_stack_traces.ensures).cost in
    let most = stacks_most (asked_by c.args.config) c.args.layout.now m c.args.lock c.args.interpreter in
    omega (arith, cost, most)
