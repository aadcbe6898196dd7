use Rattle.std.proofs.Common.{arith}
use Rattle.std.proofs.Math.Nat.{le_refl}
use Rattle.process_memory.specs.Memory.{byte_at}
use Rattle.process_memory.proofs.Reading.{reading_gives}
use Rattle.py_stacks.specs.Asking.{asked_of}
use Rattle.py_stacks.proofs.Bounds.{stacks_within}
use Rattle.py_stacks.proofs.DetailBounds.{details_walked_sum, stacks_most}
use Rattle.py_stacks.proofs.NamedLaws.{named_within, slots_few}
use Rattle.py_stacks.proofs.OverLaws.{over_costs, over_faults_law, over_law, over_only}
use Rattle.py_stacks.proofs.ValueBounds.{values_few}
use Rattle.py_stacks.proofs.stacks_over.get_stack_over.Goals as goal

pub returns-clause-traces : goal.returns-clause-traces
returns-clause-traces g c = reading_gives _ _ c.read_stacks.ensures (le_refl _) (λ m a. over_law c.args.config.now c.args.layout.now m c.args.addresses.now.lock c.args.addresses.now.interpreter c.read_stacks.result a)

pub returns-clause-only : goal.returns-clause-only
returns-clause-only g c = reading_gives _ _ c.read_stacks.ensures (le_refl _) (λ m a. over_only c.args.config.now c.args.layout.now m c.args.addresses.now.lock c.args.addresses.now.interpreter c.read_stacks.result a)

pub returns-clause-faults : goal.returns-clause-faults
returns-clause-faults g c = reading_gives _ _ c.read_stacks.ensures (le_refl _) (λ m a. over_faults_law c.args.config.now c.args.layout.now m c.args.addresses.now.lock c.args.addresses.now.interpreter c.read_stacks.result a)

pub returns-clause-bound : goal.returns-clause-bound
returns-clause-bound g c =
    let m = byte_at (g.P.ProcessMemory.seen c.args.process.now).pieces in
    let q = asked_of c.args.config.now in
    omega (arith, c.read_stacks.ensures.cost, over_costs c.args.config.now c.args.layout.now m c.args.addresses.now.lock c.args.addresses.now.interpreter, named_within q c.args.layout.now m c.args.addresses.now.lock c.args.addresses.now.interpreter, stacks_within q c.args.layout.now m c.args.addresses.now.lock c.args.addresses.now.interpreter)

pub returns-clause-details : goal.returns-clause-details
returns-clause-details g c = details_walked_sum (asked_of c.args.config.now) c.args.layout.now _ c.args.addresses.now.lock c.args.addresses.now.interpreter

pub returns-clause-values : goal.returns-clause-values
returns-clause-values g c = values_few c.args.config.now c.args.layout.now _ c.args.addresses.now.lock c.args.addresses.now.interpreter

pub returns-clause-most : goal.returns-clause-most
returns-clause-most g c =
    let m = byte_at (g.P.ProcessMemory.seen c.args.process.now).pieces in
    let q = asked_of c.args.config.now in
    omega (arith, c.read_stacks.ensures.cost, over_costs c.args.config.now c.args.layout.now m c.args.addresses.now.lock c.args.addresses.now.interpreter, named_within q c.args.layout.now m c.args.addresses.now.lock c.args.addresses.now.interpreter, slots_few q c.args.layout.now m c.args.addresses.now.lock c.args.addresses.now.interpreter, stacks_most q c.args.layout.now m c.args.addresses.now.lock c.args.addresses.now.interpreter, values_few c.args.config.now c.args.layout.now m c.args.addresses.now.lock c.args.addresses.now.interpreter)
