use Rattle.std.proofs.Common.{arith}
use Rattle.process_memory.proofs.Reading.{reads_same, reads_within}
use Rattle.py_tasks.specs.Tasks.{checked_at, sized_at, typed_at}
use Rattle.py_tasks.proofs.Listing.{with_type, without_type}
use Rattle.py_tasks.proofs.tasks.read_sized.Goals as goal

pub returns-in-None : goal.returns-in-None
returns-in-None g c =
    reads_same (λ m. sized_at c.args.layout.now c.args.records.now m c.args.places.now c.args.root_places.now
    c.args.modules c.args.roots.now)
    (λ m. typed_at c.args.layout.now c.args.records.now m c.args.places.now c.args.root_places.now c.args.modules
    c.args.roots.now 0)
    (λ m. without_type c.args.layout.now c.args.records.now m c.args.places.now c.args.root_places.now
    c.args.roots.now c.args.modules c.in-None.is)
    (reads_within 1107984452 c.read_typed.ensures (omega arith))

pub returns-in-Some : goal.returns-in-Some
returns-in-Some g c =
    reads_same (λ m. sized_at c.args.layout.now c.args.records.now m c.args.places.now c.args.root_places.now
    c.args.modules c.args.roots.now)
    (λ m. checked_at c.args.layout.now c.args.records.now m c.args.places.now c.args.root_places.now c.args.modules
    c.args.roots.now c.in-Some.task)
    (λ m. with_type c.args.layout.now c.args.records.now m c.args.places.now c.args.root_places.now
    c.args.roots.now c.args.modules c.in-Some.task c.in-Some.is)
    c.read_checked.ensures
