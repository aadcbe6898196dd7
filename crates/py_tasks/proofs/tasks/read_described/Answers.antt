use Rattle.std.proofs.Common.{refl}
use Rattle.std.specs.Prelude.{Ok}
use Rattle.process_memory.proofs.Reading.{reads_end, reads_same}
use Rattle.coroutine_frames.specs.Described.{unchecked_of}
use Rattle.py_tasks.specs.Shown.{TasksShown}
use Rattle.py_tasks.specs.Tasks.{described_at, described_with, listed_at}
use Rattle.py_tasks.proofs.Awaiting.{no_places, some_places}
use Rattle.py_tasks.proofs.Listing.{is_described, not_described}
use Rattle.py_tasks.proofs.tasks.read_described.Goals as goal

pub returns-in-None : goal.returns-in-None
returns-in-None g c =
    let none = no_places (unchecked_of c.args.layout.now c.args.records.now c.args.types)
    (c.in-None.ensures.all refl) in
    reads_same (λ m. described_at c.args.layout.now c.args.records.now m c.args.places.now c.args.root_places.now
    c.args.roots.now c.args.types)
    (λ m. Ok TasksShown.TasksUnknown)
    (λ m. not_described c.args.layout.now c.args.records.now m c.args.places.now c.args.root_places.now
    c.args.roots.now c.args.types none)
    (reads_end 1106935835 refl)

pub returns-in-Some : goal.returns-in-Some
returns-in-Some g c =
    let some = some_places (unchecked_of c.args.layout.now c.args.records.now c.args.types) c.in-Some.awaits
    c.in-Some.ensures.described c.in-Some.ensures.sound in
    reads_same (λ m. described_at c.args.layout.now c.args.records.now m c.args.places.now c.args.root_places.now
    c.args.roots.now c.args.types)
    (λ m. listed_at c.args.layout.now (described_with c.args.places.now c.args.root_places.now c.args.types
    c.in-Some.awaits) m c.args.roots.now)
    (λ m. is_described c.args.layout.now c.args.records.now m c.args.places.now c.args.root_places.now
    c.args.roots.now c.args.types c.in-Some.awaits some)
    c.read_listed.ensures
