use Rattle.std.proofs.Common.{◌∙◌, refl, sym}
use Rattle.std.specs.Prelude.{Ok}
use Rattle.process_memory.proofs.Reading.{reads_end, reads_same}
use Rattle.task_sets.specs.Places.{places_of}
use Rattle.py_tasks.specs.Described.{task_places_of}
use Rattle.py_tasks.specs.Shown.{TasksShown}
use Rattle.py_tasks.specs.Tasks.{by_described, sized_at}
use Rattle.py_tasks.proofs.Listing.{with_places, without_places, without_roots}
use Rattle.py_tasks.proofs.tasks.read_by_places.Goals as goal

pub returns-in_default : goal.returns-in_default
returns-in_default g c =
    let places = task_places_of c.args.records.now in
    let roots = places_of c.args.layout.now c.args.records.now c.args.slots in
    reads_same (λ m. by_described c.args.layout.now c.args.records.now m c.args.modules c.args.roots.now places roots)
    (λ m. Ok TasksShown.TasksUnknown)
    (λ m. without_places c.args.layout.now c.args.records.now m c.args.modules c.args.roots.now places roots
    (sym c.task_places_of.ensures ∙ c.in_default.is))
    (reads_end 1107984452 refl)

pub returns-in_default-places_of : goal.returns-in_default-places_of
returns-in_default-places_of g c =
    let places = task_places_of c.args.records.now in
    let roots = places_of c.args.layout.now c.args.records.now c.args.slots in
    reads_same (λ m. by_described c.args.layout.now c.args.records.now m c.args.modules c.args.roots.now places roots)
    (λ m. Ok TasksShown.TasksUnknown)
    (λ m. without_roots c.args.layout.now c.args.records.now m c.args.modules c.args.roots.now places roots
    (sym c.places_of.ensures ∙ c.in_default-places_of.is))
    (reads_end 1107984452 refl)

pub returns : goal.returns
returns g c =
    let places = task_places_of c.args.records.now in
    let roots = places_of c.args.layout.now c.args.records.now c.args.slots in
    reads_same (λ m. by_described c.args.layout.now c.args.records.now m c.args.modules c.args.roots.now places roots)
    (λ m. sized_at c.args.layout.now c.args.records.now m c.in-Some.places c.in-Some-places_of.root_places
    c.args.modules c.args.roots.now)
    (λ m. with_places c.args.layout.now c.args.records.now m c.args.modules c.args.roots.now places roots
    c.in-Some.places c.in-Some-places_of.root_places (sym c.task_places_of.ensures ∙ c.in-Some.is)
    (sym c.places_of.ensures ∙ c.in-Some-places_of.is))
    c.read_sized.ensures
