-- What is told of the tasks, by what is described and by the sizes that were found.
use Rattle.std.proofs.Common.{◌≡◌, ◌≢◌, ℕ, true, false, nat_eq, refl, ap, arith}
use Rattle.std.specs.Prelude.{Option, Some, None, Ok}
use Rattle.std.proofs.lemmas.Bool.Decides.{nat_tests}
use Rattle.process_memory.specs.Memory.{Memory}
use Rattle.py_fields.specs.declared.layout.Layout.{Layout}
use Rattle.py_coroutines.specs.declared.places.AwaitTypes.{AwaitTypes}
use Rattle.py_coroutines.specs.declared.places.Places.{Places}
use Rattle.py_records.specs.declared.records.Records.{Records}
use Rattle.task_sets.specs.declared.places.RootPlaces.{RootPlaces}
use Rattle.task_sets.specs.declared.roots.Roots.{Roots}
use Rattle.py_tasks.specs.declared.described.TaskPlaces.{TaskPlaces}
use Rattle.py_tasks.specs.Shown.{TasksShown}
use Rattle.py_tasks.specs.Tasks.{by_described, by_places, by_size, by_task, checked_at, described_at, described_with}
use Rattle.py_tasks.specs.Tasks.{listed_at, sized_at, sound_places, typed_at}

module _ (l : Layout) (records : Records) (m : Memory) (p : TaskPlaces) (r : RootPlaces) (roots : Roots) where
  pub not_described : (types : AwaitTypes) → sound_places l records types ≡ None
      → described_at l records m p r roots types ≡ Ok TasksShown.TasksUnknown
  unfolding described_at
  not_described types e = ap (by_places l m p r roots types) e

  pub is_described : (types : AwaitTypes) (awaits : Places) → sound_places l records types ≡ Some awaits
      → described_at l records m p r roots types ≡ listed_at l (described_with p r types awaits) m roots
  unfolding described_at
  is_described types awaits e = ap (by_places l m p r roots types) e

  pub same_size : (modules task size : ℕ) → size ≡ p.size
      → by_size l records m p r modules roots task size ≡ typed_at l records m p r modules roots task
  same_size modules task size e = let same : nat_eq size p.size ≡ true = grind (arith, nat_tests) in rw same refl

  pub other_size : (modules task size : ℕ) → size ≢ p.size
      → by_size l records m p r modules roots task size ≡ Ok (TasksShown.TasksResized size)
  other_size modules task size e = let other : nat_eq size p.size ≡ false = grind (arith, nat_tests) in rw other refl

  pub without_type : (modules : ℕ) → roots.task ≡ None
      → sized_at l records m p r modules roots ≡ typed_at l records m p r modules roots 0
  unfolding sized_at
  without_type modules e = ap (by_task l records m p r modules roots) e

  pub with_type : (modules task : ℕ) → roots.task ≡ Some task
      → sized_at l records m p r modules roots ≡ checked_at l records m p r modules roots task
  unfolding sized_at
  with_type modules task e = ap (by_task l records m p r modules roots) e

module _ (l : Layout) (records : Records) (m : Memory) (modules : ℕ) (roots : Roots) where
  pub without_places : (o : Option TaskPlaces) (q : Option RootPlaces) → o ≡ None
      → by_described l records m modules roots o q ≡ Ok TasksShown.TasksUnknown
  without_places o q e = rw e refl

  pub without_roots : (o : Option TaskPlaces) (q : Option RootPlaces) → q ≡ None
      → by_described l records m modules roots o q ≡ Ok TasksShown.TasksUnknown
  without_roots None q e = refl
  without_roots (Some p) q e = rw e refl

  pub with_places : (o : Option TaskPlaces) (q : Option RootPlaces) (p : TaskPlaces) (r : RootPlaces) → o ≡ Some p
      → q ≡ Some r → by_described l records m modules roots o q ≡ sized_at l records m p r modules roots
  with_places o q p r e f = rw (e, f) refl
