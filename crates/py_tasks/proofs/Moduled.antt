-- An interpreter that has modules, or none.
use Rattle.std.proofs.Common.{◌≡◌, ◌≢◌, ℕ, nat_eq, true, false, refl, arith}
use Rattle.std.specs.Prelude.{Ok}
use Rattle.std.proofs.lemmas.Bool.Decides.{nat_tests}
use Rattle.process_memory.specs.Memory.{Memory}
use Rattle.py_fields.specs.declared.layout.Layout.{Layout}
use Rattle.py_records.specs.declared.records.Records.{Records}
use Rattle.py_tasks.specs.Shown.{TasksShown}
use Rattle.py_tasks.specs.Tasks.{by_modules_at, with_modules}

module _ (l : Layout) (records : Records) (m : Memory) (slots modules : ℕ) where
  pub without_modules : modules ≡ 0 → by_modules_at l records m slots modules ≡ Ok TasksShown.WithoutTasks
  unfolding by_modules_at
  without_modules e = let same : nat_eq modules 0 ≡ true = grind (arith, nat_tests) in rw same refl

  pub has_modules : modules ≢ 0 → by_modules_at l records m slots modules ≡ with_modules l records m slots modules
  unfolding by_modules_at
  has_modules e = let other : nat_eq modules 0 ≡ false = grind (arith, nat_tests) in rw other refl
