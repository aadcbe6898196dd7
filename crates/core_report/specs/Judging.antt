-- What code keeps of cores that were judged.
use Rattle.std.specs.Borrow.{Bor}
use Rattle.std.specs.Prelude.{◌≡◌, ℕ, List, map}
use Rattle.py_process.specs.declared.core_error.CoreError.{CoreError}
use Rattle.core_triage.specs.Keys.{compared_in}
use Rattle.core_report.specs.declared.judged.JudgedCores.{JudgedCores}
use Rattle.core_report.specs.Grouped.{Judged, names_in, refusals_in, stacks_in}

-- the names of the cores that were judged
abbrev pub kept_names : JudgedCores → List (List ℕ)
kept_names kept = map (λ name. name.now) kept.names.items

-- a refused core's name and its refusal
abbrev pub refusal_seen : Bor (List ℕ) × CoreError → List ℕ × CoreError
refusal_seen r = (r.0.now, r.1)

-- the refused cores among those that were judged
abbrev pub kept_refusals : JudgedCores → List (List ℕ × CoreError)
kept_refusals kept = map refusal_seen kept.refusals.items

-- the names and the keys of those that have a report, and the causes of the others
pub record Keeps (cores : List Judged) (kept : JudgedCores) : Type 0 where
  pub names : kept_names kept ≡ names_in cores
  pub stacks : map compared_in kept.keys.items ≡ stacks_in cores
  pub refusals : kept_refusals kept ≡ refusals_in cores
