-- The parts of the line of each cause.
use Rattle.std.specs.Prelude.{ℕ, List, [], ◌∷◌, codes, decimal}
use Rattle.core_merge.specs.declared.error.CoreMergeError.{CoreMergeError}
use Rattle.core_merge.specs.declared.error.CoreMergeError.TheVariants as merging
use Rattle.object_reach.specs.declared.reached.ReachError.{ReachError}
use Rattle.object_reach.specs.declared.reached.ReachError.TheVariants as reach
use Rattle.fault_lines.specs.Lines.{core_parts, layout_parts}
use Rattle.program_run.specs.Ends.{CauseSays}
use Rattle.core_report.specs.declared.cause.Cause.{Cause}
use Rattle.core_report.specs.declared.cause.Cause.TheVariants.{Core, Layouts, Merge, MergeIndex, Reach, ReachIndex}
use Rattle.core_report.specs.declared.cause.Cause.TheVariants.{TooManyPieces, OutOfMemory}
use Rattle.core_report.specs.Outcome.{cause_status}

-- the words of an error of `reach`
abbrev pub reach_parts : ReachError → List (List ℕ)
reach_parts reach.ReachLimit = codes "more than 1048576 objects or 16777216 slots" ∷ []
reach_parts reach.OutOfMemory = codes "out of memory" ∷ []

-- one line for all causes why frames aren't merged
abbrev pub merge_parts : CoreMergeError → List (List ℕ)
merge_parts merging.OutOfMemory = codes "out of memory" ∷ []
merge_parts _ = codes "cannot merge" ∷ []

-- the words of a cause
abbrev pub cause_parts : Cause → List (List ℕ)
cause_parts (Core error) = core_parts error
cause_parts (Layouts error) = layout_parts error
cause_parts (Reach error) = reach_parts error
cause_parts (ReachIndex index) = codes "no such thread: " ∷ decimal index ∷ []
cause_parts (Merge error) = merge_parts error
cause_parts (MergeIndex index) = codes "cannot merge" ∷ []
cause_parts (TooManyPieces count) = codes "too many pieces: " ∷ decimal count ∷ []
cause_parts OutOfMemory = codes "out of memory" ∷ []

-- what is said of a cause
abbrev pub cause_says : Cause → CauseSays
cause_says cause = record { status = cause_status cause; parts = cause_parts cause }
