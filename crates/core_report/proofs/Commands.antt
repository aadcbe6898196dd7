-- Two outcomes of a command over the same contents have one status, out of memory aside, but that a slim core and too
-- many pieces may both be right; and over contents with which nothing is wrong no outcome is a cause but a command's own.
use Rattle.std.proofs.Common.{ℕ, List, arith, inr}
use Rattle.core_words.specs.Words.{Command, dump, locate, merge, reach, seeded, slim, triage, walk}
use Rattle.core_merge.specs.declared.error.CoreMergeError.{CoreMergeError}
use Rattle.core_merge.specs.declared.error.CoreMergeError.TheVariants as merging
use Rattle.object_reach.specs.declared.reached.ReachError.{ReachError}
use Rattle.object_reach.specs.declared.reached.ReachError.TheVariants as reaching
use Rattle.core_report.specs.declared.cause.Cause.{Cause}
use Rattle.core_report.specs.declared.cause.Cause.TheVariants.{Core, Layouts, Merge, MergeIndex, Reach, ReachIndex}
use Rattle.core_report.specs.declared.cause.Cause.TheVariants.{TooManyPieces, OutOfMemory}
use Rattle.core_report.specs.Outcome.{IsFaultless, IsOutcome, cause_status, merge_status}
use Rattle.core_report.specs.Outcome.{reach_status}
use Rattle.program_run.specs.Ends.{IsOwn}
use Rattle.program_run.proofs.Statuses.{core_own, layouts_own, own}
use Rattle.core_report.proofs.Agreement.{Agree, NoCause, dump_agree, dump_sound, merge_agree}
use Rattle.core_report.proofs.Agreement.{merge_sound, reach_agree, reach_sound, triage_agree, triage_sound, walk_agree}
use Rattle.core_report.proofs.Agreement.{walk_sound}
use Rattle.core_report.proofs.Processes.{locate_agree, locate_sound, sample_agree, sample_sound, slim_agree, slim_sound}

pub outcomes_agree : (command : Command) (contents : List (List ℕ)) → Agree (IsOutcome command contents)
outcomes_agree (walk w) contents a b one other na nb = walk_agree w contents a b one other na nb
outcomes_agree (dump d) contents a b one other na nb = dump_agree d contents a b one other na nb
outcomes_agree (triage t) contents a b one other na nb = triage_agree t contents a b one other na nb
outcomes_agree (reach r) contents a b one other na nb = reach_agree r contents a b one other na nb
outcomes_agree (merge m) contents a b one other na nb = merge_agree m contents a b one other na nb
outcomes_agree (locate l) contents a b one other na nb = locate_agree l contents a b one other na nb
outcomes_agree (slim s) contents a b one other na nb = slim_agree s contents a b one other na nb
outcomes_agree (seeded s) contents a b one other na nb = sample_agree s contents a b one other na nb

pub no_cause : (command : Command) (contents : List (List ℕ)) → IsFaultless command contents → NoCause (IsOutcome command contents)
no_cause (walk w) contents good = walk_sound w contents good
no_cause (dump d) contents good = dump_sound d contents good
no_cause (triage t) contents good = triage_sound t contents good
no_cause (reach r) contents good = reach_sound r contents good
no_cause (merge m) contents good = merge_sound m contents good
no_cause (locate l) contents good = locate_sound l contents good
no_cause (slim s) contents good = slim_sound s contents good
no_cause (seeded s) contents good = sample_sound s contents

-- ---- a cause has none of the statuses of the other ends

reach_status_own : (e : ReachError) → IsOwn (reach_status e)
reach_status_own reaching.ReachLimit = own 9 (inr (omega arith))
reach_status_own reaching.OutOfMemory = own 5 (inr (omega arith))

merge_status_own : (e : CoreMergeError) → IsOwn (merge_status e)
merge_status_own merging.OutOfMemory = own 5 (inr (omega arith))
merge_status_own _ = own 7 (inr (omega arith))

pub cause_own : (cause : Cause) → IsOwn (cause_status cause)
cause_own (Core e) = core_own e
cause_own (Layouts e) = layouts_own e
cause_own (Reach e) = reach_status_own e
cause_own (ReachIndex index) = own 9 (inr (omega arith))
cause_own (Merge e) = merge_status_own e
cause_own (MergeIndex index) = own 7 (inr (omega arith))
cause_own (TooManyPieces count) = own 8 (inr (omega arith))
cause_own OutOfMemory = own 5 (inr (omega arith))
