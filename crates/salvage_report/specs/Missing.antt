-- Which reads were refused, where there is no text: an object of its own on the stream of the text, under status 1
-- where the words ask for it. That a fault of that write changes no status is this project's own rule.
use Rattle.std.specs.Prelude.{◌≡◌, ◌≢◌, ℕ, ◌⊎◌, true, List, Option, Some, Result, Ok, Err, Vec}
use Rattle.std.specs.Global.{Global}
use Rattle.outside.specs.Streams.{SinkSeen}
use Rattle.core_texts.specs.Says.{Says}
use Rattle.missed_reads.specs.Told.{RefusedTold}
use Rattle.program_run.specs.declared.trouble.Trouble.{Trouble}
use Rattle.program_run.specs.declared.trouble.Trouble.TheVariants.{Cause as Caused, Words, File}
use Rattle.core_words.specs.declared.args_error.ArgsError.{ArgsError}
use Rattle.salvage_words.specs.Salvage.{Salvage, Wanted}
use Rattle.salvage_words.specs.Salvage.Wanted.{salvage}
use Rattle.salvage_words.specs.declared.asked.Asked.{Asked}
use Rattle.salvage_words.specs.declared.asked.Asked.TheVariants as asked
use Rattle.salvage_report.specs.declared.cause.Cause.{Cause}
use Rattle.salvage_report.specs.declared.cause.Cause.TheVariants.{OutOfMemory}
use Rattle.salvage_report.specs.Outcome.{cause_status}
use Rattle.salvage_report.specs.Tree.{missing_json}

-- the stream gained an object that tells of refused reads, or a front of it and a fault; which reads these are is no
-- part of it: that each refusal is kept is a clause of each read (`Keeps` of missed_reads)
pub record TellsRefused (old new : SinkSeen) : Type 0 where
  pub refused : RefusedTold
  pub says : Says old new (missing_json refused)

-- the words ask for it
pub record AsksMissing (asks : Option Wanted) : Type 0 where
  pub words : Salvage
  pub is : asks ≡ Some (salvage words)
  pub missing : words.sections.missing ≡ true

-- what the stream gained before a run ends with this status: that exactly under status 1, where the words ask for it
abbrev pub MayTellRefused : Option Wanted → ℕ → SinkSeen → SinkSeen → Type 0
MayTellRefused asks status old new = ((new ≡ old) × (AsksMissing asks → status ≢ 1))
    ⊎ (AsksMissing asks × (status ≡ 1) × TellsRefused old new)

-- ---- as the code has it

-- the arguments ask for the refused reads
abbrev pub AsksFor : Result Asked ArgsError → Type 0
AsksFor (Ok (asked.Salvage words)) = words.sections.missing ≡ true
AsksFor _ = ⊥

-- the run was stopped by a cause of status 1
abbrev pub IsStoppedAtOne : Result (Vec ℕ Global) (Trouble Cause) → Type 0
IsStoppedAtOne (Err (Caused cause)) = cause_status cause ≡ 1
IsStoppedAtOne _ = ⊥

-- what came of a run, and what the stream gained: where the words don't ask for it, or the status isn't 1, nothing;
-- else an object that tells of refused reads, or memory ran out
pub data TellsAfter (asked : Result Asked ArgsError) (outcome result : Result (Vec ℕ Global) (Trouble Cause))
    (old new : SinkSeen) : Type 0 where
  untold : result ≡ outcome → new ≡ old → (AsksFor asked → IsStoppedAtOne outcome → ⊥)
      → TellsAfter asked outcome result old new
  told : result ≡ outcome → AsksFor asked → IsStoppedAtOne outcome → TellsRefused old new
      → TellsAfter asked outcome result old new
  ran_out : result ≡ Err (Caused OutOfMemory) → IsStoppedAtOne outcome → new ≡ old
      → TellsAfter asked outcome result old new
