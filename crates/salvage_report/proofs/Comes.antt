-- What is asked for comes to its outcome.
use Rattle.std.proofs.Common.{◌≡◌, ◌≢◌, ℕ, List, Ok, Err, inr, refl, subst}
use Rattle.std.specs.Prelude.{Result, Vec}
use Rattle.std.specs.Global.{Global}
use Rattle.outside.specs.Files.{FilesSeen}
use Rattle.program_run.specs.Ends.{IsAnswered, IsTroubled}
use Rattle.program_run.specs.Outcomes.{OutcomeThen}
use Rattle.program_run.specs.Reading.{AreRead, AsksAmong, HasAll, IsUnreadTrouble, trouble_of}
use Rattle.program_run.proofs.Ends.{unread_files}
use Rattle.program_run.specs.declared.trouble.FileTrouble.{FileTrouble}
use Rattle.program_run.specs.declared.trouble.Trouble.TheVariants.{Cause as Caused}
use Rattle.salvage_words.specs.Salvage.{Salvage}
use Rattle.salvage_words.specs.Salvage.Wanted.{salvage}
use Rattle.salvage_report.specs.declared.cause.Cause.{Cause}
use Rattle.salvage_report.specs.declared.cause.Cause.TheVariants.{OutOfMemory}
use Rattle.salvage_report.specs.Outcome.{IsAnswer, IsOutcome, Outcome, cause_status}
use Rattle.salvage_report.specs.Reading.{files_of}
use Rattle.salvage_report.specs.Run.{pysalvage}

module _ (old new : FilesSeen) (s : Salvage) where
  -- a file that could not be read, of names that are those of the words
  pub troubled : (names : List (List ℕ)) (t : FileTrouble) → names ≡ files_of s
      → IsUnreadTrouble (AsksAmong old.told names) old new t
      → IsTroubled pysalvage old new (salvage s) (trouble_of OutOfMemory t)
  troubled names t are h = unread_files pysalvage (AsksAmong old.told names) old old new (salvage s) OutOfMemory t refl
      (λ name among. subst (λ l. AsksAmong old.told l name) are among) refl h

  module _ (contents names : List (List ℕ)) (are : names ≡ files_of s) (has : HasAll old new names contents) where
    read : AreRead old.told (files_of s) contents
    read = subst (λ l. AreRead old.told l contents) are has.read

    pub comes : (text : Vec ℕ Global) → IsOutcome s contents (Ok text.items)
        → IsAnswered pysalvage old new (salvage s) (Ok text)
    comes text is = (record { contents = contents; read = read; is = is }, has.failed)

    pub caused : (cause : Cause) → (cause_status cause ≢ 5 → IsOutcome s contents (Err cause))
        → IsTroubled pysalvage old new (salvage s) (Caused cause)
    caused cause is = (λ ne. record { contents = contents; read = read; is = is ne }, has.failed)

-- an answer after another step is one of both
pub after : {T E : Type 0} (as_cause : E → Cause) (First : Result T E → Type 0) (Rest : T → Outcome → Type 0) (x : T)
    (r : Result (Vec ℕ Global) Cause) → First (Ok x) → IsAnswer (Rest x) r
    → IsAnswer (OutcomeThen as_cause First Rest) r
after as_cause First Rest x (Ok text) first h = inr (x, first, h)
after as_cause First Rest x (Err cause) first h = λ ne. inr (x, first, h ne)
