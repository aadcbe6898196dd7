-- What a run of the top call means.
use Rattle.std.specs.Prelude.{◌≡◌, ◌≤◌, ⊤, ℕ, List, Option, Some, IsSome, Ok, codes}
use Rattle.outside.specs.Files.{Told}
use Rattle.outside.specs.Files.{FilesSeen}
use Rattle.outside.specs.Streams.{SinkSeen}
use Rattle.program_run.specs.Ends.{Program, ran}
use Rattle.program_run.specs.Runs.{IsRun}
use Rattle.program_run.specs.Reading.{AreRead, AsksAmong}
use Rattle.salvage_words.specs.Salvage.{Salvage, Wanted}
use Rattle.salvage_words.specs.Salvage.Wanted.{help, version, salvage}
use Rattle.salvage_report.specs.declared.cause.Cause.{Cause}
use Rattle.salvage_report.specs.Lines.{cause_says}
use Rattle.salvage_report.specs.Missing.{MayTellRefused}
use Rattle.salvage_report.specs.Outcome.{IsOutcome, Outcome}
use Rattle.salvage_report.specs.Reading.{files_of}
use Rattle.salvage_report.specs.Texts.{help_text, program_version}

-- over the contents of all files that are named, this outcome is come to
pub record SalvageComesTo (told : Told) (s : Salvage) (outcome : Outcome) : Type 0 where
  pub contents : List (List ℕ)
  pub read : AreRead told (files_of s) contents
  pub is : IsOutcome s contents outcome

-- what is asked for comes to this outcome: the help and the version ask for no file
abbrev pub ComesTo : Told → Wanted → Outcome → Type 0
ComesTo told help outcome = outcome ≡ Ok help_text
ComesTo told version outcome = outcome ≡ Ok program_version
ComesTo told (salvage s) outcome = SalvageComesTo told s outcome

-- of the files that are named this one is asked for, and those before it are read as they are told
abbrev pub AsksFile : Told → Wanted → List ℕ → Type 0
AsksFile told help name = ⊥
AsksFile told version name = ⊥
AsksFile told (salvage s) name = AsksAmong told (files_of s) name

-- this program: what its lines begin with, what it says of causes, and what its words come to
abbrev pub pysalvage : Program Wanted Cause
pysalvage = record { start = codes "pysalvage: "; says = cause_says; Comes = ComesTo; Asks = AsksFile }

-- a run of it, before which the stream of the text may have gained an object of refused reads
pub record HasRunAfter (asks : Option Wanted) (files files_after : FilesSeen) (out out_after err err_after : SinkSeen)
    (status : ℕ) : Type 0 where
  pub told : SinkSeen
  pub may : MayTellRefused asks status out told
  pub run : IsRun pysalvage asks (ran files files_after told out_after) err err_after status

-- the words ask for this, and the files tell these contents of all that are named
pub record TellsContents (asked : Option Wanted) (told : Told) (s : Salvage) (contents : List (List ℕ)) : Type 0 where
  pub is_asked : asked ≡ Some (salvage s)
  pub tells : IsSome told
  pub read : AreRead told (files_of s) contents

-- no more than 4096 frames are asked for
abbrev pub IsFew : Wanted → Type 0
IsFew help = ⊤
IsFew version = ⊤
IsFew (salvage s) = s.limit ≤ 4096
