-- How a run of a program ends: by the whole text that its words ask for, or by one line and a status of its own.
use Rattle.std.specs.Prelude.{◌≡◌, ◌≢◌, ℕ, List, [], ◌∷◌, Option, Some, None, Result, Ok, Err, Vec, codes}
use Rattle.std.specs.Global.{Global}
use Rattle.std.specs.List.{concat}
use Rattle.outside.specs.Files.{FilesSeen, Told}
use Rattle.outside.specs.Streams.{SinkSeen}
use Rattle.outside.specs.declared.faults.FileFault.{FileFault}
use Rattle.core_texts.specs.Says.{IsAdded, IsCutOff, Says}
use Rattle.fault_lines.specs.Lines.{file_parts, line_of}
use Rattle.program_run.specs.Reading.{IsUnread}
use Rattle.program_run.specs.declared.trouble.Trouble.{Trouble}
use Rattle.program_run.specs.declared.trouble.Trouble.TheVariants.{Cause as Caused, Words, File}

-- what is said of a cause why there is no text: the status with which a run ends by it, and the parts of its line
pub record CauseSays : Type 0 where
  pub status : ℕ
  pub parts : List (List ℕ)

-- What a program is to a run: what its lines begin with, what it says of each cause, what a command comes to by what
-- files tell, and that a command asks for a file, after those before it that are read as they are told.
pub record Program (Command Cause : Type 0) : Type 1 where
  pub start : List ℕ
  pub says : Cause → CauseSays
  pub Comes : Told → Command → Result (List ℕ) Cause → Type 0
  pub Asks : Told → Command → List ℕ → Type 0

-- the words ask for a command that comes to this outcome
pub record Reaches {Command Cause : Type 0} (p : Program Command Cause) (asked : Option Command) (told : Told)
    (outcome : Result (List ℕ) Cause) : Type 0 where
  pub command : Command
  pub is_asked : asked ≡ Some command
  pub comes : p.Comes told command outcome

-- ---- how a run ends

-- how a run ends: printed, stopped by a cause, arguments refused, a file unread, or the output cut
pub data End (Cause : Type 0) : Type 0 where
  printed : End Cause
  stopped : Cause → End Cause
  refused : End Cause
  unread : List ℕ → FileFault → End Cause
  cut : End Cause

-- the status of an end
abbrev pub end_status : {Cause : Type 0} → (Cause → CauseSays) → End Cause → ℕ
end_status says printed = 0
end_status says (stopped cause) = (says cause).status
end_status says refused = 2
end_status says (unread name why) = 3
end_status says cut = 4

-- the parts of its line; of a text that was printed there is none
abbrev pub end_parts : {Cause : Type 0} → (Cause → CauseSays) → End Cause → List (List ℕ)
end_parts says printed = []
end_parts says (stopped cause) = (says cause).parts
end_parts says refused = codes "bad words" ∷ []
end_parts says (unread name why) = file_parts name why
end_parts says cut = codes "cannot write" ∷ []

-- nothing is said of a text that was printed, and else one line, which begins so
abbrev pub SaysEnd : {Cause : Type 0} → List ℕ → (Cause → CauseSays) → End Cause → SinkSeen → SinkSeen → Type 0
SaysEnd start says printed old new = new ≡ old
SaysEnd start says end old new = Says old new (line_of start (concat (end_parts says end)))

-- the files and the stream of the text, before and after
pub record Ran : Type 0 where
  pub files : FilesSeen
  pub files_after : FilesSeen
  pub out : SinkSeen
  pub out_after : SinkSeen

-- the files and the output before and after a run
abbrev pub ran : FilesSeen → FilesSeen → SinkSeen → SinkSeen → Ran
ran files files_after out out_after =
    record { files = files; files_after = files_after; out = out; out_after = out_after }

-- no file failed, and nothing was written
pub record IsQuiet (r : Ran) : Type 0 where
  pub failed : r.files_after.failed ≡ r.files.failed
  pub written : r.out_after ≡ r.out

-- the whole text was written
pub record HasPrinted {Command Cause : Type 0} (p : Program Command Cause) (asked : Option Command)
    (r : Ran) : Type 0 where
  pub text : List ℕ
  pub reached : Reaches p asked r.files.told (Ok text)
  pub added : IsAdded r.out r.out_after text
  pub failed : r.files_after.failed ≡ r.files.failed

-- a write failed after a front of the text
pub record IsCut {Command Cause : Type 0} (p : Program Command Cause) (asked : Option Command) (r : Ran) : Type 0 where
  pub text : List ℕ
  pub reached : Reaches p asked r.files.told (Ok text)
  pub cut : IsCutOff r.out r.out_after text
  pub failed : r.files_after.failed ≡ r.files.failed

-- a file that the words name could not be read, and nothing was written
pub record IsStuck {Command Cause : Type 0} (p : Program Command Cause) (asked : Option Command) (r : Ran)
    (name : List ℕ) (why : FileFault) : Type 0 where
  pub command : Command
  pub is_asked : asked ≡ Some command
  pub unread : IsUnread (p.Asks r.files.told command) r.files r.files_after name why
  pub written : r.out_after ≡ r.out

-- what the words ask for comes to this cause, unless memory ran out, and nothing was written
pub record IsStopped {Command Cause : Type 0} (p : Program Command Cause) (asked : Option Command) (r : Ran)
    (cause : Cause) : Type 0 where
  pub reached : (p.says cause).status ≢ 5 → Reaches p asked r.files.told (Err cause)
  pub quiet : IsQuiet r

-- what is so where a run ends so
abbrev pub HasEnded : {Command Cause : Type 0} → Program Command Cause → Option Command → Ran → End Cause → Type 0
HasEnded p asked r printed = HasPrinted p asked r
HasEnded p asked r (stopped cause) = IsStopped p asked r cause
HasEnded p asked r refused = (asked ≡ None) × IsQuiet r
HasEnded p asked r (unread name why) = IsStuck p asked r name why
HasEnded p asked r cut = IsCut p asked r

-- a run with this status: how it ended, and what it said
pub record HasRun {Command Cause : Type 0} (p : Program Command Cause) (asked : Option Command) (r : Ran)
    (err err_after : SinkSeen) (status : ℕ) : Type 0 where
  pub end : End Cause
  pub is : status ≡ end_status p.says end
  pub ended : HasEnded p asked r end
  pub said : SaysEnd p.start p.says end err err_after

-- ---- the steps of a run

-- what was wrong with a command's work: a cause that it comes to, unless memory ran out, or a file
abbrev pub IsTroubled : {Command Cause : Type 0} → Program Command Cause → FilesSeen → FilesSeen → Command
    → Trouble Cause → Type 0
IsTroubled p old new command (Caused cause) =
    ((p.says cause).status ≢ 5 → p.Comes old.told command (Err cause)) × (new.failed ≡ old.failed)
IsTroubled p old new command (File name why) = IsUnread (p.Asks old.told command) old new name.now why
IsTroubled p old new command _ = ⊥

-- what a command's own code answers: its text, or what was wrong
abbrev pub IsAnswered : {Command Cause : Type 0} → Program Command Cause → FilesSeen → FilesSeen → Command
    → Result (Vec ℕ Global) (Trouble Cause) → Type 0
IsAnswered p old new command (Ok text) = p.Comes old.told command (Ok text.items) × (new.failed ≡ old.failed)
IsAnswered p old new command (Err trouble) = IsTroubled p old new command trouble

-- what the words ask for comes to, before anything is written: a text or a cause, unless memory ran out, or a file that
-- could not be read; or they ask for nothing
abbrev pub HasOutcome : {Command Cause : Type 0} → Program Command Cause → Option Command → FilesSeen → FilesSeen
    → Result (Vec ℕ Global) (Trouble Cause) → Type 0
HasOutcome p asked old new (Ok text) = Reaches p asked old.told (Ok text.items) × (new.failed ≡ old.failed)
HasOutcome p asked old new (Err (Caused cause)) =
    ((p.says cause).status ≢ 5 → Reaches p asked old.told (Err cause)) × (new.failed ≡ old.failed)
HasOutcome {Command} p asked old new (Err (File name why)) =
    (command : Command) × (asked ≡ Some command) × IsUnread (p.Asks old.told command) old new name.now why
HasOutcome p asked old new (Err Words) = (asked ≡ None) × (new.failed ≡ old.failed)

-- the end that something wrong leads to
abbrev pub end_at : {Cause : Type 0} → Trouble Cause → End Cause
end_at (Caused cause) = stopped cause
end_at Words = refused
end_at (File name why) = unread name.now why

-- what the stream of the text gains where an outcome is brought to an end: the whole text, or a front of it, or nothing
abbrev pub BringsTo : {Cause : Type 0} → Result (Vec ℕ Global) (Trouble Cause) → End Cause → SinkSeen → SinkSeen
    → Type 0
BringsTo (Ok text) printed old new = IsAdded old new text.items
BringsTo (Ok text) cut old new = IsCutOff old new text.items
BringsTo (Ok text) _ old new = ⊥
BringsTo (Err trouble) end old new = (end ≡ end_at trouble) × (new ≡ old)

-- an outcome was brought to an end with this status, and its line was said
pub record HasFinished {Cause : Type 0} (start : List ℕ) (says : Cause → CauseSays)
    (outcome : Result (Vec ℕ Global) (Trouble Cause)) (out out_after err err_after : SinkSeen)
    (status : ℕ) : Type 0 where
  pub end : End Cause
  pub is : status ≡ end_status says end
  pub brought : BringsTo outcome end out out_after
  pub said : SaysEnd start says end err err_after

-- ---- what follows of a status

-- a cause's status is no other end's
pub record IsOwn (status : ℕ) : Type 0 where
  pub not_0 : status ≢ 0
  pub not_2 : status ≢ 2
  pub not_3 : status ≢ 3
  pub not_4 : status ≢ 4
