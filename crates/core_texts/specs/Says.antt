-- What a stream gains by a text of several pieces.
use Rattle.std.specs.Prelude.{ℕ, ◌≤◌, ◌⊎◌, List, Result, Ok, Err}
use Rattle.std.specs.Io.KnownBytes.{Appends}
use Rattle.outside.specs.Counts.{Rose}
use Rattle.outside.specs.Streams.{AppendsFront, SinkSeen}

-- the stream gains the text
pub record IsAdded (old new : SinkSeen) (text : List ℕ) : Type 0 where
  pub later : old.faults ≤ new.faults
  pub added : Appends old.written new.written text

-- a fault was counted, and the stream gains a front of the text
pub record IsCutOff (old new : SinkSeen) (text : List ℕ) : Type 0 where
  pub rose : Rose old.faults new.faults
  pub later : old.faults ≤ new.faults
  pub front : AppendsFront old.written new.written text

-- what a stream gains where a text is written with this answer
abbrev pub IsWritten : {T E : Type 0} → SinkSeen → SinkSeen → List ℕ → Result T E → Type 0
IsWritten old new text (Ok _) = IsAdded old new text
IsWritten old new text (Err _) = IsCutOff old new text

-- the stream gains the text, or a fault was counted and it gains a front of it
abbrev pub Says : SinkSeen → SinkSeen → List ℕ → Type 0
Says old new text = IsAdded old new text ⊎ IsCutOff old new text
