-- What streams out mean.
use Rattle.std.specs.Prelude.{◌≡◌, ℕ, ◌+◌, ◌-◌, ◌≤◌, ◌==◌, if◌then◌else◌, min, List, [], ◌++◌, length, take, Option}
use Rattle.std.specs.Prelude.{Some, None, unwrap_or, Result, Ok, Err}
use Rattle.std.specs.Map.{lookup}
use Rattle.std.specs.Io.KnownBytes.{Appends}
use Rattle.outside.specs.Counts.{last_count, count_after}

-- what a stream means: the bytes written so far, where they are told, and how many calls failed
pub record SinkSeen : Type 0 where
  pub written : Option (List ℕ)
  pub faults : ℕ

-- a stream of which no call failed yet
abbrev pub opened_stream : Option (List ℕ) → SinkSeen
opened_stream written = record { written = written; faults = 0 }

-- the known bytes grow by a front of these
abbrev pub AppendsFront : Option (List ℕ) → Option (List ℕ) → List ℕ → Type 0
AppendsFront old new bytes = (n : ℕ) × Appends old new (take n bytes)

-- a stream into memory: its bytes and for how many it has room, the numbers of the calls that are to fail,
-- each with the number of bytes after which it fails, how many calls there were, and how many failed
pub record HeldStream : Type 0 where
  pub bytes : List ℕ
  pub room : ℕ
  pub failing : List (ℕ × ℕ)
  pub calls : ℕ
  pub faults : ℕ

-- what it means
abbrev pub stream_seen : HeldStream → SinkSeen
stream_seen held = record { written = Some held.bytes; faults = held.faults }

-- a stream before the first call
abbrev pub empty_stream : ℕ → List (ℕ × ℕ) → HeldStream
empty_stream room failing = record { bytes = []; room = room; failing = failing; calls = 0; faults = 0 }

-- after how many bytes the call of this number is to fail
abbrev pub failing_at : List (ℕ × ℕ) → ℕ → Option ℕ
failing_at failing call = if call == last_count then None else lookup (λ listed. listed == call) failing

-- how many bytes of a piece are added, where there is room for so many
abbrev pub added_length : Option ℕ → ℕ → ℕ → ℕ
added_length listed size room = min (min size (unwrap_or listed size)) room

-- the faults of a stream after an answer
abbrev pub faults_after : {T E : Type 0} → ℕ → Result T E → ℕ
faults_after faults (Ok _) = faults
faults_after faults (Err _) = count_after faults 1

-- what a call with this piece and this answer leaves of a stream
pub record HasWritten {T E : Type 0} (old : HeldStream) (piece : List ℕ) (answer : Result T E)
    (new : HeldStream) : Type 0 where
  pub bytes : new.bytes ≡ old.bytes
      ++ take (added_length (failing_at old.failing old.calls) (length piece) (old.room - length old.bytes)) piece
  pub room : new.room ≡ old.room
  pub failing : new.failing ≡ old.failing
  pub calls : new.calls ≡ count_after old.calls 1
  pub faults : new.faults ≡ faults_after old.faults answer

-- the call isn't listed, and there is room for the piece
abbrev pub Fits : HeldStream → List ℕ → Type 0
Fits held piece = (failing_at held.failing held.calls ≡ None) × (length held.bytes + length piece ≤ held.room)
