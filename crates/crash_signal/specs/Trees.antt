-- The JSON of how a signal came about: an object whose kind says which way, with its values. The keys stand in the
-- order of their bytes.
use Rattle.std.specs.Prelude.{ℕ, ℤ, List, Option, Some, None, Result, Ok, Err, codes}
use Rattle.serde_json.specs.Data.{Data, member, no_members, null, number, object, string, unsigned}
use Rattle.serde_json.specs.Find.{of_integer}
use Rattle.crash_signal.specs.declared.told.Cause.{Cause}
use Rattle.crash_signal.specs.declared.told.Cause.TheVariants.{Itself, Process, Fault, NoAddress, System, Call, Code}
use Rattle.crash_signal.specs.declared.told.CrashSignal.{CrashSignal}
use Rattle.crash_signal.specs.declared.told.Untold.{Untold}
use Rattle.crash_signal.specs.declared.told.Untold.TheVariants.{NoSignal, NoNote, Short, Other}
use Rattle.crash_signal.specs.Tables.{meaning_of, name_of}
use Rattle.crash_signal.specs.Text.{address_text}

-- a word of a table, or null
abbrev pub word_tree : Option (List ℕ) → Data
word_tree (Some word) = string word
word_tree None = null

-- a kind that has nothing beside the signal
abbrev pub plain_tree : List ℕ → (signal code : ℤ) → Data
plain_tree kind signal code = object (
    member (codes "code") (number (of_integer code)) (
    member (codes "kind") (string kind) (
    member (codes "name") (word_tree (name_of signal)) (
    member (codes "signal") (number (of_integer signal)) no_members))))

-- JSON of a signal that a process sent
abbrev pub sender_tree : List ℕ → (signal code pid : ℤ) → ℕ → Data
sender_tree kind signal code pid uid = object (
    member (codes "code") (number (of_integer code)) (
    member (codes "kind") (string kind) (
    member (codes "name") (word_tree (name_of signal)) (
    member (codes "pid") (number (of_integer pid)) (
    member (codes "signal") (number (of_integer signal)) (
    member (codes "uid") (number (unsigned uid)) no_members))))))

-- JSON of a signal that an access to an address raised
abbrev pub fault_tree : (signal code : ℤ) → ℕ → Data
fault_tree signal code address = object (
    member (codes "address") (string (address_text address)) (
    member (codes "code") (number (of_integer code)) (
    member (codes "kind") (string (codes "fault")) (
    member (codes "meaning") (word_tree (meaning_of signal code)) (
    member (codes "name") (word_tree (name_of signal)) (
    member (codes "signal") (number (of_integer signal)) no_members))))))

-- JSON of a signal that a forbidden system call raised
abbrev pub call_tree : (signal code : ℤ) → ℕ → ℤ → Data
call_tree signal code address call = object (
    member (codes "call") (number (of_integer call)) (
    member (codes "call_address") (string (address_text address)) (
    member (codes "code") (number (of_integer code)) (
    member (codes "kind") (string (codes "call")) (
    member (codes "name") (word_tree (name_of signal)) (
    member (codes "signal") (number (of_integer signal)) no_members))))))

-- JSON of a signal, by how it came about
abbrev pub cause_tree : (signal code : ℤ) → Cause → Data
cause_tree signal code (Itself pid uid) = sender_tree (codes "itself") signal code pid uid
cause_tree signal code (Process pid uid) = sender_tree (codes "process") signal code pid uid
cause_tree signal code (Fault address) = fault_tree signal code address
cause_tree signal code NoAddress = plain_tree (codes "no address") signal code
cause_tree signal code System = plain_tree (codes "system") signal code
cause_tree signal code (Call address call) = call_tree signal code address call
cause_tree signal code Code = plain_tree (codes "code") signal code

-- JSON of a kind alone
abbrev pub kind_tree : List ℕ → Data
kind_tree kind = object (member (codes "kind") (string kind) no_members)

-- JSON of why nothing is told of the signal
abbrev pub untold_tree : Untold → Data
untold_tree NoSignal = kind_tree (codes "no signal")
untold_tree NoNote = kind_tree (codes "no note")
untold_tree Short = kind_tree (codes "short note")
untold_tree (Other signal) = object (
    member (codes "kind") (string (codes "another signal")) (
    member (codes "signal") (number (of_integer signal)) no_members))

-- JSON of a signal and how it came about, or of why that isn't told
abbrev pub signal_tree : Result CrashSignal Untold → Data
signal_tree (Ok s) = cause_tree s.signal s.code s.cause
signal_tree (Err why) = untold_tree why
