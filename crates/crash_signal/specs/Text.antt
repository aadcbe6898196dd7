-- The line that says how a signal came about.
use Rattle.std.specs.Prelude.{ℕ, ℤ, ◌++◌, false, List, Option, Some, None, Result, Ok, Err, codes, decimal}
use Rattle.std.specs.Fmt.{digits, signed_decimal}
use Rattle.crash_signal.specs.declared.told.Cause.{Cause}
use Rattle.crash_signal.specs.declared.told.Cause.TheVariants.{Itself, Process, Fault, NoAddress, System, Call, Code}
use Rattle.crash_signal.specs.declared.told.CrashSignal.{CrashSignal}
use Rattle.crash_signal.specs.declared.told.Untold.{Untold}
use Rattle.crash_signal.specs.declared.told.Untold.TheVariants.{NoSignal, NoNote, Short, Other}
use Rattle.crash_signal.specs.Tables.{meaning_of, name_of}

-- an address, as in 0x1f
abbrev pub address_text : ℕ → List ℕ
address_text n = codes "0x" ++ digits 16 false n

-- a word of a table, or else the number
abbrev pub word_or : List ℕ → ℤ → Option (List ℕ) → List ℕ
word_or kind number (Some word) = word
word_or kind number None = kind ++ signed_decimal number

-- the name of a signal, as `SIGSEGV`; its number where it has none
abbrev pub name_text : ℤ → List ℕ
name_text signal = word_or (codes "signal ") signal (name_of signal)

-- what a code says of its signal; its number where it says nothing
abbrev pub meaning_text : (signal code : ℤ) → List ℕ
meaning_text signal code = word_or (codes "code ") code (meaning_of signal code)

-- what is said behind the signal's name
abbrev pub cause_text : (signal code : ℤ) → Cause → List ℕ
cause_text signal code (Itself pid uid) = codes " by itself"
cause_text signal code (Process pid uid) =
    codes " by process " ++ (signed_decimal pid ++ (codes ", user " ++ decimal uid))
cause_text signal code (Fault address) =
    codes " at " ++ (address_text address ++ (codes ": " ++ meaning_text signal code))
cause_text signal code NoAddress = codes ", no address: an address that can't be one, or a protection fault"
cause_text signal code System = codes " by the system"
cause_text signal code (Call address number) =
    codes " at " ++ (address_text address ++ (codes ": a filter refused call " ++ signed_decimal number))
cause_text signal code Code = codes " with code " ++ signed_decimal code

-- the line of a note that is of another signal
abbrev pub other_text : ℤ → List ℕ
other_text signal = codes "The note is of " ++ (name_text signal ++ codes ", another signal\n")

-- the line that says why nothing is told of the signal
abbrev pub untold_text : Untold → List ℕ
untold_text NoSignal = codes "No signal is told by the first thread's record\n"
untold_text NoNote = codes "No note tells how the signal came about\n"
untold_text Short = codes "The note of the signal is too short\n"
untold_text (Other signal) = other_text signal

-- the line of a signal and how it came about, or why that isn't told
abbrev pub signal_text : Result CrashSignal Untold → List ℕ
signal_text (Ok s) = name_text s.signal ++ (cause_text s.signal s.code s.cause ++ codes "\n")
signal_text (Err why) = untold_text why
