-- The printed text of the stacks of a core.
use Rattle.std.specs.Prelude.{◌≡◌, ℕ, ℤ, Bool, true, false, List, Option, Result, Ok, Err}
use Rattle.outside.specs.Streams.{SinkSeen}
use Rattle.py_fields.specs.declared.version.Version.{Version}
use Rattle.py_stacks.specs.declared.trace.StackTrace.{StackTrace}
use Rattle.py_process.specs.Reports.{NotesTell}
use Rattle.core_texts.specs.Says.{IsAdded, IsCutOff}
use Rattle.core_texts.specs.Text.{report_text}
use Rattle.core_texts.specs.Tree.{report_json}
use Rattle.core_texts.specs.declared.print_error.PrintError.{PrintError}
use Rattle.core_texts.specs.declared.print_error.PrintError.TheVariants.{Sink, OutOfMemory}

-- the text of traces of a core, under the name of its file: as JSON, or behind what the core's notes tell and the
-- version
abbrev pub IsTextOf : (json : Bool) → List ℕ → Version → List ℕ → List StackTrace → List ℕ → Type 0
IsTextOf true core version name traces text = text ≡ report_json traces
IsTextOf false core version name traces text = (signal : Option ℤ) × (process : Option (ℤ × List ℕ))
    × NotesTell core signal process × (text ≡ report_text name signal process version traces)

-- the stream gains that text; or it failed, and gains a front of it; or memory ran out, and it is as before
abbrev pub IsPrintedBy : (List ℕ → Type 0) → SinkSeen → SinkSeen → Result (Unit {0}) PrintError → Type 0
IsPrintedBy IsText old new (Ok _) = (text : List ℕ) × IsText text × IsAdded old new text
IsPrintedBy IsText old new (Err (Sink _)) = (text : List ℕ) × IsText text × IsCutOff old new text
IsPrintedBy IsText old new (Err OutOfMemory) = new ≡ old
