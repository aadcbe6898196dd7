-- What a stream holds after a text was printed, or was not.
use Rattle.std.specs.Prelude.{◌≡◌, ℕ, List, Result, Ok, Err}
use Rattle.outside.specs.Streams.{SinkSeen}
use Rattle.core_texts.specs.Says.{IsAdded, IsCutOff}
use Rattle.core_texts.specs.declared.print_error.PrintError.{PrintError}
use Rattle.core_texts.specs.declared.print_error.PrintError.TheVariants.{Sink, OutOfMemory}

-- The stream gains the whole text; or it failed, and gains a front of the text; or memory ran out, and it is as before.
abbrev pub IsPrinted : SinkSeen → SinkSeen → List ℕ → Result (Unit {0}) PrintError → Type 0
IsPrinted old new text (Ok _) = IsAdded old new text
IsPrinted old new text (Err (Sink _)) = IsCutOff old new text
IsPrinted old new text (Err OutOfMemory) = new ≡ old
