-- The parts of the line of each cause.
use Rattle.std.specs.Prelude.{ℕ, List, [], ◌∷◌, codes, decimal, encode_utf8_all}
use Rattle.program_run.specs.Ends.{CauseSays}
use Rattle.fault_lines.specs.Lines.{core_parts, layout_parts}
use Rattle.py_records.specs.declared.error.RecordsError.{RecordsError}
use Rattle.py_records.specs.declared.error.RecordsError.TheVariants as records
use Rattle.salvage_report.specs.declared.cause.Cause.{Cause}
use Rattle.salvage_report.specs.declared.cause.Cause.TheVariants.{Core, Layouts, NoInterpreter, OutOfMemory, Records}
use Rattle.salvage_report.specs.Outcome.{cause_status}

-- why records are refused
abbrev pub record_parts : RecordsError → List (List ℕ)
record_parts records.NotToml = codes "records: not TOML" ∷ []
record_parts (records.Shape table key) =
    codes "records: table " ∷ decimal table ∷ codes ", key " ∷ encode_utf8_all key ∷ []
record_parts (records.Unsound table) = codes "records: table " ∷ decimal table ∷ codes " is unsound" ∷ []
record_parts (records.Clash first second) =
    codes "records: tables " ∷ decimal first ∷ codes " and " ∷ decimal second ∷ codes " clash" ∷ []
record_parts records.OutOfMemory = codes "out of memory" ∷ []

-- the words of a cause
abbrev pub cause_parts : Cause → List (List ℕ)
cause_parts (Core error) = core_parts error
cause_parts (Layouts error) = layout_parts error
cause_parts (Records error) = record_parts error
cause_parts (NoInterpreter addresses members) =
    codes "no interpreter found: " ∷ decimal addresses ∷ codes " addresses looked at, " ∷ decimal members
    ∷ codes " members walked" ∷ []
cause_parts OutOfMemory = codes "out of memory" ∷ []

-- what is said of a cause
abbrev pub cause_says : Cause → CauseSays
cause_says cause = record { status = cause_status cause; parts = cause_parts cause }
