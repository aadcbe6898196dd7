-- What a run of a report promises under status 0.
use Rattle.std.specs.Prelude.{◌∷◌, ℕ, List, Ok}
use Rattle.std.specs.Io.KnownBytes.{Appends}
use Rattle.outside.specs.Files.{Told}
use Rattle.outside.specs.Streams.{SinkSeen}
use Rattle.py_fields.specs.declared.layout.Layout.{Layout}
use Rattle.py_layout.specs.File.{IsRightFor}
use Rattle.py_process.specs.Reports.{IsRight, reported_of}
use Rattle.py_process.specs.declared.report.Report.{Report}
use Rattle.core_words.specs.Dump.{Dump}
use Rattle.core_words.specs.Words.{dump}
use Rattle.core_report.specs.Outcome.{images_read, shown_report}
use Rattle.core_report.specs.Reading.{IsAll, IsRead}

-- The text of a report was written, or its threads as JSON where the words ask for that. The report's threads are the
-- whole chain of threads, to null, of the first candidate interpreter that passes the test over the memory of the core
-- and its images, and the frames of each are its whole chain of callers, to null, less the skipped members, with their
-- code records' file and function names (`IsRight`): by the bytes that the files gave for the core, by the layouts that
-- they gave, and by all the images, each under its path; and with what else the words ask for. Which bytes a file gave
-- is said where the files tell, and what was written where the stream tells.
pub record HasReported (d : Dump) (told : Told) (old new : SinkSeen) : Type 0 where
  pub core : List ℕ
  pub text : List ℕ
  pub images : List (List ℕ)
  pub read : IsRead told (dump d) (core ∷ text ∷ images)
  pub all : IsAll (dump d) (core ∷ text ∷ images)
  pub layouts : List Layout
  pub says : IsRightFor text (Ok layouts)
  pub report : Report
  pub right : IsRight core (images_read d.images images) layouts d.config (reported_of report)
  pub written : Appends old.written new.written (shown_report d report)
