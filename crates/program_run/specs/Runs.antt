-- What is so of each run of a program, whichever the program is.
use Rattle.std.specs.Prelude.{◌≡◌, ◌≢◌, ◌↔◌, ◌⊎◌, ℕ, List, Option, None, Ok}
use Rattle.std.specs.Io.KnownBytes.{Appends}
use Rattle.outside.specs.Streams.{SinkSeen}
use Rattle.program_run.specs.Ends.{HasRun, Program, Ran, Reaches}

-- a run of a program: what it read and wrote, its line and its status
pub record IsRun {Command Cause : Type 0} (p : Program Command Cause) (asks : Option Command) (r : Ran)
    (err err_after : SinkSeen) (status : ℕ) : Type 0 where
  -- each status has its cause and its line, and what `out`, `err` and the list of failed names gained
  pub right : HasRun p asks r err err_after status
  -- status 0 comes only after the whole text of what the words ask for was written
  pub printed : status ≡ 0 → (text : List ℕ)
      × Reaches p asks r.files.told (Ok text) × Appends r.out.written r.out_after.written text
  -- nothing is said under status 0, and nothing is written to `out` under another one but 4
  pub silent : status ≡ 0 → err_after ≡ err
  pub nothing_out : status ≢ 0 → status ≢ 4 → r.out_after ≡ r.out
  -- the words are refused exactly where they ask for nothing, out of memory aside
  pub refused : status ≡ 2 → asks ≡ None
  pub asked : asks ≡ None → (status ≡ 2) ⊎ (status ≡ 5)
  -- status 3 comes exactly where a name failed, which is that of a file that is asked for
  pub unread : (status ≡ 3) ↔ (r.files_after.failed ≢ r.files.failed)
  pub all_read : status ≢ 3 → r.files_after.failed ≡ r.files.failed
  -- what the files tell stays as it is
  pub told : r.files_after.told ≡ r.files.told
