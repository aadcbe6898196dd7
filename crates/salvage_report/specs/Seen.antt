-- What the code's own values of an opened process stand for.
use Rattle.std.specs.Prelude.{◌≡◌, ℕ, List, Option, Result, Ok, Err, Vec}
use Rattle.std.specs.Global.{Global}
use Rattle.elf64_core.specs.Header.{machine_of}
use Rattle.image_memory.specs.Backed.{regions_of}
use Rattle.image_memory.specs.Images.{Pushed}
use Rattle.image_memory.specs.MapTables.{tests}
use Rattle.image_memory.specs.declared.maps.CoreMapRange.{CoreMapRange}
use Rattle.process_memory.specs.Memory.{byte_at}
use Rattle.py_stacks.specs.declared.error.StackError.{StackError}
use Rattle.py_stacks.specs.declared.error.StackError.TheVariants.{OutOfMemory}
use Rattle.py_process.specs.Facts.{known_of}
use Rattle.py_records.specs.declared.table.RecordTable.{RecordTable}
use Rattle.heap_search.specs.Salvaged.{salvaged_or_searched}
use Rattle.py_fronts.specs.declared.crash.Crash.{Crash}
use Rattle.py_fronts.specs.declared.salvaged.Salvaged.{Salvaged}
use Rattle.salvage_words.specs.Salvage.{Salvage}
use Rattle.salvage_report.specs.declared.cause.Cause.{Cause}
use Rattle.core_stacks.specs.declared.process.Process.{Process}
use Rattle.salvage_report.specs.Crashed.{CrashTold}
use Rattle.core_stacks.specs.Process.{IsProcessOf, opened_of}
use Rattle.salvage_report.specs.Outcome.{IsAnswer, IsLeftOf, SearchesBy, asked_of, salvaged_of}

-- what is left of its interpreters, by the load segments of its core and by the thread pointers that this tells
pub record IsSalvaged (s : Salvage) (p : Process) (crash : Option Crash) (salvaged : Salvaged) : Type 0 where
  pub segments : List CoreMapRange
  pub pointers : List ℕ
  pub by : SearchesBy p.dump.core segments pointers
  pub is : salvaged_of salvaged ≡ salvaged_or_searched (tests p.info.maps) (machine_of p.dump.core) (known_of p.info)
      p.version p.layout (byte_at (regions_of p.dump)) (asked_of s) s.limit crash segments pointers

-- that, or out of memory
abbrev pub Salvages : Salvage → Process → Option Crash → Result Salvaged StackError → Type 0
Salvages s p crash (Ok salvaged) = IsSalvaged s p crash salvaged
Salvages s p crash (Err e) = e ≡ OutOfMemory

-- the text of what is left of it, or that no interpreter is shown
abbrev pub ShowsLeft : Salvage → List RecordTable → Pushed → Process → Option Crash
    → Result (Vec ℕ Global) Cause → Type 0
ShowsLeft s ts images p crash result = (bytes : List ℕ) (is : IsProcessOf bytes p) → CrashTold bytes crash
    → IsAnswer (IsLeftOf s ts bytes images (opened_of is.maps p)) result
