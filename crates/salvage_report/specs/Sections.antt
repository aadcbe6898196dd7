-- The sections of what is told: each is asked for by a flag of its own, and comes of the notes of the core and of what
-- is left of its process. One that is asked for is there, also where it can't be had: then it tells why.
use Rattle.std.specs.Prelude.{◌≡◌, ℕ, ℤ, Bool, true, false, List, map, Option, Some, None, option_map, Result, Vec}
use Rattle.std.specs.Global.{Global}
use Rattle.elf64_core.specs.Header.{machine_of}
use Rattle.elf64_core.specs.Notes.{Noted}
use Rattle.image_memory.specs.Notes.{AreNotesOfCore}
use Rattle.crash_signal.specs.Signals.{signal_told}
use Rattle.crash_signal.specs.declared.told.CrashSignal.{CrashSignal}
use Rattle.crash_signal.specs.declared.told.Untold.{Untold}
use Rattle.py_fronts.specs.declared.salvaged.SalvagedInterpreter.{SalvagedInterpreter}
use Rattle.thread_registers.specs.Threads.{ThreadShown, thread_shown, threads_told}
use Rattle.thread_registers.specs.declared.threads.ThreadRegisters.{ThreadRegisters}
use Rattle.salvage_words.specs.declared.asked.Sections.{Sections}
use Rattle.missed_reads.specs.Told.{RefusedTold, blocks_told}
use Rattle.missed_reads.specs.declared.told.MissedBlocks.{MissedBlocks}
use Rattle.memory_sections.specs.Pythons.{python_threads}
use Rattle.salvage_report.specs.declared.sections.Told.{Told}

-- what is asked for is there, and nothing else
abbrev pub if_asked : {T : Type 0} → Bool → T → Option T
if_asked true value = Some value
if_asked false value = None

-- ---- what is told

-- the process's own id, by the last process record
abbrev pub own_id : Option (ℤ × List ℕ) → Option ℤ
own_id process = option_map (λ (p : ℤ × List ℕ). p.0) process

-- the registers of the threads, where they are asked for
abbrev pub registers_shown : Option (Vec ThreadRegisters Global) → Option (List ThreadShown)
registers_shown threads = option_map (λ (ts : Vec ThreadRegisters Global). map thread_shown ts.items) threads

-- the refused reads, where they are asked for
abbrev pub missing_shown : Option MissedBlocks → Option RefusedTold
missing_shown missing = option_map (λ (m : MissedBlocks). blocks_told m) missing

-- what is told of a core whose process has this id, and of whose interpreters these are left
pub record AreTold (asked : Sections) (bytes : List ℕ) (process : Option (ℤ × List ℕ)) (is : List SalvagedInterpreter)
    (told : Told) : Type 0 where
  pub notes : List Noted
  pub are : AreNotesOfCore bytes notes
  pub signal : told.signal ≡ if_asked asked.signal (signal_told (own_id process) notes)
  pub registers : registers_shown told.registers
      ≡ if_asked asked.registers (threads_told (machine_of bytes) (python_threads is) notes)
  -- what is told of refused reads, whatever that is: that their keeper holds each refusal is a clause of each read
  -- (`Keeps` of missed_reads)
  pub refused : RefusedTold
  pub missing : missing_shown told.missing ≡ if_asked asked.missing refused
