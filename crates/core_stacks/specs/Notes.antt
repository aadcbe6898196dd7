-- What the notes of a core tell, one by one.
use Rattle.std.specs.Prelude.{◌≡◌, ℕ, ℤ, List, Option, option_map}
use Rattle.image_memory.specs.Notes.{AreStatuses, IsProcess}
use Rattle.image_memory.specs.declared.records.elf_prstatus.{elf_prstatus}
use Rattle.image_memory.specs.declared.records.elf_prpsinfo.{elf_prpsinfo}
use Rattle.py_process.specs.Reports.{first_signal, process_told}

-- the signal that the status records of a core tell
abbrev pub IsSignal : List ℕ → Option ℤ → Type 0
IsSignal bytes signal = (statuses : List elf_prstatus) × AreStatuses bytes statuses × (signal ≡ first_signal statuses)

-- what the last process record of a core tells
abbrev pub IsProcessTold : List ℕ → Option (ℤ × List ℕ) → Type 0
IsProcessTold bytes process = (last : Option elf_prpsinfo) × IsProcess bytes last ×
    (process ≡ option_map process_told last)
