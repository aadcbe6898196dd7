-- What the readers of images find in an image that was built.
use Rattle.std.specs.Prelude.{ℕ, Some, None, List, [], ◌∷◌, ◌++◌, codes}
use Rattle.elf64_core.specs.Symbols.{SymbolEntry}
use Rattle.py_process.specs.Facts.{Facts, Known}
use Rattle.py_process.specs.SymbolMap.{address_of}
use Rattle.image_builder.specs.CoreFiles.{image_path}

-- a global symbol of data in the first section, the bss (gABI, `STB_GLOBAL`, `STT_OBJECT`)
abbrev pub object_symbol : List ℕ → (value size : ℕ) → SymbolEntry
object_symbol name value size = record { name = Some name; info = 17; section = 1; value = value; size = size }

-- the entry that a table begins with, and the four symbols
abbrev pub image_entries : List SymbolEntry
image_entries =
    record { name = Some []; info = 0; section = 0; value = 0; size = 0 }
    ∷ object_symbol (codes "Py_Version") 0x40_1000 4
    ∷ object_symbol (codes "_PyRuntime") 0x50_0000 8
    ∷ object_symbol (codes "_PyThreadState_Current") 0x51_0008 8
    ∷ object_symbol (codes "interp_head") 0x51_0010 8 ∷ []

-- the bss, no section of the runtime, and the addresses of symbols, which weren't moved
abbrev pub image_facts : Facts
image_facts = record {
  symbols = λ name. address_of (record { addr = 0x40_0000; size = 0x2000; offset = 0; bss_end = 0x52_0000 })
      name (image_entries ++ []);
  bss_addr = 0x50_0000;
  bss_size = 0x2_0000;
  pyruntime_addr = 0;
  pyruntime_size = 0;
  addr = 0x40_0000;
  size = 0x2000;
}

-- what is known of a process by its one image
abbrev pub image_known : Known
image_known = record { program = Some image_facts; library = None; path = image_path }
