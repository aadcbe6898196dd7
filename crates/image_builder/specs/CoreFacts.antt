-- What the readers of cores find in a core that was built.
use Rattle.std.specs.Prelude.{ℕ, Option, Some, None, List, [], ◌∷◌, pos}
use Rattle.process_memory.specs.Memory.{Memory, Region, byte_at}
use Rattle.image_memory.specs.Backed.{IsBackedMemory}
use Rattle.image_memory.specs.Images.{Pushed}
use Rattle.image_memory.specs.declared.maps.CoreMapRange.{CoreMapRange}
use Rattle.image_memory.specs.declared.records.elf_prstatus.{elf_prstatus}
use Rattle.image_memory.specs.declared.records.elf_prpsinfo.{elf_prpsinfo}
use Rattle.py_process.specs.Programs.{Programs}
use Rattle.image_builder.specs.CoreFiles.{image_path, process_name}
use Rattle.image_builder.specs.Records.{filled}

-- its memory: the image, the words of the bss, and the objects
abbrev pub built_memory : (image words objects : List ℕ) → List Region
built_memory image words objects = (0x40_0000, image) ∷ (0x50_0000, words) ∷ (0x60_0000, objects) ∷ []

-- its maps: the first alone has a name
abbrev pub map_of : Option (List ℕ) → (flags offset addr size : ℕ) → CoreMapRange
map_of name flags offset addr size = record {
  pathname = name;
  segment = record { kind = 1; flags = flags; offset = offset; addr = addr; file_size = size; mem_size = size };
}

-- its maps: the image's code, the words, and so many bytes of objects
abbrev pub built_maps : (objects : ℕ) → List CoreMapRange
built_maps objects = map_of (Some image_path) 5 0x1000 0x40_0000 0x2000
    ∷ map_of None 6 0x3000 0x50_0000 0x2_0000 ∷ map_of None 6 0x2_3000 0x60_0000 objects ∷ []

-- its program is the first of them; no library is mapped
abbrev pub built_programs : Programs
built_programs = record { program = map_of (Some image_path) 5 0x1000 0x40_0000 0x2000; library = None }

-- its one status record
abbrev pub built_status : elf_prstatus
built_status = record { pr_cursig = pos 6; pr_pid = pos 1 }

-- its process record
abbrev pub built_process : elf_prpsinfo
built_process = record { pr_pid = pos 1; pr_fname = filled 16 process_name; pr_psargs = filled 80 process_name }

-- what holds of the memory of a core and images, whichever images are handed in, none among them
abbrev pub InEachMemory : List ℕ → (Memory → Type 0) → Type 0
InEachMemory core Holds = (images : Pushed) (regions : List Region) → IsBackedMemory core images regions
    → Holds (byte_at regions)
