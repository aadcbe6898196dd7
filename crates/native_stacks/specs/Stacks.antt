-- The native stacks of a process.
use Rattle.std.specs.Prelude.{ℕ, Bool, true, List, map, Option, option_map}
use Rattle.elf64_core.specs.Header.{machine_of}
use Rattle.elf64_core.specs.Notes.{Noted}
use Rattle.image_memory.specs.Images.{Pushed}
use Rattle.process_memory.specs.Memory.{Memory}
use Rattle.core_unwind.specs.declared.place.Mapping.{Mapping}
use Rattle.core_unwind.specs.Stacks.{AllAscend}
use Rattle.thread_registers.specs.Threads.{ThreadShown, thread_shown as known_shown}
use Rattle.thread_registers.specs.declared.threads.PythonThread.{PythonThread}
use Rattle.thread_registers.specs.declared.threads.ThreadRegisters.{ThreadRegisters}
use Rattle.native_stacks.specs.declared.stacks.NativeStacks.{NativeStacks}
use Rattle.native_frames.specs.Limits.{code_bits}
use Rattle.native_frames.specs.Mapped.{AreMapped}
use Rattle.native_stacks.specs.Threads.{AreThreads, NativeShown, thread_shown}

-- what is told: the paths of the files, and the threads
pub record StacksShown : Type 0 where
  pub files : List (List ℕ)
  pub threads : List NativeShown

-- the native stacks of a core, by its notes, the files at hand, and a memory
pub record AreNativeStacks (core : List ℕ) (notes : List Noted) (images : Pushed) (m : Memory)
    (pythons : List PythonThread) (strict : Bool) (stacks : StacksShown) : Type 0 where
  pub mappings : List Mapping
  pub mapped : AreMapped core notes images stacks.files mappings
  pub threads : AreThreads (machine_of core) pythons mappings (code_bits (machine_of core) notes) m strict notes true
      4194304 stacks.threads

-- where a file that was mapped has code, the first addresses of its table ascend
abbrev pub MappedAscend : (core : List ℕ) → List Noted → Pushed → Type 0
MappedAscend core notes images =
    (files : List (List ℕ)) (mappings : List Mapping) → AreMapped core notes images files mappings → AllAscend mappings

-- ---- as they are read

-- a thread's registers in plain terms, where there are some
abbrev pub known_shown_if : Option ThreadRegisters → Option ThreadShown
known_shown_if known = option_map known_shown known

-- the native stacks of a process in plain terms
abbrev pub stacks_shown : NativeStacks → StacksShown
stacks_shown s = record { files = s.files.items; threads = map thread_shown s.threads.items }
