-- Native stacks by some notes of a core are those of the core.
use Rattle.std.specs.Prelude.{ℕ, Bool, List, Result, Ok, Err, IfOk}
use Rattle.elf64_core.specs.Notes.{Noted}
use Rattle.image_memory.specs.Images.{Pushed}
use Rattle.image_memory.specs.Notes.{AreNotesOfCore}
use Rattle.process_memory.specs.Memory.{Memory}
use Rattle.native_stacks.specs.Stacks.{AreNativeStacks, stacks_shown}
use Rattle.native_stacks.specs.declared.stacks.NativeStacks.{NativeStacks}
use Rattle.thread_registers.specs.declared.threads.PythonThread.{PythonThread}
use Rattle.memory_sections.specs.Told.{AreNative, asked_notes}

pub with_notes : {E : Type 0} (strict crashed : Bool) (bytes : List ℕ) (images : Pushed) (m : Memory)
    (pythons : List PythonThread) (notes : List Noted) → AreNotesOfCore bytes notes → (r : Result NativeStacks E)
    → IfOk r (λ stacks. AreNativeStacks bytes (asked_notes crashed notes) images m pythons strict (stacks_shown stacks))
    → IfOk r (AreNative strict crashed bytes images m pythons)
with_notes strict crashed bytes images m pythons notes are (Ok stacks) told =
    record { notes = notes; are = are; told = told }
with_notes strict crashed bytes images m pythons notes are (Err e) told = tt
