-- One stack of the Python frames and the native ones of each thread, wherever native stacks are told.
use Rattle.std.specs.Prelude.{◌≡◌, ℕ, List, Option, Some, None, Vec}
use Rattle.std.specs.Global.{Global}
use Rattle.elf64_core.specs.Header.{machine_of}
use Rattle.elf64_core.specs.Notes.{Noted}
use Rattle.image_memory.specs.Notes.{AreNotesOfCore}
use Rattle.process_memory.specs.Memory.{Memory}
use Rattle.py_fields.specs.declared.layout.Layout.{Layout}
use Rattle.py_fields.specs.declared.version.Version.{Version}
use Rattle.py_process.specs.Facts.{Facts, Known}
use Rattle.py_records.specs.declared.records.Records.{Records}
use Rattle.py_fronts.specs.declared.salvaged.SalvagedInterpreter.{SalvagedInterpreter}
use Rattle.py_runs.specs.Ends.{run_end}
use Rattle.native_stacks.specs.Stacks.{stacks_shown}
use Rattle.native_stacks.specs.declared.stacks.NativeStacks.{NativeStacks}
use Rattle.paired_stacks.specs.Stacks.{ArePaired}
use Rattle.paired_stacks.specs.Starts.{starts_of}
use Rattle.paired_stacks.specs.Walked.{walked_threads}
use Rattle.paired_stacks.specs.declared.code.CodeRange.{CodeRange}
use Rattle.paired_stacks.specs.declared.code.OwnCode.{OwnCode}
use Rattle.paired_stacks.specs.declared.stack.PairedStack.{PairedStack}

-- where a binary is mapped
abbrev pub range_in : Option Facts → Option CodeRange
range_in None = None
range_in (Some f) = Some (record { addr = f.addr; size = f.size })

-- where Python's own code is mapped
abbrev pub own_code : Known → OwnCode
own_code k = record { program = range_in k.program; library = range_in k.library }

-- the stack pointers of the threads of a core
pub record AreStarts (bytes : List ℕ) (starts : List (Option ℕ)) : Type 0 where
  pub notes : List Noted
  pub noted : AreNotesOfCore bytes notes
  pub are : starts ≡ starts_of (machine_of bytes) notes

-- one stack of both for each native one
pub record ArePairs (bytes : List ℕ) (k : Known) (v : Version) (l : Layout) (r : Records) (m : Memory)
    (is : List SalvagedInterpreter) (natives : NativeStacks) (told : Vec (Option PairedStack) Global) : Type 0 where
  pub starts : List (Option ℕ)
  pub stand : AreStarts bytes starts
  pub are : ArePaired (run_end v r.frames) l m (own_code k) (walked_threads is) starts
      (stacks_shown natives).threads told.items

-- they are told where native stacks are, and nothing else
abbrev pub PairsAre : List ℕ → Known → Version → Layout → Records → Memory → List SalvagedInterpreter
    → Option NativeStacks → Option (Vec (Option PairedStack) Global) → Type 0
PairsAre bytes k v l r m is None told = told ≡ None
PairsAre bytes k v l r m is (Some natives) None = ⊥
PairsAre bytes k v l r m is (Some natives) (Some told) = ArePairs bytes k v l r m is natives told
