-- Which members of an interpreter's chains of frames are kept, and whether their locals can be read.
use Rattle.std.specs.Prelude.{◌≡◌, ◌≢◌, ◌⊎◌, ℕ, ◌+◌, ◌<◌, ◌≤◌, true, IsOk, Some, List, [], ◌∷◌, Ok, Err}
use Rattle.elf64_core.specs.Fields.{u32_in}
use Rattle.process_memory.specs.Memory.{Memory, Found, Fault, record_at, word_at}
use Rattle.process_memory.specs.Walk.{first_fault}
use Rattle.py_fields.specs.declared.layout.Layout.{Layout}
use Rattle.py_stacks.specs.Asking.{asked_of}
use Rattle.py_stacks.specs.Frames.{Call, back_of, plain_by, records_at}
use Rattle.py_stacks.specs.Locals.{local_at, locals_faults, names_tuple_of}
use Rattle.py_stacks.specs.Member.{MemberAt}
use Rattle.py_stacks.specs.Holder.{holder_id_at}
use Rattle.py_stacks.specs.Threads.{first_frame_at, thread_after}
use Rattle.py_stacks.specs.declared.config.Config.{Config}
use Rattle.py_process.specs.Findings.{Finding}

-- from a head one comes by these members, each named by the one before it, to an address; none of them is null, at
-- which a chain ends
abbrev pub Follows : (ℕ → Found ℕ) → ℕ → List ℕ → ℕ → Type 0
Follows next head [] a = (head ≢ 0) × (head ≡ a)
Follows next head (b ∷ rest) a = (head ≢ 0) × (next head ≡ Ok b) × Follows next b rest a

-- a member of the frames of one of an interpreter's threads, as it is read, that isn't skipped
pub record IsKeptMember (l : Layout) (m : Memory) (interpreter : ℕ) (r : MemberAt) : Type 0 where
  pub head : ℕ
  pub names : word_at m (interpreter + l.interpreter.threads) ≡ Ok head
  pub threads : List ℕ
  pub thread_at : ℕ
  pub to_thread : Follows (thread_after l m) head threads thread_at
  pub thread : List ℕ
  pub read_thread : record_at m thread_at l.thread.size ≡ Ok thread
  pub first : ℕ
  pub names_first : first_frame_at l m thread ≡ Ok first
  pub members : List ℕ
  pub member : ℕ
  pub to_member : Follows (back_of l m) first members member
  pub read : records_at l m member ≡ Ok r
  pub call : Call
  pub shows : plain_by l m r ≡ Some call

-- the locals of a member can be read: it counts none or up to 65535 of them, the record of its tuple of names is in
-- memory, and so are of each variable the word that names it, its name, which is a text, and its slot
pub record HasLocals (l : Layout) (m : Memory) (r : MemberAt) : Type 0 where
  pub few : u32_in r.code l.code.nlocals ≤ 65535
  pub tuple : IsOk (record_at m (names_tuple_of l r) l.tuple.size)
  pub each : (index : ℕ) → index < u32_in r.code l.code.nlocals → IsOk (local_at l m r index)

-- all that is needed beside the chains is there: the lock's holder, and, where locals are asked for, those of each
-- kept member
pub record HasRest (m : Memory) (f : Finding) (config : Config) : Type 0 where
  pub holder_id : IsOk (holder_id_at f.layout m f.addresses.lock)
  pub locals : (asked_of config).locals ≡ true → (r : MemberAt) → IsKeptMember f.layout m f.addresses.interpreter r
      → HasLocals f.layout m r

-- the first fault of the locals of a kept member
pub record IsLocalsFault (l : Layout) (m : Memory) (interpreter : ℕ) (fault : Fault) : Type 0 where
  pub member : MemberAt
  pub kept : IsKeptMember l m interpreter member
  pub first : first_fault (locals_faults l m member) ≡ Some fault

-- what of the lock's holder isn't in memory; or such a fault, where locals are asked for
abbrev pub IsRestFault : Memory → Finding → Config → Fault → Type 0
IsRestFault m f config fault = (holder_id_at f.layout m f.addresses.lock ≡ Err fault)
    ⊎ (((asked_of config).locals ≡ true) × IsLocalsFault f.layout m f.addresses.interpreter fault)
