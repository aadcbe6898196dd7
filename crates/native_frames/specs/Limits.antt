-- How much is read of stacks at most: this project's own rules. Which bits of a return address are its signature a note
-- of each thread says (`user_pac_mask` of Linux's `asm/ptrace.h`: of data's addresses, and of code's); where there is
-- none, addresses have 48 bits, Linux's usual size on aarch64.
use Rattle.std.specs.Prelude.{ℕ, ◌+◌, ◌*◌, ◌-◌, ◌^◌, min, nat_lt, if◌then◌else◌, List, length, Option, Some, None}
use Rattle.elf64_core.specs.Fields.{u64_in}
use Rattle.elf64_core.specs.Notes.{Noted}
use Rattle.image_memory.specs.Notes.{desc_of}
use Rattle.elf64_core.specs.declared.header.Machine.{Machine as ElfMachine}
use Rattle.elf64_core.specs.declared.header.Machine.TheVariants as elf
use Rattle.frame_rows.specs.declared.row.Machine.{Machine}
use Rattle.frame_rows.specs.declared.row.Machine.TheVariants.{X86_64, Aarch64}

-- how many frames a stack has at most, where so many are left to the process
abbrev pub limit_of : ℕ → ℕ
limit_of left = 1 + min left 1048575

-- the machine of a core, where its registers are told
abbrev pub frame_machine : ElfMachine → Option Machine
frame_machine elf.X86_64 = Some X86_64
frame_machine elf.Aarch64 = Some Aarch64
frame_machine elf.Other = None

-- the bits of an address, by the mask of code's addresses; 48 bits where there is no such note
abbrev pub address_bits : Option (List ℕ) → ℕ
address_bits None = 2 ^ 48 - 1
address_bits (Some masks) = if nat_lt (length masks) 16 then 2 ^ 48 - 1 else (2 ^ 64 - 1) - u64_in masks 8

-- the bits of an address, by the first such note
abbrev pub code_bits : ElfMachine → List Noted → ℕ
code_bits elf.X86_64 notes = 2 ^ 64 - 1
code_bits elf.Aarch64 notes = address_bits (desc_of 0x406 notes)
code_bits elf.Other notes = 2 ^ 64 - 1

-- how often memory is read at most for a stack of 2^20 frames: 8549 times for each
abbrev pub stack_most : ℕ
stack_most = 8549 * 1048576

-- for a thread: for two stacks, and for a guess
abbrev pub thread_most : ℕ
thread_most = (stack_most + 2) + stack_most

-- for the threads of so many notes
abbrev pub most_reads : (notes : ℕ) → ℕ
most_reads notes = thread_most * notes
