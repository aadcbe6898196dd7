-- Where a thread stands by its status record: the registers begin at byte 112 (`elf_prstatus` of Linux's
-- `linux/elfcore.h`), in the order of `user_regs_struct` on x86-64 (`sys/user.h`), and of `user_pt_regs` on aarch64
-- (`asm/ptrace.h`), where the address of the code stands behind x0 to x30 and the stack pointer. How many frames of
-- signals and bytes of instructions there may be is this project's rule.
use Rattle.std.specs.Prelude.{ℕ, ◌+◌, ◌*◌, nat_lt, ◌==◌, ◌||◌, true, List, length, Option, Some, None, if◌then◌else◌}
use Rattle.elf64_core.specs.Fields.{u64_in}
use Rattle.frame_rows.specs.declared.row.Machine.{Machine}
use Rattle.frame_rows.specs.declared.row.Machine.TheVariants.{X86_64, Aarch64}
use Rattle.core_unwind.specs.declared.state.State.{State}
use Rattle.core_unwind.specs.Values.{listed}

-- which word of the registers has the register of a DWARF number, on x86-64
abbrev pub slot_in : ℕ → Option ℕ
slot_in register =
    if register == 0 then Some 10
    else if register == 1 then Some 12
    else if register == 2 then Some 11
    else if register == 3 then Some 5
    else if register == 4 then Some 13
    else if register == 5 then Some 14
    else if register == 6 then Some 4
    else if register == 7 then Some 19
    else if register == 8 then Some 9
    else if register == 9 then Some 8
    else if register == 10 then Some 7
    else if register == 11 then Some 6
    else if register == 12 then Some 3
    else if register == 13 then Some 2
    else if register == 14 then Some 1
    else if register == 15 then Some 0
    else if register == 16 then Some 16
    else None

-- which word of the registers has the register of a DWARF number, on either machine
abbrev pub slot_of : Machine → ℕ → Option ℕ
slot_of X86_64 register = slot_in register
slot_of Aarch64 register = Some register

-- a word of the registers, if the record has that
abbrev pub word_told : List ℕ → ℕ → Option ℕ
word_told status slot =
    if nat_lt 32 slot || nat_lt (length status) (112 + 8 * slot + 8) then None else Some (u64_in status (112 + 8 *
    slot))

-- the word in this slot; none where the record has no slot for the register
abbrev pub told_at : List ℕ → Option ℕ → Option ℕ
told_at status None = None
told_at status (Some slot) = word_told status slot

-- what a record tells of a register
abbrev pub told : Machine → List ℕ → ℕ → Option ℕ
told machine status register = told_at status (slot_of machine register)

-- the word of the address of the code
abbrev pub counter_slot : Machine → ℕ
counter_slot X86_64 = 16
counter_slot Aarch64 = 32

-- the state at an address that the record tells, with the registers that it tells
abbrev pub state_at : Machine → List ℕ → Option ℕ → Option State
state_at machine status None = None
state_at machine status (Some pc) = Some (record {
  pc = pc;
  is_exact = true;
  registers = listed (told machine status) 0 32;
  least = 0;
  signals = 64;
  bytes = 67108864;
})

-- the state that a stack begins with
abbrev pub thread_state : Machine → List ℕ → Option State
thread_state machine status = state_at machine status (word_told status (counter_slot machine))
