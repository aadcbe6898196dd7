-- Registers by their DWARF numbers, and those that a call leaves as they are, by the psABIs: System V, AMD64, figures
-- 3.4 and 3.36; the 64-bit Arm architecture, section 6.1.1. That x30 counts among these is this project's rule: the
-- return address stands there until it is saved.
use Rattle.std.specs.Prelude.{ℕ, nat_le, nat_lt, ◌==◌, ◌&&◌, ◌||◌, Bool, List, Option, Some, None, slice_index_or}
use Rattle.std.specs.Prelude.{if◌then◌else◌}
use Rattle.frame_rows.specs.declared.row.Machine.{Machine}
use Rattle.frame_rows.specs.declared.row.Machine.TheVariants.{X86_64, Aarch64}

-- the value of a register, if it is known
abbrev pub register_in : List (Option ℕ) → ℕ → Option ℕ
register_in registers register = slice_index_or registers register None

-- the DWARF number of the stack pointer: rsp is 7, SP is 31
abbrev pub stack_pointer : Machine → ℕ
stack_pointer X86_64 = 7
stack_pointer Aarch64 = 31

-- whether a call leaves a register as it is: rbx, rbp and r12 to r15; x19 to x30
abbrev pub is_kept : Machine → ℕ → Bool
is_kept X86_64 register = register == 3 || (register == 6 || (nat_le 12 register && nat_lt register 16))
is_kept Aarch64 register = nat_le 19 register && nat_lt register 31

-- what the caller had in a register of which no rule speaks: the stack pointer is the CFA
abbrev pub kept : Machine → List (Option ℕ) → (cfa register : ℕ) → Option ℕ
kept machine registers cfa register =
    if register == stack_pointer machine then Some cfa
    else if is_kept machine register then register_in registers register
    else None
