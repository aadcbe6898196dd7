-- The word at which a thread stands in the system call `futex`, by its status record: Linux' elf_prstatus of 64-bit
-- processes, whose registers begin at 112 (user_regs_struct of arch/x86/include/asm/user_64.h, user_pt_regs of
-- arch/arm64/include/uapi/asm/ptrace.h). The numbers of calls are those of arch/x86/entry/syscalls/syscall_64.tbl
-- (futex 202, restart_syscall 219) and of include/uapi/asm-generic/unistd.h (98, 128).
use Rattle.std.specs.Prelude.{ℕ, ◌==◌, ◌||◌, nat_lt, Option, Some, None, List, length, if◌then◌else◌}
use Rattle.elf64_core.specs.Fields.{u64_in}
use Rattle.elf64_core.specs.declared.header.Machine.{Machine}
use Rattle.elf64_core.specs.declared.header.Machine.TheVariants as machine

-- the first argument of `futex` by the registers of x86-64 (`orig_rax`, `rdi`), also of a restarted call
unfoldable pub x86_64_futex : List ℕ → Option ℕ
x86_64_futex status = if nat_lt (length status) 336 then None
    else if u64_in status 232 == 202 || u64_in status 232 == 219 then Some (u64_in status 224) else None

-- the first argument of `futex` by the registers of AArch64 (`x8`, `x0`), also of a restarted call
unfoldable pub aarch64_futex : List ℕ → Option ℕ
aarch64_futex status = if nat_lt (length status) 392 then None
    else if u64_in status 176 == 98 || u64_in status 176 == 128 then Some (u64_in status 112) else None

-- the word at which a thread stands in `futex`, by its status record; none in another call or on another machine
abbrev pub futex_of : Machine → List ℕ → Option ℕ
futex_of machine.X86_64 status = x86_64_futex status
futex_of machine.Aarch64 status = aarch64_futex status
futex_of machine.Other status = None
