-- The names of registers, in the order in which Linux' status records have them.
use Rattle.std.specs.Prelude.{ℕ, List, [], ◌∷◌, codes}
use Rattle.std.specs.Borrow.{Bor}

-- a name, as the code has it
abbrev pub name_of : Bor (List ℕ) → List ℕ
name_of name = name.now

-- those of x86-64: user_regs_struct of arch/x86/include/asm/user_64.h
unfoldable pub x86_64_names : List (List ℕ)
x86_64_names =
    codes "r15" ∷ codes "r14" ∷ codes "r13" ∷ codes "r12" ∷ codes "rbp" ∷ codes "rbx" ∷ codes "r11" ∷
    codes "r10" ∷ codes "r9" ∷ codes "r8" ∷ codes "rax" ∷ codes "rcx" ∷ codes "rdx" ∷ codes "rsi" ∷
    codes "rdi" ∷ codes "orig_rax" ∷ codes "rip" ∷ codes "cs" ∷ codes "eflags" ∷ codes "rsp" ∷ codes "ss" ∷
    codes "fs_base" ∷ codes "gs_base" ∷ codes "ds" ∷ codes "es" ∷ codes "fs" ∷ codes "gs" ∷ []

-- those of aarch64: user_pt_regs of arch/arm64/include/uapi/asm/ptrace.h, whose regs are x0 to x30
unfoldable pub aarch64_names : List (List ℕ)
aarch64_names =
    codes "x0" ∷ codes "x1" ∷ codes "x2" ∷ codes "x3" ∷ codes "x4" ∷ codes "x5" ∷ codes "x6" ∷ codes "x7" ∷
    codes "x8" ∷ codes "x9" ∷ codes "x10" ∷ codes "x11" ∷ codes "x12" ∷ codes "x13" ∷ codes "x14" ∷
    codes "x15" ∷ codes "x16" ∷ codes "x17" ∷ codes "x18" ∷ codes "x19" ∷ codes "x20" ∷ codes "x21" ∷
    codes "x22" ∷ codes "x23" ∷ codes "x24" ∷ codes "x25" ∷ codes "x26" ∷ codes "x27" ∷ codes "x28" ∷
    codes "x29" ∷ codes "x30" ∷ codes "sp" ∷ codes "pc" ∷ codes "pstate" ∷ []
