-- The code to which a handler of a signal returns, by its two instructions, and what the system saved before it called
-- the handler: `rt_sigframe` of Linux (`arch/x86/include/asm/sigframe.h`, `arch/arm64/kernel/signal.c`), with the
-- `ucontext` at the stack pointer on x86-64, and behind 128 bytes of `siginfo` on aarch64.
use Rattle.std.specs.Prelude.{ℕ, ◌+◌, ◌*◌, ◌-◌, ◌%◌, ◌^◌, nat_lt, ◌==◌, ◌&&◌, Bool, true, false, List}
use Rattle.std.specs.Prelude.{Option, Some, None, if◌then◌else◌}
use Rattle.process_memory.specs.Memory.{Memory}
use Rattle.frame_rows.specs.declared.row.Machine.{Machine}
use Rattle.frame_rows.specs.declared.row.Machine.TheVariants.{X86_64, Aarch64}
use Rattle.core_unwind.specs.declared.mark.Going.{Going}
use Rattle.core_unwind.specs.declared.mark.Mark.TheVariants.{Trampoline}
use Rattle.core_unwind.specs.declared.state.State.{State}
use Rattle.core_unwind.specs.Expressions.{word_in}
use Rattle.core_unwind.specs.Registers.{register_in, stack_pointer}
use Rattle.core_unwind.specs.Guesses.{stack_top}
use Rattle.core_unwind.specs.Values.{listed}

-- whether a word was read and is this one
abbrev pub is_word : Option ℕ → ℕ → Bool
is_word None word = false
is_word (Some found) word = found == word

-- whether memory has this word of 8 bytes at an address
abbrev pub has_word : Memory → (address word : ℕ) → Bool
has_word m address word = is_word (word_in m address) word

-- `mov $15, %rax; syscall` and `mov x8, #139; svc #0`: the number of rt_sigreturn, and the call of the system. The nine
-- bytes of the first are two words that overlap
abbrev pub has_trampoline : Machine → Memory → (pc : ℕ) → Bool
has_trampoline X86_64 m pc =
    has_word m pc 0x0f00_0000_0fc0_c748 && has_word m ((pc + 1) % 2 ^ 64) 0x050f_0000_000f_c0c7
has_trampoline Aarch64 m pc = has_word m pc 0xd400_0001_d280_1168

-- where a register stands from the stack pointer on, on x86-64
abbrev pub place_in : ℕ → Option ℕ
place_in register =
    if register == 0 then Some 144
    else if register == 1 then Some 136
    else if register == 2 then Some 152
    else if register == 3 then Some 128
    else if register == 4 then Some 112
    else if register == 5 then Some 104
    else if register == 6 then Some 120
    else if register == 7 then Some 160
    else if register == 8 then Some 40
    else if register == 9 then Some 48
    else if register == 10 then Some 56
    else if register == 11 then Some 64
    else if register == 12 then Some 72
    else if register == 13 then Some 80
    else if register == 14 then Some 88
    else if register == 15 then Some 96
    else if register == 16 then Some 168
    else None

-- the same on either machine, in bytes; none for a register that was not saved
abbrev pub place_of : Machine → ℕ → Option ℕ
place_of X86_64 register = place_in register
place_of Aarch64 register = if nat_lt register 32 then Some (312 + 8 * register) else None

-- the word that was saved so many bytes behind the stack pointer
abbrev pub saved_at : Memory → (top : ℕ) → Option ℕ → Option ℕ
saved_at m top None = None
saved_at m top (Some place) = word_in m ((top + place) % 2 ^ 64)

-- what a register had where the signal interrupted the thread
abbrev pub saved : Machine → Memory → (top register : ℕ) → Option ℕ
saved machine m top register = saved_at m top (place_of machine register)

-- how many bytes behind the stack pointer the address of the interrupted code was saved
abbrev pub counter_place : Machine → ℕ
counter_place X86_64 = 168
counter_place Aarch64 = 568

-- how a frame goes on whose CFA is known, by what a signal interrupted; not where its address is not known
abbrev pub interrupted_at : State → (cfa : ℕ) → Option ℕ → List (Option ℕ) → Option Going
interrupted_at s cfa None registers = None
interrupted_at s cfa (Some pc) registers = Some (record {
  cfa = cfa;
  is_signal = true;
  mark = Trampoline;
  caller = record {
    pc = pc;
    is_exact = true;
    registers = registers;
    least = cfa;
    signals = s.signals - 1;
    bytes = s.bytes;
  };
})

-- the same by a CFA that may not be known: then the frame doesn't go on
abbrev pub interrupted_if : State → Option ℕ → Option ℕ → List (Option ℕ) → Option Going
interrupted_if s None pc registers = None
interrupted_if s (Some cfa) pc registers = interrupted_at s cfa pc registers

-- how the frame goes on: its CFA is the stack pointer that the signal interrupted
abbrev pub interrupted : Machine → State → Option ℕ → List (Option ℕ) → Option Going
interrupted machine s pc registers = interrupted_if s (register_in registers (stack_pointer machine)) pc registers

-- how a frame goes on by what the system saved at this stack pointer
abbrev pub trampoline_at : Machine → Memory → State → (top : ℕ) → Option Going
trampoline_at machine m s top =
    interrupted machine s (word_in m ((top + counter_place machine) % 2 ^ 64)) (listed (saved machine m top) 0 32)

-- the same, where the code is a trampoline
abbrev pub trampoline_if : Bool → Machine → Memory → State → (top : ℕ) → Option Going
trampoline_if false machine m s top = None
trampoline_if true machine m s top = trampoline_at machine m s top

-- the stack pointer, where there may be one more frame of a signal
abbrev pub signal_top : Machine → State → Option ℕ
signal_top machine s = if s.signals == 0 then None else stack_top machine s

-- how a frame goes on by a stack pointer that may not be known: it does where its code is a trampoline
abbrev pub trampoline_by : Machine → Memory → State → Option ℕ → Option Going
trampoline_by machine m s None = None
trampoline_by machine m s (Some top) = trampoline_if (has_trampoline machine m s.pc) machine m s top

-- how a frame goes on whose code is the one to which a handler of a signal returns
abbrev pub trampoline : Machine → Memory → State → Option Going
trampoline machine m s = trampoline_by machine m s (signal_top machine s)
