-- What a function does before it returns, by its instructions (Intel SDM, volume 2: ADD, POP, LEAVE, RET): where
-- nothing else stands from an address on, the thread returns so. That at most 16 instructions are followed, and that
-- eight bytes can be read where each of them stands, are this project's rules.
use Rattle.std.specs.Prelude.{ℕ, zero, suc, ◌+◌, ◌-◌, ◌/◌, ◌%◌, ◌^◌, ◌==◌, ◌&&◌, ◌||◌, nat_lt, nat_le, Bool, true}
use Rattle.std.specs.Prelude.{false}
use Rattle.std.specs.Prelude.{List, Option, Some, None, if◌then◌else◌, slice_set}
use Rattle.process_memory.specs.Memory.{Memory}
use Rattle.frame_rows.specs.declared.row.Machine.{Machine}
use Rattle.frame_rows.specs.declared.row.Machine.TheVariants.{X86_64, Aarch64}
use Rattle.core_unwind.specs.declared.epilogue.Instruction.{Instruction}
use Rattle.core_unwind.specs.declared.epilogue.Instruction.TheVariants.{Add, Pop, Leave, Return}
use Rattle.core_unwind.specs.declared.epilogue.Standing.{Standing}
use Rattle.core_unwind.specs.declared.mark.Going.{Going}
use Rattle.core_unwind.specs.declared.mark.Mark.TheVariants.{Epilogue}
use Rattle.core_unwind.specs.declared.state.State.{State}
use Rattle.core_unwind.specs.Expressions.{word_in}
use Rattle.core_unwind.specs.Guesses.{stack_top}
use Rattle.core_unwind.specs.Registers.{register_in}

-- ---- instructions

-- of one byte: `pop` of rax, rcx, rdx, rbx, rbp, rsi and rdi, by their DWARF numbers; `leave`, `ret`
abbrev pub short_in : (byte : ℕ) → Option Instruction
short_in byte =
    if byte == 0x58 then Some (Pop 0 1)
    else if byte == 0x59 then Some (Pop 2 1)
    else if byte == 0x5a then Some (Pop 1 1)
    else if byte == 0x5b then Some (Pop 3 1)
    else if byte == 0x5d then Some (Pop 6 1)
    else if byte == 0x5e then Some (Pop 4 1)
    else if byte == 0x5f then Some (Pop 5 1)
    else if byte == 0xc9 then Some Leave
    else if byte == 0xc3 then Some Return
    else None

-- `pop` of r8 to r15, behind a prefix
abbrev pub extended : (byte : ℕ) → Option Instruction
extended byte = if nat_le 0x58 byte && nat_lt byte 0x60 then Some (Pop (byte - 80) 2) else None

-- an `add` that takes nothing from the stack pointer
abbrev pub added : (bytes limit size : ℕ) → Option Instruction
added bytes limit size = if nat_lt bytes limit then Some (Add bytes size) else None

-- of several bytes: `add` of one byte, and of four
abbrev pub long_in : (word : ℕ) → Option Instruction
long_in word =
    if word % 256 == 0x41 then extended (word / 256 % 256)
    else if word % 16777216 == 0xc48348 then added (word / 16777216 % 256) 128 4
    else if word % 16777216 == 0xc48148 then added (word / 16777216 % 4294967296) 2147483648 7
    else None

-- the instruction of one byte, where it is one, else that of several bytes
abbrev pub short_or : Option Instruction → (word : ℕ) → Option Instruction
short_or (Some instruction) word = Some instruction
short_or None word = long_in word

-- the instruction at the front of eight bytes
abbrev pub instruction_in : (word : ℕ) → Option Instruction
instruction_in word = short_or (short_in (word % 256)) word

-- the instruction at the front of eight bytes, where they can be read
abbrev pub instruction_if : Option ℕ → Option Instruction
instruction_if None = None
instruction_if (Some word) = instruction_in word

-- the instruction at an address
abbrev pub instruction_at : Memory → (pc : ℕ) → Option Instruction
instruction_at m pc = instruction_if (word_in m pc)

-- ---- what they do

-- the registers with this value in one of them; unchanged where it is none of the first 32
abbrev pub put : List (Option ℕ) → (register : ℕ) → Option ℕ → List (Option ℕ)
put registers register value = if nat_lt register 32 then slice_set registers register value else registers

-- where a thread stands behind a `pop` from this top, by an instruction of so many bytes
abbrev pub popped_behind : Memory → Standing → (register size top : ℕ) → Standing
popped_behind m s register size top = record {
  pc = (s.pc + size) % 2 ^ 64;
  top = (top + 8) % 2 ^ 64;
  registers = put s.registers register (word_in m top);
}

-- where it stands behind `leave`: rbp is popped from where it points; nowhere if rbp is not known
abbrev pub left_behind : Memory → Standing → Option ℕ → Option Standing
left_behind m s None = None
left_behind m s (Some base) = Some (popped_behind m s 6 1 base)

-- where it stands behind `ret`: at the address on top of the stack; nowhere if that can't be read
abbrev pub returned : Standing → Option ℕ → Option Standing
returned s None = None
returned s (Some pc) = Some (record { pc = pc; top = (s.top + 8) % 2 ^ 64; registers = s.registers })

-- where a thread stands behind an instruction
abbrev pub behind : Memory → Standing → Instruction → Option Standing
behind m s (Add bytes size) = Some (record {
  pc = (s.pc + size) % 2 ^ 64;
  top = (s.top + bytes) % 2 ^ 64;
  registers = s.registers;
})
behind m s (Pop register size) = Some (popped_behind m s register size s.top)
behind m s Leave = left_behind m s (register_in s.registers 6)
behind m s Return = returned s (word_in m s.top)

-- whether an instruction is `ret`
abbrev pub is_return : Instruction → Bool
is_return Return = true
is_return other = false

-- ---- up to the return

-- where a thread stands, if the last instruction was `ret`, else where it comes to by the next ones
abbrev pub unless_return : Bool → Standing → (Standing → Option Standing) → Option Standing
unless_return true s f = Some s
unless_return false s f = f s

-- the same, where it is known how the thread stands behind the instruction
abbrev pub behind_then : Bool → Option Standing → (Standing → Option Standing) → Option Standing
behind_then is_last None f = None
behind_then is_last (Some s) f = unless_return is_last s f

-- the same by an instruction; nowhere where it is none of an epilogue
abbrev pub instruction_then : Memory → Standing → Option Instruction → (Standing → Option Standing) → Option Standing
instruction_then m s None f = None
instruction_then m s (Some i) f = behind_then (is_return i) (behind m s i) f

-- where a thread stands behind the return, by so many instructions at most
unfoldable pub unwound : (most : ℕ) → Memory → Standing → Option Standing
unwound zero m s = None
unwound (suc most) m s = instruction_then m s (instruction_at m s.pc) (unwound most m)

-- ---- the caller

-- how a frame goes on by its epilogue: the caller stands where the thread is behind the return
abbrev pub returns_to : State → Standing → Going
returns_to s after = record {
  cfa = after.top;
  is_signal = false;
  mark = Epilogue;
  caller = record {
    pc = after.pc;
    is_exact = false;
    registers = put after.registers 7 (Some after.top);
    least = after.top + 1;
    signals = s.signals;
    bytes = s.bytes;
  };
}

-- 0 is no return address, and the CFA grows
abbrev pub goes_on : State → Option Standing → Option Going
goes_on s None = None
goes_on s (Some after) = if after.pc == 0 || nat_lt after.top s.least then None else Some (returns_to s after)

-- where an epilogue begins: at a state's address, with this top of the stack
abbrev pub standing_at : State → Option ℕ → Option Standing
standing_at s None = None
standing_at s (Some top) = Some (record { pc = s.pc; top = top; registers = s.registers })

-- on x86-64 alone
abbrev pub begun_at : Machine → State → Option Standing
begun_at X86_64 s = standing_at s (stack_top X86_64 s)
begun_at Aarch64 s = None

-- how a frame goes on whose epilogue begins here; at most 16 instructions are followed
abbrev pub epilogue_by : Memory → State → Option Standing → Option Going
epilogue_by m s None = None
epilogue_by m s (Some standing) = goes_on s (unwound 16 m standing)

-- how a frame goes on whose code is an epilogue from its address on
abbrev pub epilogue : Machine → Memory → State → Option Going
epilogue machine m s = epilogue_by m s (begun_at machine s)
