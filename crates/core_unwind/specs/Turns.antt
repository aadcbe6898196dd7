-- What follows a frame, by the rules there: DWARF 5, section 6.4.4, and this project's rules of what is no caller.
use Rattle.std.specs.Prelude.{ℕ, ◌+◌, ◌-◌, nat_le, ◌==◌, ◌||◌, Bool, true, false, List, Option, Some, None}
use Rattle.std.specs.Prelude.{if◌then◌else◌, bit_and, ◌%◌, ◌^◌, ◌&&◌, not}
use Rattle.process_memory.specs.Memory.{Memory}
use Rattle.frame_rows.specs.declared.row.Row.{Row}
use Rattle.frame_rows.specs.declared.row.Rule.{Rule}
use Rattle.frame_rows.specs.declared.row.Rule.TheVariants as rule
use Rattle.frame_tables.specs.declared.record.Entry.{Entry}
use Rattle.core_unwind.specs.declared.end.End.{End}
use Rattle.core_unwind.specs.declared.end.End.TheVariants.{Whole, Unreadable, Refused, NotAbove}
use Rattle.core_unwind.specs.declared.end.Refusal.TheVariants.{Cfa, ReturnAddress}
use Rattle.core_unwind.specs.declared.frame.Frame.{Frame}
use Rattle.core_unwind.specs.declared.frame.Next.{Next}
use Rattle.core_unwind.specs.declared.frame.Next.TheVariants.{Caller, Stops}
use Rattle.core_unwind.specs.declared.frame.Turn.{Turn}
use Rattle.core_unwind.specs.declared.place.CodePlace.{CodePlace}
use Rattle.core_unwind.specs.declared.state.State.{State}
use Rattle.core_unwind.specs.declared.value.Rules.{Rules}
use Rattle.core_unwind.specs.Registers.{register_in}
use Rattle.core_unwind.specs.Values.{cfa_of, listed, rule_of, value_of}

-- a frame of which no table speaks, at which a stack ends
abbrev pub stopped : State → Option CodePlace → End → Turn
stopped s place end = record {
  frame = record { pc = s.pc; is_exact = s.is_exact; place = place; cfa = None; is_signal = false; mark = None };
  next = Stops end;
}

-- a frame whose table has these rules
abbrev pub frame_of : State → CodePlace → Rules → (cfa : Option ℕ) → Frame
frame_of s place rules cfa = record {
  pc = s.pc;
  is_exact = s.is_exact;
  place = Some place;
  cfa = cfa;
  is_signal = rules.entry.is_signal;
  mark = None;
}

-- ---- the return address

-- the rule of the register that has the return address
abbrev pub return_rule : Rules → Option Rule
return_rule rules = rule_of rules.row rules.entry.return_register

-- whether a rule says that a register's value is lost, `DW_CFA_undefined` (DWARF 5, section 6.4.1)
abbrev pub is_undefined : Option Rule → Bool
is_undefined (Some rule.Undefined) = true
is_undefined other = false

-- a function that has no caller says that its return address is undefined
abbrev pub is_first : Rules → Bool
is_first rules = is_undefined (return_rule rules)

-- how a stack ends by the rule of its return address: the saved word can't be read, or it is refused
abbrev pub unknown_by : (cfa : ℕ) → Option Rule → End
unknown_by cfa (Some (rule.Saved offset)) = Unreadable ((cfa + offset) % 2 ^ 64)
unknown_by cfa other = Refused ReturnAddress

-- how a stack ends where the return address is not known
abbrev pub unknown_return : Rules → (cfa : ℕ) → End
unknown_return rules cfa = unknown_by cfa (return_rule rules)

-- without the bits of its signature, where it has one
abbrev pub address_of : Row → (code_bits word : ℕ) → ℕ
address_of row code_bits word = if row.signed then bit_and word code_bits else word

-- ---- the caller

-- the CFA grows from frame to frame; that of a signal's frame may be on another stack
abbrev pub is_above : State → Rules → (cfa : ℕ) → Bool
is_above s rules cfa = rules.entry.is_signal || nat_le s.least cfa

-- how many bytes the call frame instructions of an entry have, the initial ones and its own
abbrev pub instruction_bytes : Entry → ℕ
instruction_bytes e = (e.initial.end - e.initial.start) + (e.own.end - e.own.start)

-- what a signal interrupted is exact, and may have the same CFA again
abbrev pub caller_of : State → Rules → (cfa pc : ℕ) → List (Option ℕ) → State
caller_of s rules cfa pc registers = record {
  pc = pc;
  is_exact = rules.entry.is_signal;
  registers = registers;
  least = if rules.entry.is_signal then cfa else cfa + 1;
  signals = if rules.entry.is_signal then s.signals - 1 else s.signals;
  bytes = s.bytes - instruction_bytes rules.entry;
}

-- 0 is no return address, but a signal may have interrupted a thread that had jumped there
abbrev pub next_at : State → Rules → (cfa : ℕ) → List (Option ℕ) → (pc : ℕ) → Next
next_at s rules cfa registers pc =
    if pc == 0 && not rules.entry.is_signal then Stops Whole else Caller (caller_of s rules cfa pc registers)

-- what follows by the word in the return register, where its value is known
abbrev pub next_by : (code_bits : ℕ) → State → Rules → (cfa : ℕ) → List (Option ℕ) → Option ℕ → Next
next_by code_bits s rules cfa registers None = Stops (unknown_return rules cfa)
next_by code_bits s rules cfa registers (Some word) =
    next_at s rules cfa registers (address_of rules.row code_bits word)

-- what follows a frame whose caller had these registers
abbrev pub next_of : (code_bits : ℕ) → State → Rules → (cfa : ℕ) → List (Option ℕ) → Next
next_of code_bits s rules cfa registers =
    next_by code_bits s rules cfa registers (register_in registers rules.entry.return_register)

-- what follows a frame with this CFA; a CFA that is not known or does not grow ends the stack
abbrev pub next_from : (code_bits : ℕ) → State → Rules → Memory → Option ℕ → Next
next_from code_bits s rules m None = Stops (Refused Cfa)
next_from code_bits s rules m (Some cfa) =
    if is_above s rules cfa then next_of code_bits s rules cfa (listed (value_of rules s.registers m cfa) 0 32)
    else Stops NotAbove

-- what follows a frame by its rules; a function without a caller ends the stack
abbrev pub next_in : (code_bits : ℕ) → State → Rules → Memory → Option ℕ → Next
next_in code_bits s rules m cfa = if is_first rules then Stops Whole else next_from code_bits s rules m cfa

-- a frame, and what follows it
abbrev pub turn_of : (code_bits : ℕ) → State → CodePlace → Rules → Memory → Turn
turn_of code_bits s place rules m = record {
  frame = frame_of s place rules (cfa_of rules s.registers m);
  next = next_in code_bits s rules m (cfa_of rules s.registers m);
}
