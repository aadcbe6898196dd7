-- Rows, by DWARF 5, section 6.4.1, and what each instruction makes of one, by section 6.4.2; `negate_ra_state` by the
-- DWARF of the 64-bit Arm architecture. That a row has the registers of the machine alone, and others are dropped, and
-- how long an expression may be, are this project's rules.
use Rattle.std.specs.Prelude.{ℕ, ◌-◌, ◌*◌, ◌^◌, ◌%◌, nat_lt, if◌then◌else◌, not}
use Rattle.std.specs.Prelude.{Option, Some, None, Result, Ok, Err, slice_index_or, slice_set, replicate, false}
use Rattle.frame_rows.specs.declared.number.Flaw.{Flaw}
use Rattle.frame_rows.specs.declared.number.Flaw.TheVariants.{NoCfa, LongExpression, OtherMachine}
use Rattle.frame_rows.specs.declared.instruction.Change.{Change}
use Rattle.frame_rows.specs.declared.instruction.Change.TheVariants.{Nop, Offset, ValueOffset, SameValue, Restore}
use Rattle.frame_rows.specs.declared.instruction.Change.TheVariants.{Undefined, Register}
use Rattle.frame_rows.specs.declared.instruction.Change.TheVariants.{Expression, ValueExpression, DefineCfa}
use Rattle.frame_rows.specs.declared.instruction.Change.TheVariants.{DefineCfaScaled}
use Rattle.frame_rows.specs.declared.instruction.Change.TheVariants.{CfaExpression, CfaRegister, CfaOffset}
use Rattle.frame_rows.specs.declared.instruction.Change.TheVariants.{CfaOffsetScaled, NegateSigned}
use Rattle.frame_rows.specs.declared.row.Machine.{Machine}
use Rattle.frame_rows.specs.declared.row.Machine.TheVariants.{X86_64, Aarch64}
use Rattle.frame_rows.specs.declared.row.Rule.{Rule}
use Rattle.frame_rows.specs.declared.row.Rule.TheVariants.{Value, Same, ValueExpression as SaidValue, Saved}
use Rattle.frame_rows.specs.declared.row.Rule.TheVariants.{Undefined as Lost, Register as Other, Expression as Said}
use Rattle.frame_rows.specs.declared.row.Cfa.{Cfa}
use Rattle.frame_rows.specs.declared.row.Cfa.TheVariants.{Based, Said as SaidCfa}
use Rattle.frame_rows.specs.declared.row.Row.{Row}
use Rattle.frame_rows.specs.declared.program.Frame.{Frame}

-- how many registers of a machine are followed, by its psABI
abbrev pub registers_of : Machine → ℕ
registers_of X86_64 = 17
registers_of Aarch64 = 32

-- the most bytes of an expression
abbrev pub longest_expression : ℕ
longest_expression = 256

-- the row with no rule
abbrev pub empty_row : Row
empty_row = record { cfa = None; rules = replicate 32 None; signed = false }

-- the rule of a register, if there is such a one
abbrev pub rule_at : Row → ℕ → Option Rule
rule_at row register = slice_index_or row.rules register None

-- a row with a register's rule changed
abbrev pub with_rule : Machine → Row → ℕ → Option Rule → Row
with_rule machine row register rule =
    if nat_lt register (registers_of machine) then record row { rules = slice_set row.rules register rule } else row

-- a row whose CFA is a register and an offset
abbrev pub with_cfa : Row → ℕ → ℕ → Row
with_cfa row register offset = record row { cfa = Some (Based register offset) }

-- a part of the CFA's rule changes, where it is a register and an offset
abbrev pub cfa_then : Option Cfa → ((register offset : ℕ) → Row) → Result Row Flaw
cfa_then None f = Err NoCfa
cfa_then (Some (Based register offset)) f = Ok (f register offset)
cfa_then (Some (SaidCfa start end)) f = Err NoCfa

-- a row with another offset of its CFA, where that is a register and an offset
abbrev pub with_offset : Row → ℕ → Result Row Flaw
with_offset row offset = cfa_then row.cfa (λ register former. with_cfa row register offset)

-- where an expression of so many bytes starts
abbrev pub start_of : (size end : ℕ) → Result ℕ Flaw
start_of size end = if nat_lt longest_expression size then Err LongExpression else Ok (end - size)

-- the row by where an expression starts, where that is short enough
abbrev pub start_then : Result ℕ Flaw → (ℕ → Row) → Result Row Flaw
start_then (Ok start) f = Ok (f start)
start_then (Err flaw) f = Err flaw

-- the return address is signed where it was not, and not where it was, on the machine that has that
abbrev pub negated : Machine → Row → Result Row Flaw
negated X86_64 row = Err OtherMachine
negated Aarch64 row = Ok (record row { signed = not row.signed })

-- so many times the data alignment, as a word
abbrev pub scaled : Frame → ℕ → ℕ
scaled frame factor = (factor * frame.scale) % 2 ^ 64

-- a row behind a change by an instruction that ends at a place
abbrev pub changed : Frame → (end : ℕ) → Change → Row → Result Row Flaw
changed f end Nop row = Ok row
changed f end (Offset r factor) row = Ok (with_rule f.machine row r (Some (Saved (scaled f factor))))
changed f end (ValueOffset r factor) row = Ok (with_rule f.machine row r (Some (Value (scaled f factor))))
changed f end (SameValue r) row = Ok (with_rule f.machine row r (Some Same))
changed f end (Restore r) row = Ok (with_rule f.machine row r (rule_at f.first r))
changed f end (Undefined r) row = Ok (with_rule f.machine row r (Some Lost))
changed f end (Register r other) row = Ok (with_rule f.machine row r (Some (Other other)))
changed f end (Expression r size) row =
    start_then (start_of size end) (λ start. with_rule f.machine row r (Some (Said start end)))
changed f end (ValueExpression r size) row =
    start_then (start_of size end) (λ start. with_rule f.machine row r (Some (SaidValue start end)))
changed f end (DefineCfa r offset) row = Ok (with_cfa row r offset)
changed f end (DefineCfaScaled r factor) row = Ok (with_cfa row r (scaled f factor))
changed f end (CfaExpression size) row =
    start_then (start_of size end) (λ start. record row { cfa = Some (SaidCfa start end) })
changed f end (CfaRegister r) row = cfa_then row.cfa (λ register offset. with_cfa row r offset)
changed f end (CfaOffset offset) row = with_offset row offset
changed f end (CfaOffsetScaled factor) row = with_offset row (scaled f factor)
changed f end NegateSigned row = negated f.machine row
