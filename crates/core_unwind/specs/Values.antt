-- What the rules of a row come to, by DWARF 5, section 6.4.1.
use Rattle.std.specs.Prelude.{ℕ, zero, suc, ◌+◌, ◌%◌, ◌^◌, nat_lt, if◌then◌else◌, List, [], ◌∷◌, Option, Some, None}
use Rattle.process_memory.specs.Memory.{Memory}
use Rattle.frame_rows.specs.declared.row.Cfa.{Cfa}
use Rattle.frame_rows.specs.declared.row.Cfa.TheVariants.{Based, Said}
use Rattle.frame_rows.specs.declared.row.Row.{Row}
use Rattle.frame_rows.specs.declared.row.Rule.{Rule}
use Rattle.frame_rows.specs.declared.row.Rule.TheVariants.{Undefined, Saved, Value, Same, Register, Expression}
use Rattle.frame_rows.specs.declared.row.Rule.TheVariants.{ValueExpression}
use Rattle.frame_rows.specs.Rows.{rule_at}
use Rattle.frame_tables.specs.Rows.{expression_of}
use Rattle.core_unwind.specs.declared.value.Rules.{Rules}
use Rattle.core_unwind.specs.Expressions.{evaluated, word_in}
use Rattle.core_unwind.specs.Registers.{kept, register_in}

-- what an expression comes to, where its bytes are in the table
abbrev pub evaluated_if : List (Option ℕ) → Memory → Option ℕ → Option (List ℕ) → Option ℕ
evaluated_if registers m first None = None
evaluated_if registers m first (Some bytes) = evaluated registers m first bytes

-- what an expression of the row comes to
abbrev pub expressed : Rules → List (Option ℕ) → Memory → (first : Option ℕ) → (start end : ℕ) → Option ℕ
expressed rules registers m first start end =
    evaluated_if registers m first (expression_of rules.table rules.entry start end)

-- a word and so much more
abbrev pub moved_by : ℕ → Option ℕ → Option ℕ
moved_by offset None = None
moved_by offset (Some word) = Some ((word + offset) % 2 ^ 64)

-- the CFA by its rule: a register and an offset, or an expression; none without a rule
abbrev pub cfa_by : Rules → List (Option ℕ) → Memory → Option Cfa → Option ℕ
cfa_by rules registers m None = None
cfa_by rules registers m (Some (Based register offset)) = moved_by offset (register_in registers register)
cfa_by rules registers m (Some (Said start end)) = expressed rules registers m None start end

-- the canonical frame address, where it is known
abbrev pub cfa_of : Rules → List (Option ℕ) → Memory → Option ℕ
cfa_of rules registers m = cfa_by rules registers m rules.row.cfa

-- the word at an address that may not be known
abbrev pub word_if : Memory → Option ℕ → Option ℕ
word_if m None = None
word_if m (Some address) = word_in m address

-- the word where an expression says
abbrev pub saved_at : Rules → List (Option ℕ) → Memory → (cfa start end : ℕ) → Option ℕ
saved_at rules registers m cfa start end = word_if m (expressed rules registers m (Some cfa) start end)

-- the rule of a register, if there is such a one
abbrev pub rule_of : Row → ℕ → Option Rule
rule_of row register = if nat_lt register 32 then rule_at row register else None

-- what the caller had in a register, by its rule; without one, as the psABI has it
abbrev pub value_by : Rules → List (Option ℕ) → Memory → (cfa register : ℕ) → Option Rule → Option ℕ
value_by rules registers m cfa register None = kept rules.entry.convention.machine registers cfa register
value_by rules registers m cfa register (Some Undefined) = None
value_by rules registers m cfa register (Some (Saved offset)) = word_in m ((cfa + offset) % 2 ^ 64)
value_by rules registers m cfa register (Some (Value offset)) = Some ((cfa + offset) % 2 ^ 64)
value_by rules registers m cfa register (Some Same) = register_in registers register
value_by rules registers m cfa register (Some (Register other)) = register_in registers other
value_by rules registers m cfa register (Some (Expression start end)) = saved_at rules registers m cfa start end
value_by rules registers m cfa register (Some (ValueExpression start end)) =
    expressed rules registers m (Some cfa) start end

-- what the caller had in a register, where it is known
abbrev pub value_of : Rules → List (Option ℕ) → Memory → (cfa register : ℕ) → Option ℕ
value_of rules registers m cfa register = value_by rules registers m cfa register (rule_of rules.row register)

-- the values of so many registers from one on
unfoldable pub listed : (ℕ → Option ℕ) → (at count : ℕ) → List (Option ℕ)
listed value at zero = []
listed value at (suc count) = value at ∷ listed value (at + 1) count
