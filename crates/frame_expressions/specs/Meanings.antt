-- What operations mean, by DWARF 5, section 2.5.1: each makes a stack of words into another, by what registers and
-- memory have. How deep a stack may be is this project's rule.
use Rattle.std.specs.Prelude.{ℕ, ◌+◌, ◌-◌, ◌*◌, ◌/◌, ◌%◌, ◌^◌, nat_eq, nat_lt, not, Bool, List, ◌∷◌, length}
use Rattle.std.specs.Prelude.{bit_and, bit_or, bit_xor, int_lt, int_le, if◌then◌else◌, Option, Some, None}
use Rattle.std.specs.Int.{w64, cast_signed}
use Rattle.frame_expressions.specs.declared.operation.Combination.{Combination}
use Rattle.frame_expressions.specs.declared.operation.Combination.TheVariants.{Plus, Minus, Multiply, And, Or, Xor}
use Rattle.frame_expressions.specs.declared.operation.Combination.TheVariants.{ShiftLeft}
use Rattle.frame_expressions.specs.declared.operation.Combination.TheVariants.{ShiftRight, Equal, NotEqual, AtLeast}
use Rattle.frame_expressions.specs.declared.operation.Combination.TheVariants.{Greater}
use Rattle.frame_expressions.specs.declared.operation.Combination.TheVariants.{AtMost, Less}
use Rattle.frame_expressions.specs.declared.operation.Operation.{Operation}
use Rattle.frame_expressions.specs.declared.operation.Operation.TheVariants.{Push, Register, Combine, PlusConstant}
use Rattle.frame_expressions.specs.declared.operation.Operation.TheVariants.{Load, Drop}
use Rattle.frame_expressions.specs.declared.operation.Operation.TheVariants.{Duplicate, Over, Swap, Nop}

-- 1 for what is so
abbrev pub word_of : Bool → ℕ
word_of b = if b then 1 else 0

-- a word of 64 bits shifted left; 0 where that is by 64 bits or more (DWARF 5, `DW_OP_shl`)
abbrev pub shifted_left : ℕ → ℕ → ℕ
shifted_left left right = if nat_lt right 64 then (left * 2 ^ right) % 2 ^ 64 else 0

-- a word shifted right, with zeros from above; 0 where that is by 64 bits or more (DWARF 5, `DW_OP_shr`)
abbrev pub shifted_right : ℕ → ℕ → ℕ
shifted_right left right = if nat_lt right 64 then left / 2 ^ right else 0

-- what two words come to; they are compared as numbers with signs
abbrev pub combined : Combination → (left right : ℕ) → ℕ
combined Plus left right = (left + right) % 2 ^ 64
combined Minus left right = (left + (2 ^ 64 - right)) % 2 ^ 64
combined Multiply left right = (left * right) % 2 ^ 64
combined And left right = bit_and left right
combined Or left right = bit_or left right
combined Xor left right = bit_xor left right
combined ShiftLeft left right = shifted_left left right
combined ShiftRight left right = shifted_right left right
combined Equal left right = word_of (nat_eq left right)
combined NotEqual left right = word_of (not (nat_eq left right))
combined AtLeast left right = word_of (int_le (cast_signed w64 right) (cast_signed w64 left))
combined Greater left right = word_of (int_lt (cast_signed w64 right) (cast_signed w64 left))
combined AtMost left right = word_of (int_le (cast_signed w64 left) (cast_signed w64 right))
combined Less left right = word_of (int_lt (cast_signed w64 left) (cast_signed w64 right))

-- ---- stacks, the top first

-- how many words a stack has at most
abbrev pub deepest : ℕ
deepest = 64

-- a stack with one more word, where there is room
abbrev pub pushed : ℕ → List ℕ → Option (List ℕ)
pushed word stack = if nat_lt (length stack) deepest then Some (word ∷ stack) else None

-- a stack with one more word, where that is known and there is room
abbrev pub pushed_if : Option ℕ → List ℕ → Option (List ℕ)
pushed_if None stack = None
pushed_if (Some word) stack = pushed word stack

-- what a register has and so much more goes on a stack
abbrev pub based : Option ℕ → ℕ → List ℕ → Option (List ℕ)
based None offset stack = None
based (Some word) offset stack = pushed ((word + offset) % 2 ^ 64) stack

-- what an operation makes of a stack, where registers have words, and so many bytes of memory at an address; none
-- where a word of the stack, of a register or of memory isn't there, or there is no room
abbrev pub meaning_of : (register : ℕ → Option ℕ) (memory : (address size : ℕ) → Option ℕ)
    → Operation → List ℕ → Option (List ℕ)
meaning_of register memory (Push word) stack = pushed word stack
meaning_of register memory (Register number offset) stack = based (register number) offset stack
meaning_of register memory (Combine c) (top ∷ (below ∷ stack)) = pushed (combined c below top) stack
meaning_of register memory (PlusConstant n) (top ∷ stack) = pushed ((top + n) % 2 ^ 64) stack
meaning_of register memory (Load size) (top ∷ stack) = pushed_if (memory top size) stack
meaning_of register memory Drop (top ∷ stack) = Some stack
meaning_of register memory Duplicate (top ∷ stack) = pushed top (top ∷ stack)
meaning_of register memory Over (top ∷ (below ∷ stack)) = pushed below (top ∷ (below ∷ stack))
meaning_of register memory Swap (top ∷ (below ∷ stack)) = Some (below ∷ (top ∷ stack))
meaning_of register memory Nop stack = Some stack
meaning_of register memory o stack = None
