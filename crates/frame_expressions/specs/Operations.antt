-- Operations of expressions, by DWARF 5, section 2.5.1 and table 7.9, with little-endian numbers. Which of them are
-- taken is this project's rule: those that end, and that call frames have.
use Rattle.std.specs.Prelude.{◌≡◌, ℕ, ◌+◌, ◌-◌, ◌*◌, ◌^◌, ◌%◌, nat_lt, ◌==◌, ◌||◌, List, [], ◌∷◌, ◌++◌, if◌then◌else◌}
use Rattle.std.specs.Prelude.{length}
use Rattle.std.specs.Prelude.{Option, Some, None, Result, Ok, Err}
use Rattle.std.specs.Int.{w64, cast_unsigned, is_in_range}
use Rattle.frame_rows.specs.declared.number.Flaw.{Flaw}
use Rattle.frame_rows.specs.declared.number.Flaw.TheVariants.{Cut, Unknown}
use Rattle.frame_rows.specs.declared.number.Number.{Number}
use Rattle.frame_rows.specs.Numbers.{IsUnsigned, little, read_then, unsigned_in, signed_in, fixed_in}
use Rattle.frame_rows.specs.Instructions.{IsSignedWord}
use Rattle.frame_expressions.specs.declared.operation.Combination.{Combination}
use Rattle.frame_expressions.specs.declared.operation.Combination.TheVariants.{Plus, Minus, Multiply, And, Or, Xor}
use Rattle.frame_expressions.specs.declared.operation.Combination.TheVariants.{ShiftLeft}
use Rattle.frame_expressions.specs.declared.operation.Combination.TheVariants.{ShiftRight, Equal, NotEqual, AtLeast}
use Rattle.frame_expressions.specs.declared.operation.Combination.TheVariants.{Greater}
use Rattle.frame_expressions.specs.declared.operation.Combination.TheVariants.{AtMost, Less}
use Rattle.frame_expressions.specs.declared.operation.Form.{Form}
use Rattle.frame_expressions.specs.declared.operation.Form.TheVariants.{Plain, One, Two, Four, Eight, OneSigned}
use Rattle.frame_expressions.specs.declared.operation.Form.TheVariants.{TwoSigned}
use Rattle.frame_expressions.specs.declared.operation.Form.TheVariants.{FourSigned, Unsigned, Signed}
use Rattle.frame_expressions.specs.declared.operation.Operation.{Operation}
use Rattle.frame_expressions.specs.declared.operation.Operation.TheVariants.{Push, Register, Combine, PlusConstant}
use Rattle.frame_expressions.specs.declared.operation.Operation.TheVariants.{Load, Drop}
use Rattle.frame_expressions.specs.declared.operation.Operation.TheVariants.{Duplicate, Over, Swap, Nop}
use Rattle.frame_expressions.specs.declared.operation.Read.{Read}

-- ---- the table of opcodes

-- what stands behind each
abbrev pub form_of : ℕ → Option Form
form_of opcode =
    if is_in_range 48 79 opcode then Some Plain
    else if is_in_range 112 143 opcode then Some Signed
    else if opcode == 8 || opcode == 148 then Some One
    else if opcode == 9 then Some OneSigned
    else if opcode == 10 then Some Two
    else if opcode == 11 then Some TwoSigned
    else if opcode == 12 then Some Four
    else if opcode == 13 then Some FourSigned
    else if opcode == 14 || opcode == 15 then Some Eight
    else if opcode == 16 || opcode == 35 then Some Unsigned
    else if opcode == 17 then Some Signed
    else if opcode == 6 || opcode == 18 || opcode == 19 || opcode == 20 || opcode == 22 || opcode == 150 then Some Plain
    else if opcode == 26 || opcode == 28 || opcode == 30 || opcode == 33 then Some Plain
    else if opcode == 34 || opcode == 36 || opcode == 37 || opcode == 39 then Some Plain
    else if is_in_range 41 46 opcode then Some Plain
    else None

-- which combination of two words each opcode is
abbrev pub combination_of : ℕ → Combination
combination_of opcode =
    if opcode == 26 then And
    else if opcode == 28 then Minus
    else if opcode == 30 then Multiply
    else if opcode == 33 then Or
    else if opcode == 34 then Plus
    else if opcode == 36 then ShiftLeft
    else if opcode == 37 then ShiftRight
    else if opcode == 39 then Xor
    else if opcode == 41 then Equal
    else if opcode == 42 then AtLeast
    else if opcode == 43 then Greater
    else if opcode == 44 then AtMost
    else if opcode == 45 then Less
    else NotEqual

-- what each means with its operand
abbrev pub operation_of : ℕ → ℕ → Operation
operation_of opcode operand =
    if is_in_range 48 79 opcode then Push (opcode - 48)
    else if is_in_range 112 143 opcode then Register (opcode - 112) operand
    else if is_in_range 8 17 opcode then Push operand
    else if opcode == 6 then Load 8
    else if opcode == 148 then Load operand
    else if opcode == 18 then Duplicate
    else if opcode == 19 then Drop
    else if opcode == 20 then Over
    else if opcode == 22 then Swap
    else if opcode == 35 then PlusConstant operand
    else if opcode == 150 then Nop
    else Combine (combination_of opcode)

-- ---- what the standard says: these bytes and no more are the operation

-- a number below `2 * half` as one with a sign, as a word
abbrev pub with_sign : (half number : ℕ) → ℕ
with_sign half number = if nat_lt number half then number else (number + (2 ^ 64 - 2 * half)) % 2 ^ 64

-- bytes are the operand that an opcode of this form has, as a word
abbrev pub IsOperand : Form → List ℕ → ℕ → Type 0
IsOperand Plain text word = (text ≡ []) × (word ≡ 0)
IsOperand One text word = (length text ≡ 1) × (word ≡ little text)
IsOperand Two text word = (length text ≡ 2) × (word ≡ little text)
IsOperand Four text word = (length text ≡ 4) × (word ≡ little text)
IsOperand Eight text word = (length text ≡ 8) × (word ≡ little text)
IsOperand OneSigned text word = (length text ≡ 1) × (word ≡ with_sign 0x80 (little text))
IsOperand TwoSigned text word = (length text ≡ 2) × (word ≡ with_sign 0x8000 (little text))
IsOperand FourSigned text word = (length text ≡ 4) × (word ≡ with_sign 0x80000000 (little text))
IsOperand Unsigned text word = IsUnsigned text word
IsOperand Signed text word = IsSignedWord text word

-- an opcode, and behind it its operand
pub record Spells (text : List ℕ) (o : Operation) : Type 0 where
  pub opcode : ℕ
  pub form : Form
  pub is_form : form_of opcode ≡ Some form
  pub behind : List ℕ
  pub word : ℕ
  pub is_operand : IsOperand form behind word
  pub parts : text ≡ opcode ∷ behind
  pub means : o ≡ operation_of opcode word

-- bytes that begin with an operation, which has so many
pub record IsFirst (bytes : List ℕ) (r : Read) : Type 0 where
  pub text : List ℕ
  pub behind : List ℕ
  pub parts : bytes ≡ text ++ behind
  pub spells : Spells text r.operation
  pub long : r.size ≡ length text

-- an operation that was read, and how many bytes it has
abbrev pub read : Operation → ℕ → Read
read operation size = record { operation = operation; size = size }

-- ---- what a reader makes of bytes that may go on

-- a number of fewer bytes with its sign, as a word; `half` is the first that is negative
abbrev pub widened : ℕ → Number → Number
widened half n = record { value = with_sign half n.value; size = n.size }

-- the number with a sign of so many bytes at the front of some bytes
abbrev pub signed_fixed : (size half : ℕ) → List ℕ → Result Number Flaw
signed_fixed size half rest = read_then (fixed_in size rest) (λ n. Ok (widened half n))

-- the operand of a form at the front of some bytes, or why there is none
unfoldable pub operand_in : Form → List ℕ → Result Number Flaw
operand_in Plain rest = Ok (record { value = 0; size = 0 })
operand_in One rest = fixed_in 1 rest
operand_in Two rest = fixed_in 2 rest
operand_in Four rest = fixed_in 4 rest
operand_in Eight rest = fixed_in 8 rest
operand_in OneSigned rest = signed_fixed 1 0x80 rest
operand_in TwoSigned rest = signed_fixed 2 0x8000 rest
operand_in FourSigned rest = signed_fixed 4 0x80000000 rest
operand_in Unsigned rest = unsigned_in rest
operand_in Signed rest =
    read_then (signed_in rest) (λ n. Ok (record { value = cast_unsigned w64 n.value; size = n.size }))

-- the operation that an opcode is with its operand, and how many bytes it has
abbrev pub read_of : ℕ → Number → Result Read Flaw
read_of opcode n = Ok (read (operation_of opcode n.value) (1 + n.size))

-- the operation of an opcode by its form; without a form the opcode is not known
abbrev pub formed_in : ℕ → List ℕ → Option Form → Result Read Flaw
formed_in opcode rest None = Err (Unknown opcode)
formed_in opcode rest (Some form) = read_then (operand_in form rest) (read_of opcode)

-- the operation at the front of some bytes, or why there is none
unfoldable pub operation_in : List ℕ → Result Read Flaw
operation_in [] = Err Cut
operation_in (opcode ∷ rest) = formed_in opcode rest (form_of opcode)
