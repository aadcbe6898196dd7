-- Call frame instructions, by DWARF 5, section 6.4.2 and table 7.29. Which of them are taken is this project's
-- rule.
use Rattle.std.specs.Prelude.{◌≡◌, ℕ, ◌+◌, ◌-◌, nat_lt, ◌==◌, ◌||◌, List, [], ◌∷◌, ◌++◌}
use Rattle.std.specs.Prelude.{if◌then◌else◌, length, drop, ℤ, Option, Some, None, Result, Ok, Err}
use Rattle.std.specs.Int.{w64, cast_unsigned, is_in_range}
use Rattle.frame_rows.specs.declared.number.Number.{Number}
use Rattle.frame_rows.specs.declared.number.Flaw.{Flaw}
use Rattle.frame_rows.specs.declared.number.Flaw.TheVariants.{Cut, LongNumber, Unknown, NothingRemembered}
use Rattle.frame_rows.specs.declared.number.Flaw.TheVariants.{TooManyRemembered, NoCfa, LongExpression, OtherMachine}
use Rattle.frame_rows.specs.declared.instruction.Form.{Form}
use Rattle.frame_rows.specs.declared.instruction.Form.TheVariants.{Plain, OneByte, TwoBytes, FourBytes, One, Signed}
use Rattle.frame_rows.specs.declared.instruction.Form.TheVariants.{Two, OneSigned, Sized, Block}
use Rattle.frame_rows.specs.declared.instruction.Operands.{Operands}
use Rattle.frame_rows.specs.declared.instruction.Read.{Read}
use Rattle.frame_rows.specs.declared.instruction.Change.TheVariants.{CfaExpression, SameValue, ValueOffset}
use Rattle.frame_rows.specs.declared.instruction.Change.TheVariants.{ValueExpression, DefineCfaScaled, Nop, Offset}
use Rattle.frame_rows.specs.declared.instruction.Change.TheVariants.{Restore, Undefined, Register, Expression}
use Rattle.frame_rows.specs.declared.instruction.Change.TheVariants.{DefineCfa, CfaRegister, CfaOffset}
use Rattle.frame_rows.specs.declared.instruction.Change.TheVariants.{CfaOffsetScaled, NegateSigned}
use Rattle.frame_rows.specs.declared.instruction.Instruction.{Instruction}
use Rattle.frame_rows.specs.declared.instruction.Instruction.TheVariants.{Advance, Remember, Recall}
use Rattle.frame_rows.specs.declared.instruction.Instruction.TheVariants.{Change as changes}
use Rattle.frame_rows.specs.Numbers.{IsUnsigned, IsSigned, little, read_then, unsigned_in, signed_in, fixed_in}

-- ---- the table of opcodes

-- what stands behind each
abbrev pub form_of : ℕ → Option Form
form_of opcode =
    if is_in_range 192 255 opcode then Some Plain
    else if is_in_range 128 191 opcode then Some One
    else if is_in_range 64 127 opcode then Some Plain
    else if opcode == 0 || opcode == 10 || opcode == 11 || opcode == 45 then Some Plain
    else if opcode == 2 then Some OneByte
    else if opcode == 3 then Some TwoBytes
    else if opcode == 4 then Some FourBytes
    else if opcode == 6 || opcode == 7 || opcode == 8 || opcode == 13 || opcode == 14 || opcode == 46 then Some One
    else if opcode == 5 || opcode == 9 || opcode == 12 || opcode == 20 then Some Two
    else if opcode == 19 then Some Signed
    else if opcode == 15 then Some Sized
    else if opcode == 16 || opcode == 22 then Some Block
    else if opcode == 17 || opcode == 18 || opcode == 21 then Some OneSigned
    else None

-- what each means with its operands
abbrev pub meaning_of : ℕ → Operands → Instruction
meaning_of opcode o =
    if is_in_range 192 255 opcode then changes (Restore (opcode - 192))
    else if is_in_range 128 191 opcode then changes (Offset (opcode - 128) o.first)
    else if is_in_range 64 127 opcode then Advance (opcode - 64)
    else if is_in_range 2 4 opcode then Advance o.first
    else if opcode == 5 then changes (Offset o.first o.second)
    else if opcode == 6 then changes (Restore o.first)
    else if opcode == 7 then changes (Undefined o.first)
    else if opcode == 8 then changes (SameValue o.first)
    else if opcode == 9 then changes (Register o.first o.second)
    else if opcode == 10 then Remember
    else if opcode == 11 then Recall
    else if opcode == 12 then changes (DefineCfa o.first o.second)
    else if opcode == 13 then changes (CfaRegister o.first)
    else if opcode == 14 then changes (CfaOffset o.first)
    else if opcode == 15 then changes (CfaExpression o.first)
    else if opcode == 16 then changes (Expression o.first o.second)
    else if opcode == 17 then changes (Offset o.first o.second)
    else if opcode == 18 then changes (DefineCfaScaled o.first o.second)
    else if opcode == 19 then changes (CfaOffsetScaled o.first)
    else if opcode == 20 || opcode == 21 then changes (ValueOffset o.first o.second)
    else if opcode == 22 then changes (ValueExpression o.first o.second)
    else if opcode == 45 then changes NegateSigned
    else changes Nop

-- ---- what the standard says: these bytes and no more are the instruction

-- two operands, and how many bytes they have together; an operand that there isn't is 0
abbrev pub operands : (first second size : ℕ) → Operands
operands first second size = record { first = first; second = second; size = size }

-- a register, and an expression: its length and so many bytes (DWARF 5, `DW_CFA_expression`)
pub record IsBlock (text : List ℕ) (first size : ℕ) : Type 0 where
  pub one : List ℕ
  pub is_first : IsUnsigned one first
  pub two : List ℕ
  pub is_size : IsUnsigned two size
  pub block : List ℕ
  pub long : length block ≡ size
  pub parts : text ≡ one ++ (two ++ block)

-- a number, and so many bytes
pub record IsSized (text : List ℕ) (first : ℕ) : Type 0 where
  pub one : List ℕ
  pub is_first : IsUnsigned one first
  pub block : List ℕ
  pub long : length block ≡ first
  pub parts : text ≡ one ++ block

-- two unsigned numbers, one behind the other
pub record IsPair (text : List ℕ) (first second : ℕ) : Type 0 where
  pub one : List ℕ
  pub is_first : IsUnsigned one first
  pub two : List ℕ
  pub is_second : IsUnsigned two second
  pub parts : text ≡ one ++ two

-- an unsigned number, and then one with a sign, as a word
pub record IsSignedPair (text : List ℕ) (first second : ℕ) : Type 0 where
  pub one : List ℕ
  pub is_first : IsUnsigned one first
  pub two : List ℕ
  pub number : ℤ
  pub is_second : IsSigned two number
  pub as_word : second ≡ cast_unsigned w64 number
  pub parts : text ≡ one ++ two

-- a number with a sign, as a word
pub record IsSignedWord (text : List ℕ) (word : ℕ) : Type 0 where
  pub number : ℤ
  pub is : IsSigned text number
  pub as_word : word ≡ cast_unsigned w64 number

-- so many bytes that are a number
abbrev pub IsFixed : ℕ → List ℕ → ℕ → Type 0
IsFixed size text n = (length text ≡ size) × (n ≡ little text)

-- bytes are the operands that an opcode of this form has
abbrev pub AreOperands : Form → List ℕ → ℕ → ℕ → Type 0
AreOperands Plain text first second = (text ≡ []) × (first ≡ 0) × (second ≡ 0)
AreOperands OneByte text first second = IsFixed 1 text first × (second ≡ 0)
AreOperands TwoBytes text first second = IsFixed 2 text first × (second ≡ 0)
AreOperands FourBytes text first second = IsFixed 4 text first × (second ≡ 0)
AreOperands One text first second = IsUnsigned text first × (second ≡ 0)
AreOperands Signed text first second = IsSignedWord text first × (second ≡ 0)
AreOperands Two text first second = IsPair text first second
AreOperands OneSigned text first second = IsSignedPair text first second
AreOperands Sized text first second = IsSized text first × (second ≡ 0)
AreOperands Block text first second = IsBlock text first second

-- an opcode, and behind it its operands
pub record Spells (text : List ℕ) (i : Instruction) : Type 0 where
  pub opcode : ℕ
  pub form : Form
  pub is_form : form_of opcode ≡ Some form
  pub behind : List ℕ
  pub first : ℕ
  pub second : ℕ
  pub are_operands : AreOperands form behind first second
  pub parts : text ≡ opcode ∷ behind
  pub means : i ≡ meaning_of opcode (operands first second (length behind))

-- whatever stands behind some bytes, no instruction begins them
abbrev pub IsNever : List ℕ → Type 0
IsNever bytes = (more text rest : List ℕ) (i : Instruction) → bytes ++ more ≡ text ++ rest → ¬ Spells text i

-- why no instruction begins some bytes: they are the beginning of one; there is no such opcode; or there is, and
-- whatever stands behind, they begin none, which is so where a number is too long
abbrev pub IsFault : List ℕ → Flaw → Type 0
IsFault bytes Cut = (more : List ℕ) × ((i : Instruction) × Spells (bytes ++ more) i)
IsFault bytes (Unknown opcode) = (rest : List ℕ) × ((bytes ≡ opcode ∷ rest) × (form_of opcode ≡ None))
IsFault bytes LongNumber =
    (opcode : ℕ) × ((rest : List ℕ) × ((form : Form)
    × ((bytes ≡ opcode ∷ rest) × ((form_of opcode ≡ Some form) × IsNever bytes))))
IsFault bytes NothingRemembered = ⊥
IsFault bytes TooManyRemembered = ⊥
IsFault bytes NoCfa = ⊥
IsFault bytes LongExpression = ⊥
IsFault bytes OtherMachine = ⊥

-- ---- what a reader makes of bytes that may go on

-- the operand of so many bytes at the front of some bytes
abbrev pub fixed_operand : ℕ → List ℕ → Result Operands Flaw
fixed_operand size rest = read_then (fixed_in size rest) (λ n. Ok (operands n.value 0 n.size))

-- the one operand that is an unsigned number
abbrev pub one_operand : List ℕ → Result Operands Flaw
one_operand rest = read_then (unsigned_in rest) (λ first. Ok (operands first.value 0 first.size))

-- the one operand that is a number with a sign, as a word
abbrev pub signed_operand : List ℕ → Result Operands Flaw
signed_operand rest = read_then (signed_in rest) (λ first. Ok (operands (cast_unsigned w64 first.value) 0 first.size))

-- the length and so many bytes behind it, where they are all there
abbrev pub sized_within : ℕ → Number → Result Operands Flaw
sized_within len first =
    if nat_lt (len - first.size) first.value then Err Cut else Ok (operands first.value 0 (first.size + first.value))

-- the operand that is an expression: its length, and so many bytes
abbrev pub sized_operands : List ℕ → Result Operands Flaw
sized_operands rest = read_then (unsigned_in rest) (sized_within (length rest))

-- a register, a length and so many bytes behind it, where they are all there
abbrev pub block_within : ℕ → Number → Number → Result Operands Flaw
block_within len first size =
    if nat_lt (len - (first.size + size.size)) size.value then Err Cut
    else Ok (operands first.value size.value (first.size + size.size + size.value))

-- what goes on with the unsigned number behind a first one
abbrev pub second_then : List ℕ → Number → (Number → Result Operands Flaw) → Result Operands Flaw
second_then rest first f = read_then (unsigned_in (drop first.size rest)) f

-- a register, and an expression: its length, and so many bytes
abbrev pub block_operands : List ℕ → Result Operands Flaw
block_operands rest = read_then (unsigned_in rest) (λ first.
    second_then rest first (block_within (length rest) first))

-- the two operands that are unsigned numbers
abbrev pub two_operands : List ℕ → Result Operands Flaw
two_operands rest = read_then (unsigned_in rest) (λ first.
    second_then rest first (λ second. Ok (operands first.value second.value (first.size + second.size))))

-- an unsigned number, and one with a sign, as a word
abbrev pub signed_operands : List ℕ → Result Operands Flaw
signed_operands rest = read_then (unsigned_in rest) (λ first.
    read_then (signed_in (drop first.size rest)) (λ second.
    Ok (operands first.value (cast_unsigned w64 second.value) (first.size + second.size))))

-- the operands of a form at the front of some bytes, or why there are none
unfoldable pub operands_in : Form → List ℕ → Result Operands Flaw
operands_in Plain rest = Ok (operands 0 0 0)
operands_in OneByte rest = fixed_operand 1 rest
operands_in TwoBytes rest = fixed_operand 2 rest
operands_in FourBytes rest = fixed_operand 4 rest
operands_in One rest = one_operand rest
operands_in Signed rest = signed_operand rest
operands_in Two rest = two_operands rest
operands_in OneSigned rest = signed_operands rest
operands_in Sized rest = sized_operands rest
operands_in Block rest = block_operands rest

-- the instruction that an opcode is with its operands, and how many bytes it has
abbrev pub read_of : ℕ → Operands → Result Read Flaw
read_of opcode o = Ok (record { instruction = meaning_of opcode o; size = 1 + o.size })

-- the instruction of an opcode by its form; without a form the opcode is not known
abbrev pub formed_in : ℕ → List ℕ → Option Form → Result Read Flaw
formed_in opcode rest None = Err (Unknown opcode)
formed_in opcode rest (Some form) = read_then (operands_in form rest) (read_of opcode)

-- the instruction at the front of some bytes, or why there is none
unfoldable pub instruction_in : List ℕ → Result Read Flaw
instruction_in [] = Err Cut
instruction_in (opcode ∷ rest) = formed_in opcode rest (form_of opcode)
