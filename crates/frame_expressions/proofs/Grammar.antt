-- Operations that are spelled are those that are read, and the other way round.
use Rattle.std.proofs.Common.{◌≡◌, ◌∙◌, ℕ, ℤ, ◌+◌, ◌≢◌, List, [], ◌∷◌, ◌++◌, length, drop, get_or, refl, sym, ap, arith}
use Rattle.std.specs.Prelude.{Option, Some, None, Result, Ok, Err, IfOk}
use Rattle.std.specs.Int.{w64, cast_unsigned}
use Rattle.frame_rows.specs.declared.number.Flaw.{Flaw}
use Rattle.frame_rows.specs.declared.number.Flaw.TheVariants.{Cut}
use Rattle.frame_rows.specs.declared.number.Number.{Number}
use Rattle.frame_rows.specs.declared.number.SignedNumber.{SignedNumber}
use Rattle.frame_rows.specs.Numbers.{IsSigned, little, read_then, signed_in, fixed_in}
use Rattle.frame_rows.proofs.Spelled.{then_ok, Sleb, sleb_read, sleb_back, fixed_read, fixed_back}
use Rattle.frame_rows.proofs.Grammar.{unsigned_read, unsigned_back}
use Rattle.frame_expressions.specs.declared.operation.Form.{Form}
use Rattle.frame_expressions.specs.declared.operation.Form.TheVariants.{Plain, One, Two, Four, Eight, OneSigned}
use Rattle.frame_expressions.specs.declared.operation.Form.TheVariants.{TwoSigned}
use Rattle.frame_expressions.specs.declared.operation.Form.TheVariants.{FourSigned, Unsigned, Signed}
use Rattle.frame_expressions.specs.declared.operation.Operation.{Operation}
use Rattle.frame_expressions.specs.declared.operation.Read.{Read}
use Rattle.frame_expressions.specs.Operations.{form_of, operation_of, with_sign, widened, signed_fixed, IsOperand}
use Rattle.frame_expressions.specs.Operations.{Spells, IsFirst}
use Rattle.frame_expressions.specs.Operations.{operand_in, read, read_of, formed_in, operation_in}

same_number : (v w s t : ℕ) → v ≡ w → s ≡ t
    → ◌≡◌ {A = Result Number Flaw} (Ok (record { value = v; size = s })) (Ok (record { value = w; size = t }))
same_number v w s t value size = rw (value, size) refl

signed_read : (bytes : List ℕ) (u : SignedNumber) → signed_in bytes ≡ Ok u → Sleb 9 bytes u
unfolding signed_in
signed_read bytes u is = sleb_read 9 bytes u is

signed_back : (text rest : List ℕ) (n : ℤ) → IsSigned text n
    → signed_in (text ++ rest) ≡ Ok (record { value = n; size = length text })
unfolding signed_in
signed_back text rest n is = sleb_back 9 text rest n is.0 is.1

-- ---- operands

record Spelled (form : Form) (bytes : List ℕ) (n : Number) : Type 0 where
  pub text : List ℕ
  pub behind : List ℕ
  pub parts : bytes ≡ text ++ behind
  pub is : IsOperand form text n.value
  pub long : n.size ≡ length text

-- a number of so many bytes, with a sign
record Narrow (size half : ℕ) (bytes : List ℕ) (n : Number) : Type 0 where
  pub text : List ℕ
  pub behind : List ℕ
  pub parts : bytes ≡ text ++ behind
  pub exact : length text ≡ size
  pub is : n.value ≡ with_sign half (little text)
  pub long : n.size ≡ length text

narrow_read : (size half : ℕ) (bytes : List ℕ) (n : Number) → signed_fixed size half bytes ≡ Ok n
    → Narrow size half bytes n
narrow_read size half bytes n is =
    let m = then_ok (fixed_in size bytes) (λ m. Ok (widened half m)) n is in
    let found = fixed_read size bytes m.0 m.1 in
    let same = same_widened half m.0 n m.2 in
    record {
      text = found.text;
      behind = found.behind;
      parts = found.parts;
      exact = found.exact;
      is = sym (ap (λ (x : Number). x.value) same) ∙ ap (with_sign half) found.is;
      long = sym (ap (λ (x : Number). x.size) same) ∙ found.long;
    } where
      same_widened : (half : ℕ) (m n : Number) → ◌≡◌ {A = Result Number Flaw} (Ok (widened half m)) (Ok n)
          → widened half m ≡ n
      same_widened half m n e = cc

abbrev word : SignedNumber → Result Number Flaw
word n = Ok (record { value = cast_unsigned w64 n.value; size = n.size })

same_word : (m : SignedNumber) (n : Number) → word m ≡ Ok n
    → record { value = cast_unsigned w64 m.value; size = m.size } ≡ n
same_word m n e = cc

signed_word_read : (bytes : List ℕ) (n : Number) → operand_in Signed bytes ≡ Ok n → Spelled Signed bytes n
unfolding operand_in
signed_word_read bytes n is =
    let m = then_ok (signed_in bytes) word n is in
    let found = signed_read bytes m.0 m.1 in
    let same = same_word m.0 n m.2 in
    record {
      text = found.text;
      behind = found.behind;
      parts = found.parts;
      is = record {
        number = m.0.value;
        is = (found.is, found.short);
        as_word = sym (ap (λ (x : Number). x.value) same);
      };
      long = sym (ap (λ (x : Number). x.size) same) ∙ found.long;
    }

nothing_read : (bytes : List ℕ) (n : Number) → ◌≡◌ {A = Result Number Flaw} (Ok (record { value = 0; size = 0 })) (Ok n)
    → Spelled Plain bytes n
nothing_read bytes n is =
    let same : record { value = 0; size = 0 } ≡ n = cc in
    record {
      text = [];
      behind = bytes;
      parts = refl;
      is = (refl, sym (ap (λ (x : Number). x.value) same));
      long = sym (ap (λ (x : Number). x.size) same);
    }

operand_read : (form : Form) (bytes : List ℕ) (n : Number) → operand_in form bytes ≡ Ok n → Spelled form bytes n
unfolding operand_in
operand_read Plain bytes n is = nothing_read bytes n is
operand_read One bytes n is =
    let f = fixed_read 1 bytes n is in
    record { text = f.text; behind = f.behind; parts = f.parts; is = (f.exact, f.is); long = f.long }
operand_read Two bytes n is =
    let f = fixed_read 2 bytes n is in
    record { text = f.text; behind = f.behind; parts = f.parts; is = (f.exact, f.is); long = f.long }
operand_read Four bytes n is =
    let f = fixed_read 4 bytes n is in
    record { text = f.text; behind = f.behind; parts = f.parts; is = (f.exact, f.is); long = f.long }
operand_read Eight bytes n is =
    let f = fixed_read 8 bytes n is in
    record { text = f.text; behind = f.behind; parts = f.parts; is = (f.exact, f.is); long = f.long }
operand_read OneSigned bytes n is =
    let f = narrow_read 1 0x80 bytes n is in
    record { text = f.text; behind = f.behind; parts = f.parts; is = (f.exact, f.is); long = f.long }
operand_read TwoSigned bytes n is =
    let f = narrow_read 2 0x8000 bytes n is in
    record { text = f.text; behind = f.behind; parts = f.parts; is = (f.exact, f.is); long = f.long }
operand_read FourSigned bytes n is =
    let f = narrow_read 4 0x80000000 bytes n is in
    record { text = f.text; behind = f.behind; parts = f.parts; is = (f.exact, f.is); long = f.long }
operand_read Unsigned bytes n is =
    let u = unsigned_read bytes n is in
    record { text = u.text; behind = u.behind; parts = u.parts; is = (u.is, u.short); long = u.long }
operand_read Signed bytes n is = signed_word_read bytes n is

fixed_is : (size : ℕ) (text rest : List ℕ) (word : ℕ) → length text ≡ size → word ≡ little text
    → fixed_in size (text ++ rest) ≡ Ok (record { value = word; size = length text })
fixed_is size text rest word long is =
    fixed_back size text rest long ∙ same_number (little text) word (length text) (length text) (sym is) refl

narrow_is : (size half : ℕ) (text rest : List ℕ) (word : ℕ) → length text ≡ size → word ≡ with_sign half (little text)
    → signed_fixed size half (text ++ rest) ≡ Ok (record { value = word; size = length text })
narrow_is size half text rest word long is =
    ap (λ (r : Result Number Flaw). read_then r (λ n. Ok (widened half n))) (fixed_back size text rest long)
    ∙ same_number (with_sign half (little text)) word (length text) (length text) (sym is) refl

operand_back : (form : Form) (text rest : List ℕ) (word : ℕ) → IsOperand form text word
    → operand_in form (text ++ rest) ≡ Ok (record { value = word; size = length text })
unfolding operand_in
operand_back Plain text rest word is = same_number 0 word 0 (length text) (sym is.1) (sym (ap length is.0))
operand_back One text rest word is = fixed_is 1 text rest word is.0 is.1
operand_back Two text rest word is = fixed_is 2 text rest word is.0 is.1
operand_back Four text rest word is = fixed_is 4 text rest word is.0 is.1
operand_back Eight text rest word is = fixed_is 8 text rest word is.0 is.1
operand_back OneSigned text rest word is = narrow_is 1 0x80 text rest word is.0 is.1
operand_back TwoSigned text rest word is = narrow_is 2 0x8000 text rest word is.0 is.1
operand_back FourSigned text rest word is = narrow_is 4 0x80000000 text rest word is.0 is.1
operand_back Unsigned text rest word is = unsigned_back text rest word is
operand_back Signed text rest word is =
    ap
    (λ (r : Result SignedNumber Flaw). read_then r
    (λ n. Ok (record { value = cast_unsigned w64 n.value; size = n.size }))) (signed_back text rest is.number is.is)
    ∙ same_number (cast_unsigned w64 is.number) word (length text) (length text) (sym is.as_word) refl

-- ---- operations

same_read : (o p : Operation) (m n : ℕ) → o ≡ p → m ≡ n → ◌≡◌ {A = Result Read Flaw} (Ok (read o m)) (Ok (read p n))
same_read o p m n is long = rw (is, long) refl

opcode_back : (opcode : ℕ) (form : Form) (behind : List ℕ) (word : ℕ) (rest : List ℕ) → form_of opcode ≡ Some form
    → IsOperand form behind word
    → operation_in (opcode ∷ (behind ++ rest)) ≡ Ok (read (operation_of opcode word) (1 + length behind))
unfolding operation_in
opcode_back opcode form behind word rest is operand =
    ap (formed_in opcode (behind ++ rest)) is
    ∙ ap (λ (r : Result Number Flaw). read_then r (read_of opcode)) (operand_back form behind rest word operand)

-- an operation that is spelled is read
pub spelled_read : (text rest : List ℕ) (o : Operation) → Spells text o
    → operation_in (text ++ rest) ≡ Ok (read o (length text))
spelled_read text rest o s =
    ap (λ (l : List ℕ). operation_in (l ++ rest)) s.parts
    ∙ opcode_back s.opcode s.form s.behind s.word rest s.is_form s.is_operand
    ∙ same_read (operation_of s.opcode s.word) o (1 + length s.behind) (length text) (sym s.means)
    (omega (arith, ap length s.parts))

form_then : (opcode : ℕ) (rest : List ℕ) (form : Option Form) (r : Read) → formed_in opcode rest form ≡ Ok r
    → (f : Form) × (form ≡ Some f) × (read_then (operand_in f rest) (read_of opcode) ≡ Ok r)
form_then opcode rest None r is = absurd cc
form_then opcode rest (Some f) r is = (f, refl, is)

-- an operation that is read is spelled
pub read_spelled : (bytes : List ℕ) (r : Read) → operation_in bytes ≡ Ok r → IsFirst bytes r
unfolding operation_in
read_spelled [] r is = absurd cc
read_spelled (opcode ∷ rest) r is =
    let form = form_then opcode rest (form_of opcode) r is in
    let n = then_ok (operand_in form.0 rest) (read_of opcode) r form.2 in
    found opcode rest r form.0 n.0 form.1 (operand_read form.0 rest n.0 n.1) n.2 where
      found : (opcode : ℕ) (rest : List ℕ) (r : Read) (form : Form) (n : Number) → form_of opcode ≡ Some form
          → Spelled form rest n
          → read_of opcode n ≡ Ok r → IsFirst (opcode ∷ rest) r
      found opcode rest r form n is operand joined =
          let same : read (operation_of opcode n.value) (1 + n.size) ≡ r = cc in
          record {
            text = opcode ∷ operand.text;
            behind = operand.behind;
            parts = ap (λ (l : List ℕ). opcode ∷ l) operand.parts;
            spells = record {
              opcode = opcode;
              form = form;
              is_form = is;
              behind = operand.text;
              word = n.value;
              is_operand = operand.is;
              parts = refl;
              means = sym (ap (λ (x : Read). x.operation) same);
            };
            long = sym (ap (λ (x : Read). x.size) same) ∙ omega (arith, operand.long);
          }

-- ---- what is read, one step behind another

pub empty_is : (bytes : List ℕ) → length bytes ≡ 0 → operation_in bytes ≡ Err Cut
unfolding operation_in
empty_is [] none = refl
empty_is (b ∷ bytes) none = absurd (omega (arith, none))

pub operation_begins : (bytes : List ℕ) → length bytes ≢ 0
    → operation_in bytes ≡ formed_in (get_or bytes 0 0) (drop 1 bytes) (form_of (get_or bytes 0 0))
unfolding operation_in
operation_begins [] some = absurd (some refl)
operation_begins (b ∷ bytes) some = refl

pub operand_follows : (bytes : List ℕ) (form : Form) (n : Result Number Flaw) → length bytes ≢ 0
    → form_of (get_or bytes 0 0) ≡ Some form
    → operand_in form (drop 1 bytes) ≡ n → operation_in bytes ≡ read_then n (read_of (get_or bytes 0 0))
operand_follows bytes form n some is follow =
    operation_begins bytes some
    ∙ ap (formed_in (get_or bytes 0 0) (drop 1 bytes)) is
    ∙ ap (λ (r : Result Number Flaw). read_then r (read_of (get_or bytes 0 0))) follow

pub read_is : (o p : Operation) (size : ℕ) → o ≡ p → ◌≡◌ {A = Result Read Flaw} (Ok (read o size)) (Ok (read p size))
read_is o p size is = ap (λ (x : Operation). Ok (read x size)) is

pub first_of : (bytes : List ℕ) (r : Result Read Flaw) → r ≡ operation_in bytes → IfOk r (IsFirst bytes)
first_of bytes (Ok r) is = read_spelled bytes r (sym is)
first_of bytes (Err f) is = tt
