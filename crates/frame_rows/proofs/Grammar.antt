-- Instructions that are spelled are those that are read, and the other way round.
use Rattle.std.proofs.Common.{◌≡◌, ◌∙◌, ℕ, ◌+◌, ◌-◌, ◌≤◌, List, [], ◌∷◌, ◌++◌, length, drop, take}
use Rattle.frame_rows.specs.declared.number.Flaw.TheVariants.{Cut}
use Rattle.std.proofs.Common.{ltb, false, refl, sym, ap, arith, ℤ, inl, inr, subst, append_assoc, length-append}
use Rattle.std.specs.Prelude.{Option, Some, None, Result, Ok, Err}
use Rattle.std.specs.Int.{w64, cast_unsigned}
use Rattle.std.proofs.Math.Seq.{drop-append_seam}
use Rattle.std.proofs.lemmas.List.{take-append-drop, length-take-le}
use Rattle.std.proofs.lemmas.Bool.{cases_lt, lt-ltb, le-ltb}
use Rattle.frame_rows.specs.declared.number.Number.{Number}
use Rattle.frame_rows.specs.declared.number.SignedNumber.{SignedNumber}
use Rattle.frame_rows.specs.declared.number.Flaw.{Flaw}
use Rattle.frame_rows.specs.declared.instruction.Form.{Form}
use Rattle.frame_rows.specs.declared.instruction.Form.TheVariants.{Plain, OneByte, TwoBytes, FourBytes, One, Signed}
use Rattle.frame_rows.specs.declared.instruction.Form.TheVariants.{Two, OneSigned, Sized, Block}
use Rattle.frame_rows.specs.declared.instruction.Operands.{Operands}
use Rattle.frame_rows.specs.declared.instruction.Instruction.{Instruction}
use Rattle.frame_rows.specs.declared.instruction.Read.{Read}
use Rattle.frame_rows.specs.Numbers.{IsUleb, IsUnsigned, IsSigned, little, read_then, unsigned_in, signed_in, fixed_in}
use Rattle.frame_rows.specs.Instructions.{form_of, meaning_of, operands, IsPair, IsSignedWord, IsSignedPair, IsSized}
use Rattle.frame_rows.specs.Instructions.{IsBlock, sized_within, sized_operands, AreOperands, Spells, operands_in}
use Rattle.frame_rows.specs.Instructions.{fixed_operand}
use Rattle.frame_rows.specs.Instructions.{block_within, second_then, block_operands, two_operands, signed_operand}
use Rattle.frame_rows.specs.Instructions.{signed_operands, one_operand, read_of, formed_in, instruction_in}
use Rattle.frame_rows.proofs.Spelled.{then_ok, Uleb, uleb_read, uleb_back, Sleb, sleb_read, sleb_back, fixed_read}
use Rattle.frame_rows.proofs.Spelled.{fixed_back}

-- ---- numbers

pub unsigned_read : (bytes : List ℕ) (u : Number) → unsigned_in bytes ≡ Ok u → Uleb 9 bytes u
unfolding unsigned_in
unsigned_read bytes u is = uleb_read 9 bytes u is

pub unsigned_back : (text rest : List ℕ) (n : ℕ) → IsUnsigned text n → unsigned_in (text ++ rest)
    ≡ Ok (record { value = n; size = length text })
unfolding unsigned_in
unsigned_back text rest n is = uleb_back 9 text rest n is.0 is.1

signed_read : (bytes : List ℕ) (u : SignedNumber) → signed_in bytes ≡ Ok u → Sleb 9 bytes u
unfolding signed_in
signed_read bytes u is = sleb_read 9 bytes u is

signed_back : (text rest : List ℕ) (n : ℤ) → IsSigned text n → signed_in (text ++ rest)
    ≡ Ok (record { value = n; size = length text })
unfolding signed_in
signed_back text rest n is = sleb_back 9 text rest n is.0 is.1

pub behind_is : (bytes text behind : List ℕ) (size : ℕ) → bytes ≡ text ++ behind → size ≡ length text → drop size bytes
    ≡ behind
behind_is bytes text behind size parts long = rw (parts, long) (drop-append_seam text behind)

-- ---- operands that are spelled are read

same_operands : (a b c : ℕ) (x y z : ℕ) → a ≡ x → b ≡ y → c ≡ z
    → ◌≡◌ {A = Result Operands Flaw} (Ok (operands a b c)) (Ok (operands x y z))
same_operands a b c x y z p q r = rw (p, q, r) refl

fixed_operand_back : (size : ℕ) (text rest : List ℕ) (first : ℕ) → length text ≡ size → first ≡ little text
    → fixed_operand size (text ++ rest) ≡ Ok (operands first 0 (length text))
fixed_operand_back size text rest first long is =
    ap (λ (r : Result Number Flaw). read_then r (λ n. Ok (operands n.value 0 n.size))) (fixed_back size text rest long)
    ∙ same_operands (little text) 0 (length text) first 0 (length text) (sym is) refl refl

one_back : (text rest : List ℕ) (first : ℕ) → IsUnsigned text first → one_operand (text ++ rest)
    ≡ Ok (operands first 0 (length text))
one_back text rest first is = ap (λ (r : Result Number Flaw). read_then r (λ n. Ok (operands n.value 0 n.size)))
    (unsigned_back text rest first is)

signed_word_back : (text rest : List ℕ) (first : ℕ) → IsSignedWord text first → signed_operand (text ++ rest)
    ≡ Ok (operands first 0 (length text))
signed_word_back text rest first word =
    ap (λ (r : Result SignedNumber Flaw). read_then r (λ n. Ok (operands (cast_unsigned w64 n.value) 0 n.size)))
    (signed_back text rest word.number word.is)
    ∙ same_operands (cast_unsigned w64 word.number) 0 (length text) first 0 (length text) (sym word.as_word) refl refl

abbrev pub pair_of : Number → Number → Result Operands Flaw
pair_of first second = Ok (operands first.value second.value (first.size + second.size))

-- two numbers, one behind the other
pub numbers_back : (one two rest : List ℕ) (first second : ℕ) (k : Number → Number → Result Operands Flaw)
    → IsUnsigned one first → IsUnsigned two second
    → read_then (unsigned_in (one ++ (two ++ rest))) (λ n. second_then (one ++ (two ++ rest)) n (k n))
    ≡ k (record { value = first; size = length one }) (record { value = second; size = length two })
numbers_back one two rest first second k is also =
    ap (λ (r : Result Number Flaw). read_then r (λ n. second_then (one ++ (two ++ rest)) n (k n)))
    (unsigned_back one (two ++ rest) first is)
    ∙ ap (λ (l : List ℕ). read_then (unsigned_in l) (k (record { value = first; size = length one })))
    (drop-append_seam one (two ++ rest))
    ∙ ap (λ (r : Result Number Flaw). read_then r (k (record { value = first; size = length one })))
    (unsigned_back two rest second also)

two_back : (text rest : List ℕ) (first second : ℕ) → IsPair text first second → two_operands (text ++ rest)
    ≡ Ok (operands first second (length text))
two_back text rest first second pair =
    let all : text ++ rest ≡ pair.one ++ (pair.two ++ rest) = ap (λ (l : List ℕ). l ++ rest) pair.parts
    ∙ append_assoc pair.one pair.two rest in
    let size : length text ≡ length pair.one + length pair.two = ap length pair.parts
    ∙ length-append pair.one pair.two in
    ap two_operands all ∙ numbers_back pair.one pair.two rest first second pair_of pair.is_first pair.is_second
    ∙ same_operands first second (length pair.one + length pair.two) first second (length text) refl refl (sym size)

signed_pair_back : (text rest : List ℕ) (first second : ℕ) → IsSignedPair text first second
    → signed_operands (text ++ rest) ≡ Ok (operands first second (length text))
signed_pair_back text rest first second pair =
    let one = pair.one in
    let two = pair.two in
    let all : text ++ rest ≡ one ++ (two ++ rest) = ap (λ (l : List ℕ). l ++ rest) pair.parts
    ∙ append_assoc one two rest in
    let size : length text ≡ length one + length two = ap length pair.parts ∙ length-append one two in
    let k : Number → SignedNumber
    → Result Operands Flaw = λ n m. Ok (operands n.value (cast_unsigned w64 m.value) (n.size + m.size)) in
    let n : Number = record { value = first; size = length one } in
    ap signed_operands all
    ∙ ap
    (λ (r : Result Number Flaw). read_then r (λ n. read_then (signed_in (drop n.size (one ++ (two ++ rest)))) (k n)))
    (unsigned_back one (two ++ rest) first pair.is_first)
    ∙ ap (λ (l : List ℕ). read_then (signed_in l) (k n)) (drop-append_seam one (two ++ rest))
    ∙ ap (λ (r : Result SignedNumber Flaw). read_then r (k n)) (signed_back two rest pair.number pair.is_second)
    ∙ same_operands first (cast_unsigned w64 pair.number) (length one + length two) first second (length text) refl
    (sym pair.as_word) (sym size)

block_back : (text rest : List ℕ) (first second : ℕ) → IsBlock text first second → block_operands (text ++ rest)
    ≡ Ok (operands first second (length text))
block_back text rest first second block =
    let one = block.one in
    let two = block.two in
    let all : text ++ rest ≡ one ++ (two ++ (block.block ++ rest)) = ap (λ (l : List ℕ). l ++ rest) block.parts
    ∙ simp append_assoc in
    let size : length text ≡ length one + (length two + length block.block) = ap length block.parts
    ∙ simp length-append in
    let whole : length (one ++ (two ++ (block.block ++ rest)))
    ≡ length one + (length two + (length block.block + length rest)) = simp length-append in
    let fits : ltb (length (one ++ (two ++ (block.block ++ rest))) - (length one + length two)) second ≡ false =
    le-ltb (length (one ++ (two ++ (block.block ++ rest))) - (length one + length two)) second
    (omega (arith, whole, block.long)) in
    ap block_operands all
    ∙ numbers_back one two (block.block
    ++ rest) first second (block_within (length (one ++ (two ++ (block.block ++ rest))))) block.is_first block.is_size
    ∙ rw fits (same_operands first second (length one + length two + second) first second (length text) refl refl
    (omega (arith, size, block.long)))

sized_back : (text rest : List ℕ) (first : ℕ) → IsSized text first → sized_operands (text ++ rest)
    ≡ Ok (operands first 0 (length text))
sized_back text rest first sized =
    let one = sized.one in
    let all : text ++ rest ≡ one ++ (sized.block ++ rest) = ap (λ (l : List ℕ). l ++ rest) sized.parts
    ∙ append_assoc one sized.block rest in
    let size : length text ≡ length one + length sized.block = ap length sized.parts ∙ length-append one sized.block in
    let whole : length (one ++ (sized.block ++ rest))
    ≡ length one + (length sized.block + length rest) = simp length-append in
    let fits : ltb (length (one ++ (sized.block ++ rest)) - length one) first
    ≡ false = le-ltb (length (one ++ (sized.block ++ rest)) - length one) first (omega (arith, whole, sized.long)) in
    ap sized_operands all
    ∙ ap (λ (r : Result Number Flaw). read_then r (sized_within (length (one ++ (sized.block ++ rest)))))
    (unsigned_back one (sized.block ++ rest) first sized.is_first)
    ∙ rw fits (same_operands first 0 (length one + first) first 0 (length text) refl refl
    (omega (arith, size, sized.long)))

pub operands_back : (form : Form) (text rest : List ℕ) (first second : ℕ) → AreOperands form text first second
    → operands_in form (text ++ rest) ≡ Ok (operands first second (length text))
unfolding operands_in
operands_back Plain text rest first second are = same_operands 0 0 0 first second (length text) (sym are.1) (sym are.2)
    (sym (ap length are.0))
operands_back OneByte text rest first second are = fixed_operand_back 1 text rest first are.0.0 are.0.1
    ∙ same_operands first 0 (length text) first second (length text) refl (sym are.1) refl
operands_back TwoBytes text rest first second are = fixed_operand_back 2 text rest first are.0.0 are.0.1
    ∙ same_operands first 0 (length text) first second (length text) refl (sym are.1) refl
operands_back FourBytes text rest first second are = fixed_operand_back 4 text rest first are.0.0 are.0.1
    ∙ same_operands first 0 (length text) first second (length text) refl (sym are.1) refl
operands_back One text rest first second are = one_back text rest first are.0
    ∙ same_operands first 0 (length text) first second (length text) refl (sym are.1) refl
operands_back Signed text rest first second are = signed_word_back text rest first are.0
    ∙ same_operands first 0 (length text) first second (length text) refl (sym are.1) refl
operands_back Two text rest first second are = two_back text rest first second are
operands_back OneSigned text rest first second are = signed_pair_back text rest first second are
operands_back Sized text rest first second are = sized_back text rest first are.0
    ∙ same_operands first 0 (length text) first second (length text) refl (sym are.1) refl
operands_back Block text rest first second are = block_back text rest first second are

opcode_read : (opcode : ℕ) (form : Form) (behind : List ℕ) (first second : ℕ) (rest : List ℕ) → form_of opcode
    ≡ Some form → AreOperands form behind first second
    → instruction_in (opcode ∷ (behind ++ rest))
    ≡ Ok (record { instruction = meaning_of opcode (operands first second (length behind)); size = 1 + length behind })
unfolding instruction_in
opcode_read opcode form behind first second rest is are =
    ap (formed_in opcode (behind ++ rest)) is
    ∙ ap (λ (r : Result Operands Flaw). read_then r (read_of opcode)) (operands_back form behind rest first second are)

same_read : (i j : Instruction) (m n : ℕ) → i ≡ j → m ≡ n
    → ◌≡◌ {A = Result Read Flaw} (Ok (record { instruction = i; size = m })) (Ok (record { instruction = j; size = n }))
same_read i j m n p q = ap (λ (k : Instruction). Ok (record { instruction = k; size = m })) p
    ∙ ap (λ (k : ℕ). Ok (record { instruction = j; size = k })) q

-- an instruction that is spelled is read
pub spelled_read : (text rest : List ℕ) (i : Instruction) → Spells text i → instruction_in (text ++ rest)
    ≡ Ok (record { instruction = i; size = length text })
spelled_read text rest i s = ap (λ (l : List ℕ). instruction_in (l ++ rest)) s.parts
    ∙ opcode_read s.opcode s.form s.behind s.first s.second rest s.is_form s.are_operands
    ∙ same_read (meaning_of s.opcode (operands s.first s.second (length s.behind))) i (1 + length s.behind)
    (length text) (sym s.means) (omega (arith, ap length s.parts))

-- ---- operands that are read are spelled

pub record Spelled (form : Form) (bytes : List ℕ) (o : Operands) : Type 0 where
  pub text : List ℕ
  pub behind : List ℕ
  pub parts : bytes ≡ text ++ behind
  pub are : AreOperands form text o.first o.second
  pub long : o.size ≡ length text

-- what operands that are equal say
first_is : (a b c : ℕ) (o : Operands) → ◌≡◌ {A = Result Operands Flaw} (Ok (operands a b c)) (Ok o) → (a ≡ o.first)
    × (b ≡ o.second) × (c ≡ o.size)
first_is a b c o is =
    let same : operands a b c ≡ o = cc in
    (ap (λ (x : Operands). x.first) same, ap (λ (x : Operands). x.second) same, ap (λ (x : Operands). x.size) same)

-- a number of so many bytes
record Narrow (size : ℕ) (bytes : List ℕ) (o : Operands) : Type 0 where
  pub text : List ℕ
  pub behind : List ℕ
  pub parts : bytes ≡ text ++ behind
  pub exact : length text ≡ size
  pub first : o.first ≡ little text
  pub second : o.second ≡ 0
  pub long : o.size ≡ length text

fixed_operand_read : (size : ℕ) (bytes : List ℕ) (o : Operands) → fixed_operand size bytes ≡ Ok o → Narrow size bytes o
fixed_operand_read size bytes o is =
    let number = then_ok (fixed_in size bytes) (λ n. Ok (operands n.value 0 n.size)) o is in
    let found = fixed_read size bytes number.0 number.1 in
    let same = first_is number.0.value 0 number.0.size o number.2 in
    record {
      text = found.text;
      behind = found.behind;
      parts = found.parts;
      exact = found.exact;
      first = sym same.0 ∙ found.is;
      second = sym same.1;
      long = sym same.2 ∙ found.long;
    }

-- two numbers, one behind the other, and what comes of them
record Numbers (bytes : List ℕ) (k : Number → Number → Result Operands Flaw) (o : Operands) : Type 0 where
  pub first : Number
  pub second : Number
  pub one : Uleb 9 bytes first
  pub two : Uleb 9 one.behind second
  pub joined : k first second ≡ Ok o

numbers_read : (bytes : List ℕ) (k : Number → Number → Result Operands Flaw) (o : Operands)
    → read_then (unsigned_in bytes) (λ n. second_then bytes n (k n)) ≡ Ok o → Numbers bytes k o
numbers_read bytes k o is =
    let first = then_ok (unsigned_in bytes) (λ n. second_then bytes n (k n)) o is in
    let second = then_ok (unsigned_in (drop first.0.size bytes)) (k first.0) o first.2 in
    let one = unsigned_read bytes first.0 first.1 in
    let there : drop first.0.size bytes
    ≡ one.behind = behind_is bytes one.text one.behind first.0.size one.parts one.long in
    record {
      first = first.0;
      second = second.0;
      one = one;
      two = unsigned_read one.behind second.0 (ap unsigned_in (sym there) ∙ second.1);
      joined = second.2;
    }

both_parts : (bytes one two behind behind' : List ℕ) → bytes ≡ one ++ behind → behind ≡ two ++ behind' → bytes
    ≡ (one ++ two) ++ behind'
both_parts bytes one two behind behind' p q = p ∙ ap (λ (l : List ℕ). one ++ l) q ∙ sym (append_assoc one two behind')

two_read : (bytes : List ℕ) (o : Operands) → two_operands bytes ≡ Ok o → Spelled Two bytes o
two_read bytes o is =
    let n = numbers_read bytes pair_of o is in
    let same = first_is n.first.value n.second.value (n.first.size + n.second.size) o n.joined in
    let one = n.one.text in
    let two = n.two.text in
    record {
      text = one ++ two;
      behind = n.two.behind;
      parts = both_parts bytes one two n.one.behind n.two.behind n.one.parts n.two.parts;
      are = record {
        one = one;
        is_first = (subst (IsUleb one) same.0 n.one.is, n.one.short);
        two = two;
        is_second = (subst (IsUleb two) same.1 n.two.is, n.two.short);
        parts = refl;
      };
      long = simp length-append (omega (arith, same.2, n.one.long, n.two.long));
    }

signed_pair_read : (bytes : List ℕ) (o : Operands) → signed_operands bytes ≡ Ok o → Spelled OneSigned bytes o
signed_pair_read bytes o is =
    let k : Number → SignedNumber
    → Result Operands Flaw = λ n m. Ok (operands n.value (cast_unsigned w64 m.value) (n.size + m.size)) in
    let first = then_ok (unsigned_in bytes) (λ n. read_then (signed_in (drop n.size bytes)) (k n)) o is in
    let second = then_ok (signed_in (drop first.0.size bytes)) (k first.0) o first.2 in
    let one = unsigned_read bytes first.0 first.1 in
    let there : drop first.0.size bytes
    ≡ one.behind = behind_is bytes one.text one.behind first.0.size one.parts one.long in
    let two = signed_read one.behind second.0 (ap signed_in (sym there) ∙ second.1) in
    let same = first_is first.0.value (cast_unsigned w64 second.0.value) (first.0.size + second.0.size) o second.2 in
    record {
      text = one.text ++ two.text;
      behind = two.behind;
      parts = both_parts bytes one.text two.text one.behind two.behind one.parts two.parts;
      are = record {
        one = one.text;
        is_first = (subst (IsUleb one.text) same.0 one.is, one.short);
        two = two.text;
        number = second.0.value;
        is_second = (two.is, two.short);
        as_word = sym same.1;
        parts = refl;
      };
      long = simp length-append (omega (arith, same.2, one.long, two.long));
    }

signed_word_read : (bytes : List ℕ) (o : Operands) → signed_operand bytes ≡ Ok o → Spelled Signed bytes o
signed_word_read bytes o is =
    let first = then_ok (signed_in bytes) (λ n. Ok (operands (cast_unsigned w64 n.value) 0 n.size)) o is in
    let one = signed_read bytes first.0 first.1 in
    let same = first_is (cast_unsigned w64 first.0.value) 0 first.0.size o first.2 in
    record {
      text = one.text;
      behind = one.behind;
      parts = one.parts;
      are = (record { number = first.0.value; is = (one.is, one.short); as_word = sym same.0 }, sym same.1);
      long = sym same.2 ∙ one.long;
    }

one_read : (bytes : List ℕ) (o : Operands) → one_operand bytes ≡ Ok o → Spelled One bytes o
one_read bytes o is =
    let first = then_ok (unsigned_in bytes) (λ n. Ok (operands n.value 0 n.size)) o is in
    let one = unsigned_read bytes first.0 first.1 in
    let same = first_is first.0.value 0 first.0.size o first.2 in
    record {
      text = one.text;
      behind = one.behind;
      parts = one.parts;
      are = ((subst (IsUleb one.text) same.0 one.is, one.short), sym same.1);
      long = sym same.2 ∙ one.long;
    }

block_refused : (o : Operands) → ◌≡◌ {A = Result Operands Flaw} (Err Cut) (Ok o) → ⊥
block_refused o e = cc

block_found : (bytes : List ℕ) (o : Operands) (n : Numbers bytes (block_within (length bytes)) o)
    → n.second.value ≤ length bytes - (n.first.size + n.second.size)
    → ◌≡◌ {A = Result Operands Flaw}
    (Ok (operands n.first.value n.second.value (n.first.size + n.second.size + n.second.value))) (Ok o)
    → Spelled Block bytes o
block_found bytes o n fits joined =
    let same = first_is n.first.value n.second.value (n.first.size + n.second.size + n.second.value) o joined in
    let one = n.one.text in
    let two = n.two.text in
    let after = n.two.behind in
    let size = n.second.value in
    let whole : length bytes ≡ length one + (length two + length after) = ap length n.one.parts
    ∙ length-append one n.one.behind
    ∙ ap (λ (k : ℕ). length one + k) (ap length n.two.parts ∙ length-append two after) in
    let room : size ≤ length after = omega (arith, fits, whole, n.one.long, n.two.long) in
    let block : length (take size after) ≡ size = length-take-le size after room in
    let split : after ≡ take size after ++ drop size after = sym (take-append-drop size after) in
    record {
      text = one ++ (two ++ take size after);
      behind = drop size after;
      parts = both_parts bytes one (two ++ take size after) n.one.behind (drop size after) n.one.parts
          (both_parts n.one.behind two (take size after) after (drop size after) n.two.parts split);
      are = record {
        one = one;
        is_first = (subst (IsUleb one) same.0 n.one.is, n.one.short);
        two = two;
        is_size = (subst (IsUleb two) same.1 n.two.is, n.two.short);
        block = take size after;
        long = block ∙ same.1;
        parts = refl;
      };
      long = simp length-append (omega (arith, same.2, n.one.long, n.two.long, block));
    }

block_either : (bytes : List ℕ) (o : Operands) → Numbers bytes (block_within (length bytes)) o → Spelled Block bytes o
block_either bytes o n = elim (cases_lt (length bytes - (n.first.size + n.second.size)) n.second.value) [
  | inl short ↦ absurd
      (block_refused o (rw (lt-ltb (length bytes - (n.first.size + n.second.size)) n.second.value short) at n.joined))
  | inr fits ↦ block_found bytes o n fits
      (rw (le-ltb (length bytes - (n.first.size + n.second.size)) n.second.value fits) at n.joined)
]

block_read : (bytes : List ℕ) (o : Operands) → block_operands bytes ≡ Ok o → Spelled Block bytes o
block_read bytes o is = block_either bytes o (numbers_read bytes (block_within (length bytes)) o is)

sized_found : (bytes : List ℕ) (o : Operands) (first : Number) → Uleb 9 bytes first
    → first.value ≤ length bytes - first.size
    → ◌≡◌ {A = Result Operands Flaw} (Ok (operands first.value 0 (first.size + first.value))) (Ok o)
    → Spelled Sized bytes o
sized_found bytes o first one fits joined =
    let same = first_is first.value 0 (first.size + first.value) o joined in
    let after = one.behind in
    let size = first.value in
    let whole : length bytes ≡ length one.text + length after = ap length one.parts ∙ length-append one.text after in
    let room : size ≤ length after = omega (arith, fits, whole, one.long) in
    let block : length (take size after) ≡ size = length-take-le size after room in
    record {
      text = one.text ++ take size after;
      behind = drop size after;
      parts = both_parts bytes one.text (take size after) after (drop size after) one.parts
          (sym (take-append-drop size after));
      are = (
        record {
          one = one.text;
          is_first = (subst (IsUleb one.text) same.0 one.is, one.short);
          block = take size
              after;
          long = block ∙ same.0;
          parts = refl;
        },
        sym same.1,
      );
      long = simp length-append (omega (arith, same.2, one.long, block));
    }

sized_read : (bytes : List ℕ) (o : Operands) → sized_operands bytes ≡ Ok o → Spelled Sized bytes o
sized_read bytes o is =
    let first = then_ok (unsigned_in bytes) (sized_within (length bytes)) o is in
    let one = unsigned_read bytes first.0 first.1 in
    let joined = first.2 in
    elim (cases_lt (length bytes - first.0.size) first.0.value) [
      | inl short ↦ absurd (block_refused o (rw (lt-ltb (length bytes - first.0.size) first.0.value short) at joined))
      | inr fits ↦ sized_found bytes o first.0 one fits
          (rw (le-ltb (length bytes - first.0.size) first.0.value fits) at joined)
    ]

pub operands_read : (form : Form) (bytes : List ℕ) (o : Operands) → operands_in form bytes ≡ Ok o → Spelled form bytes o
unfolding operands_in
operands_read Plain bytes o is =
    let same = first_is 0 0 0 o is in
    record { text = []; behind = bytes; parts = refl; are = (refl, sym same.0, sym same.1); long = sym same.2 }
operands_read OneByte bytes o is =
    let n = fixed_operand_read 1 bytes o is in
    record { text = n.text; behind = n.behind; parts = n.parts; are = ((n.exact, n.first), n.second); long = n.long }
operands_read TwoBytes bytes o is =
    let n = fixed_operand_read 2 bytes o is in
    record { text = n.text; behind = n.behind; parts = n.parts; are = ((n.exact, n.first), n.second); long = n.long }
operands_read FourBytes bytes o is =
    let n = fixed_operand_read 4 bytes o is in
    record { text = n.text; behind = n.behind; parts = n.parts; are = ((n.exact, n.first), n.second); long = n.long }
operands_read One bytes o is = one_read bytes o is
operands_read Signed bytes o is = signed_word_read bytes o is
operands_read Two bytes o is = two_read bytes o is
operands_read OneSigned bytes o is = signed_pair_read bytes o is
operands_read Sized bytes o is = sized_read bytes o is
operands_read Block bytes o is = block_read bytes o is

-- ---- an instruction that is read is spelled

pub record Found (bytes : List ℕ) (r : Read) : Type 0 where
  pub text : List ℕ
  pub behind : List ℕ
  pub parts : bytes ≡ text ++ behind
  pub spells : Spells text r.instruction
  pub long : r.size ≡ length text

form_then : (opcode : ℕ) (rest : List ℕ) (form : Option Form) (r : Read) → formed_in opcode rest form ≡ Ok r
    → (f : Form) × (form ≡ Some f) × (read_then (operands_in f rest) (read_of opcode) ≡ Ok r)
form_then opcode rest None r is = absurd cc
form_then opcode rest (Some f) r is = (f, refl, is)

same_meaning : (opcode : ℕ) (o : Operands) (size : ℕ) → o.size ≡ size → meaning_of opcode o
    ≡ meaning_of opcode (operands o.first o.second size)
same_meaning opcode o size is = ap (λ (n : ℕ). meaning_of opcode (operands o.first o.second n)) is

pub read_spelled : (bytes : List ℕ) (r : Read) → instruction_in bytes ≡ Ok r → Found bytes r
unfolding instruction_in
read_spelled [] r is = absurd cc
read_spelled (opcode ∷ rest) r is =
    let form = form_then opcode rest (form_of opcode) r is in
    let o = then_ok (operands_in form.0 rest) (read_of opcode) r form.2 in
    opcode_found opcode rest r form.0 o.0 form.1 (operands_read form.0 rest o.0 o.1) o.2 where
      opcode_found : (opcode : ℕ) (rest : List ℕ) (r : Read) (form : Form) (o : Operands) → form_of opcode ≡ Some form
          → Spelled form rest o → read_of opcode o ≡ Ok r → Found (opcode ∷ rest) r
      opcode_found opcode rest r form o is found joined =
          let same : record { instruction = meaning_of opcode o; size = 1 + o.size } ≡ r = cc in
          record {
            text = opcode ∷ found.text;
            behind = found.behind;
            parts = ap (λ (l : List ℕ). opcode ∷ l) found.parts;
            spells = record {
              opcode = opcode;
              form = form;
              is_form = is;
              behind = found.text;
              first = o.first;
              second = o.second;
              are_operands = found.are;
              parts = refl;
              means = sym (ap (λ (x : Read). x.instruction) same)
                  ∙ same_meaning opcode o (length found.text) found.long;
            };
            long = sym (ap (λ (x : Read). x.size) same) ∙ omega (arith, found.long);
          }
