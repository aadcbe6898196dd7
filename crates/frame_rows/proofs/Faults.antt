-- Why no instruction begins some bytes.
use Rattle.std.proofs.Common.{◌≡◌, ◌∙◌, ℕ, zero, suc, ◌+◌, ◌-◌, ◌*◌, ◌%◌, ◌≤◌, ◌≢◌, List, [], ◌∷◌, ◌++◌, length, drop}
use Rattle.std.proofs.Common.{refl, sym, ap, arith, ℤ, pos, ◌+ℤ◌, ◌-ℤ◌, ◌*ℤ◌, inl, inr, subst, append_assoc}
use Rattle.std.proofs.Common.{length-append, ◌⊎◌}
use Rattle.std.specs.Prelude.{Option, Some, None, Result, Ok, Err, replicate}
use Rattle.std.specs.Int.{w64, cast_unsigned}
use Rattle.std.proofs.Math.Seq.{drop-append_seam}
use Rattle.std.proofs.lemmas.List.{length-replicate, append-nil}
use Rattle.std.proofs.lemmas.Bool.{cases_lt, lt-ltb, le-ltb}
use Rattle.frame_rows.specs.declared.number.Number.{Number}
use Rattle.frame_rows.specs.declared.number.SignedNumber.{SignedNumber}
use Rattle.frame_rows.specs.declared.number.Flaw.{Flaw}
use Rattle.frame_rows.specs.declared.number.Flaw.TheVariants.{Cut, LongNumber, Unknown, NothingRemembered}
use Rattle.frame_rows.specs.declared.number.Flaw.TheVariants.{TooManyRemembered, NoCfa, LongExpression, OtherMachine}
use Rattle.frame_rows.specs.Numbers.{IsUleb, IsSleb, read_then, unsigned_within, unsigned_more, signed_within}
use Rattle.frame_rows.specs.Numbers.{signed_more, fixed_in, fixed_more}
use Rattle.frame_rows.specs.declared.instruction.Form.{Form}
use Rattle.frame_rows.specs.declared.instruction.Form.TheVariants.{Plain, OneByte, TwoBytes, FourBytes, One, Signed}
use Rattle.frame_rows.specs.declared.instruction.Form.TheVariants.{Two, OneSigned, Sized, Block}
use Rattle.frame_rows.specs.declared.instruction.Operands.{Operands}
use Rattle.frame_rows.specs.declared.instruction.Instruction.{Instruction}
use Rattle.frame_rows.specs.declared.instruction.Read.{Read}
use Rattle.frame_rows.specs.Numbers.{IsUnsigned, unsigned_in, signed_in, little}
use Rattle.frame_rows.specs.Instructions.{sized_within, sized_operands}
use Rattle.frame_rows.specs.Instructions.{form_of, meaning_of, operands, AreOperands, Spells, operands_in}
use Rattle.frame_rows.specs.Instructions.{fixed_operand, one_operand, two_operands, signed_operand, signed_operands}
use Rattle.frame_rows.specs.Instructions.{block_operands}
use Rattle.frame_rows.specs.Instructions.{IsFault, IsNever, second_then, block_within, read_of, formed_in}
use Rattle.frame_rows.specs.Instructions.{instruction_in}
use Rattle.frame_rows.proofs.Grammar.{unsigned_read, unsigned_back, behind_is, pair_of, spelled_read}
use Rattle.frame_rows.proofs.Spelled.{Uleb, uleb_more, sleb_more, signed_low}

-- a reading that fails for want of bytes would come to what it reads with others behind; one that fails for a long
-- number fails with any
abbrev pub Fails : {T : Type 0} → (List ℕ → Type 0) → (List ℕ → Result T Flaw) → List ℕ → Flaw → Type 0
Fails Is read bytes f =
    ((Cut ≡ f) × ((more : List ℕ) × Is (bytes ++ more)))
    ⊎ ((LongNumber ≡ f) × ((more : List ℕ) → read (bytes ++ more) ≡ Err LongNumber))

-- the same of a reading that begins with it
pub lifted : {T U : Type 0} (Is As : List ℕ → Type 0) (read : List ℕ → Result T Flaw) (next : List ℕ
    → Result U Flaw) (bytes others : List ℕ) (f : Flaw)
    → ((more : List ℕ) → Is (bytes ++ more) → (less : List ℕ) × As (others ++ less))
    → ((more : List ℕ) → read (bytes ++ more) ≡ Err LongNumber → next (others ++ more) ≡ Err LongNumber)
    → Fails Is read bytes f → Fails As next others f
lifted Is As read next bytes others f goes fails (inl (cut, (more, is))) = inl (cut, goes more is)
lifted Is As read next bytes others f goes fails (inr (long, never)) = inr (long, λ more. fails more (never more))

same_flaw : {T : Type 0} (e f : Flaw) → ◌≡◌ {A = Result T Flaw} (Err e) (Err f) → e ≡ f
same_flaw e f is = cc

not_err : {T : Type 0} (x : T) (f : Flaw) → ◌≡◌ {A = Result T Flaw} (Ok x) (Err f) → ⊥
not_err x f is = cc

-- what a step that fails behind another says
pub then_err : {T U : Type 0} (r : Result T Flaw) (f : T → Result U Flaw) (e : Flaw) → read_then r f ≡ Err e
    → (r ≡ Err e) ⊎ ((x : T) × (r ≡ Ok x) × (f x ≡ Err e))
then_err (Ok x) f e is = inr (x, refl, is)
then_err (Err flaw) f e is = inl (ap (λ (k : Flaw). Err k) (same_flaw flaw e is))

-- ---- numbers

abbrev pub ShortUleb : ℕ → List ℕ → Type 0
ShortUleb most text = (n : ℕ) × IsUleb text n × (length text ≤ most)

pub uleb_fails : (most : ℕ) (bytes : List ℕ) (f : Flaw) → unsigned_within most bytes ≡ Err f
    → Fails (ShortUleb most) (unsigned_within most) bytes f
uleb_fails zero bytes f is = inr (same_flaw {T = Number} LongNumber f is, λ more. refl)
uleb_fails (suc most) [] f is = inl (same_flaw {T = Number} Cut f is, (0 ∷ [], (0, (omega arith, refl), omega arith)))
uleb_fails (suc most) (b ∷ bytes) f is = elim (cases_lt b 128) [
  | inl last ↦ absurd (not_err (record { value = b % 128; size = 1 }) f (rw (lt-ltb b 128 last) at is))
  | inr more ↦ elim (then_err (unsigned_within most bytes) (unsigned_more b) f (rw (le-ltb b 128 more) at is)) [
    | inl first ↦ uleb_longer most b bytes f more (uleb_fails most bytes f first)
    | inr later ↦ absurd (not_err (record { value = b % 128 + 128 * later.0.value; size = 1 + later.0.size }) f later.2)
  ]
] where
  uleb_longer : (most b : ℕ) (bytes : List ℕ) (f : Flaw) → 128 ≤ b
      → Fails (ShortUleb most) (unsigned_within most) bytes f
      → Fails (ShortUleb (suc most)) (unsigned_within (suc most)) (b ∷ bytes) f
  uleb_longer most b bytes f more fails = lifted (ShortUleb most) (ShortUleb (suc most)) (unsigned_within most)
      (unsigned_within (suc most)) bytes (b ∷ bytes) f
      (λ rest is. (
        rest,
        (
          b % 128 + 128 * is.0,
          uleb_more b (bytes ++ rest) (b % 128 + 128 * is.0) is.0 more refl is.1,
          omega
              (arith, is.2),
        ),
      ))
      (λ rest is. rw (le-ltb b 128 more) (ap (λ (r : Result Number Flaw). read_then r (unsigned_more b)) is)) fails

abbrev pub ShortSleb : ℕ → List ℕ → Type 0
ShortSleb most text = (n : ℤ) × IsSleb text n × (length text ≤ most)

sleb_longer : (most b : ℕ) (bytes : List ℕ) (f : Flaw) → 128 ≤ b → Fails (ShortSleb most) (signed_within most) bytes f
    → Fails (ShortSleb (suc most)) (signed_within (suc most)) (b ∷ bytes) f
sleb_longer most b bytes f more fails =
    let high : 64 ≤ b = omega (arith, more) in
    lifted (ShortSleb most) (ShortSleb (suc most)) (signed_within most) (signed_within (suc most)) bytes (b ∷ bytes) f
    (λ rest is. (
      rest,
      (
        pos (b % 128) +ℤ (pos 128 *ℤ is.0),
        sleb_more b (bytes ++ rest) (pos (b % 128) +ℤ (pos 128 *ℤ is.0)) is.0
            more refl is.1,
        omega (arith, is.2),
      ),
    ))
    (λ rest is. rw (le-ltb b 64 high, le-ltb b 128 more)
    (ap (λ (r : Result SignedNumber Flaw). read_then r (signed_more b)) is)) fails

pub sleb_fails : (most : ℕ) (bytes : List ℕ) (f : Flaw) → signed_within most bytes ≡ Err f
    → Fails (ShortSleb most) (signed_within most) bytes f
sleb_fails zero bytes f is = inr (same_flaw {T = SignedNumber} LongNumber f is, λ more. refl)
sleb_fails (suc most) [] f is = inl
    (same_flaw {T = SignedNumber} Cut f is, (0 ∷ [], (pos 0, (omega arith, refl), omega arith)))
sleb_fails (suc most) (b ∷ bytes) f is = elim (cases_lt b 64) [
  | inl low ↦ absurd (not_err (record { value = pos b; size = 1 }) f (rw (lt-ltb b 64 low) at is))
  | inr high ↦ elim (cases_lt b 128) [
    | inl last ↦ absurd
        (not_err (record { value = pos b -ℤ pos 128; size = 1 }) f (sym (signed_low most b bytes high last) ∙ is))
    | inr more ↦ elim
        (then_err (signed_within most bytes) (signed_more b) f (rw (le-ltb b 64 high, le-ltb b 128 more) at is)) [
          | inl first ↦ sleb_longer most b bytes f more (sleb_fails most bytes f first)
          | inr later ↦ absurd
              (not_err (record { value = pos (b % 128) +ℤ (pos 128 *ℤ later.0.value); size = 1 + later.0.size }) f later.2)
        ]
  ]
]

-- so many bytes of which some are missing
pub fixed_fails : (size : ℕ) (bytes : List ℕ) (f : Flaw) → fixed_in size bytes ≡ Err f
    → Fails (λ text. length text ≡ size) (fixed_in size) bytes f
fixed_fails zero bytes f is = absurd (not_err (record { value = 0; size = 0 }) f is)
fixed_fails (suc size) [] f is = inl
    (same_flaw {T = Number} Cut f is, (replicate (suc size) 0, length-replicate (suc size) 0))
fixed_fails (suc size) (b ∷ bytes) f is = elim (then_err (fixed_in size bytes) (fixed_more b) f is) [
  | inl first ↦ fixed_longer size b bytes f (fixed_fails size bytes f first)
  | inr later ↦ absurd (not_err (record { value = b + 256 * later.0.value; size = 1 + later.0.size }) f later.2)
] where
  fixed_longer : (size b : ℕ) (bytes : List ℕ) (f : Flaw) → Fails (λ text. length text ≡ size) (fixed_in size) bytes f
      → Fails (λ text. length text ≡ suc size) (fixed_in (suc size)) (b ∷ bytes) f
  fixed_longer size b bytes f fails = lifted (λ text. length text ≡ size) (λ text. length text
      ≡ suc size) (fixed_in size) (fixed_in (suc size)) bytes (b ∷ bytes) f
      (λ rest is. (rest, omega (arith, is)))
      (λ rest is. ap (λ (r : Result Number Flaw). read_then r (fixed_more b)) is) fails

-- ---- operands

abbrev pub Operated : Form → List ℕ → Type 0
Operated form text = (first : ℕ) × ((second : ℕ) × AreOperands form text first second)

unsigned_fails : (bytes : List ℕ) (f : Flaw) → unsigned_in bytes ≡ Err f → Fails (ShortUleb 9) unsigned_in bytes f
unfolding unsigned_in
unsigned_fails bytes f is = uleb_fails 9 bytes f is

signed_fails : (bytes : List ℕ) (f : Flaw) → signed_in bytes ≡ Err f → Fails (ShortSleb 9) signed_in bytes f
unfolding signed_in
signed_fails bytes f is = sleb_fails 9 bytes f is

abbrev lone : Number → Result Operands Flaw
lone n = Ok (operands n.value 0 n.size)

fixed_operand_fails : (form : Form) (size : ℕ) (bytes : List ℕ) (f : Flaw)
    → ((text : List ℕ) → length text ≡ size → Operated form text) → fixed_operand size bytes ≡ Err f
    → Fails (Operated form) (fixed_operand size) bytes f
fixed_operand_fails form size bytes f means is = elim (then_err (fixed_in size bytes) lone f is) [
  | inl first ↦ lifted (λ text. length text ≡ size) (Operated form) (fixed_in size) (fixed_operand size) bytes bytes f
      (λ more are. (more, means (bytes ++ more) are))
      (λ more fails. ap (λ (r : Result Number Flaw). read_then r lone) fails) (fixed_fails size bytes f first)
  | inr later ↦ absurd (not_err (operands later.0.value 0 later.0.size) f later.2)
]

one_fails : (bytes : List ℕ) (f : Flaw) → one_operand bytes ≡ Err f → Fails (Operated One) one_operand bytes f
one_fails bytes f is = elim (then_err (unsigned_in bytes) lone f is) [
  | inl first ↦ lifted (ShortUleb 9) (Operated One) unsigned_in one_operand bytes bytes f
      (λ more are. (more, (are.0, (0, ((are.1, are.2), refl)))))
      (λ more fails. ap (λ (r : Result Number Flaw). read_then r lone) fails) (unsigned_fails bytes f first)
  | inr later ↦ absurd (not_err (operands later.0.value 0 later.0.size) f later.2)
]

abbrev word : SignedNumber → Result Operands Flaw
word n = Ok (operands (cast_unsigned w64 n.value) 0 n.size)

signed_word_fails : (bytes : List ℕ) (f : Flaw) → signed_operand bytes ≡ Err f
    → Fails (Operated Signed) signed_operand bytes f
signed_word_fails bytes f is = elim (then_err (signed_in bytes) word f is) [
  | inl first ↦ lifted (ShortSleb 9) (Operated Signed) signed_in signed_operand bytes bytes f
      (λ more are.
      (more, (cast_unsigned w64 are.0, (0, (record { number = are.0; is = (are.1, are.2); as_word = refl }, refl)))))
      (λ more fails. ap (λ (r : Result SignedNumber Flaw). read_then r word) fails) (signed_fails bytes f first)
  | inr later ↦ absurd (not_err (operands (cast_unsigned w64 later.0.value) 0 later.0.size) f later.2)
]

-- the first of two numbers fails: any second will do
first_fails : {T : Type 0} (form : Form) (k : List ℕ → Number → Result T Flaw) (bytes : List ℕ) (f : Flaw)
    → ((text : List ℕ) (n : ℕ) → IsUnsigned text n → Operated form (text ++ 0 ∷ [])) → unsigned_in bytes ≡ Err f
    → Fails (Operated form) (λ all. read_then (unsigned_in all) (k all)) bytes f
first_fails form k bytes f means is = lifted (ShortUleb 9) (Operated form) unsigned_in
    (λ all. read_then (unsigned_in all) (k all)) bytes bytes f
    (λ more are. (
      more ++ 0
          ∷ [],
      subst (Operated form) (append_assoc bytes more (0 ∷ [])) (means (bytes ++ more) are.0 (are.1, are.2)),
    ))
    (λ more fails. ap (λ (r : Result Number Flaw). read_then r (k (bytes ++ more))) fails) (unsigned_fails bytes f is)

zero_number : IsUnsigned (0 ∷ []) 0
zero_number = ((omega arith, refl), omega arith)

-- where one number stands, and what is read behind it
behind_one : {T : Type 0} (k : List ℕ → Number → List ℕ → Result T Flaw) (one rest : List ℕ) (first : ℕ)
    (r : Result T Flaw) → IsUnsigned one first
    → k (one ++ rest) (record { value = first; size = length one }) rest ≡ r
    → read_then (unsigned_in (one ++ rest)) (λ n. k (one ++ rest) n (drop n.size (one ++ rest))) ≡ r
behind_one k one rest first r is then =
    ap (λ (x : Result Number Flaw). read_then x (λ n. k (one ++ rest) n (drop n.size (one ++ rest))))
    (unsigned_back one rest first is)
    ∙ ap (λ (l : List ℕ). k (one ++ rest) (record { value = first; size = length one }) l) (drop-append_seam one rest)
    ∙ then

-- the second fails
second_fails : {T U : Type 0} (form : Form) (Is : List ℕ → Type 0) (read : List ℕ → Result T Flaw) (k : List ℕ → Number
    → T → Result U Flaw) (bytes : List ℕ) (f : Flaw) (first : Number)
    → unsigned_in bytes ≡ Ok first
    → ((one two : List ℕ) → IsUnsigned one first.value → Is two → Operated form (one ++ two))
    → ((behind : List ℕ) → read behind ≡ Err f → Fails Is read behind f)
    → read (drop first.size bytes) ≡ Err f
    → Fails (Operated form) (λ all. read_then (unsigned_in all) (λ n. read_then (read (drop n.size all)) (k all n)))
    bytes f
second_fails form Is read k bytes f first is means why fails =
    let one = unsigned_read bytes first is in
    let there : drop first.size bytes
    ≡ one.behind = behind_is bytes one.text one.behind first.size one.parts one.long in
    let grown = λ (more : List ℕ). ap (λ (l : List ℕ). l ++ more) one.parts ∙ append_assoc one.text one.behind more in
    lifted Is (Operated form) read
    (λ all. read_then (unsigned_in all) (λ n. read_then (read (drop n.size all)) (k all n))) one.behind bytes f
    (λ more are.
    (more, subst (Operated form) (sym (grown more)) (means one.text (one.behind ++ more) (one.is, one.short) are)))
    (λ more never.
    ap (λ (l : List ℕ). read_then (unsigned_in l) (λ n. read_then (read (drop n.size l)) (k l n))) (grown more)
    ∙ behind_one (λ all n rest. read_then (read rest) (k all n)) one.text (one.behind
    ++ more) first.value (Err LongNumber) (one.is, one.short)
    (ap
    (λ r. read_then r (k (one.text ++ (one.behind ++ more)) (record { value = first.value; size = length one.text })))
    never))
    (why one.behind (ap read (sym there) ∙ fails))

two_fails : (bytes : List ℕ) (f : Flaw) → two_operands bytes ≡ Err f → Fails (Operated Two) two_operands bytes f
two_fails bytes f is = elim (then_err (unsigned_in bytes) (λ n. second_then bytes n (pair_of n)) f is) [
  | inl first ↦ first_fails Two (λ all n. second_then all n (pair_of n)) bytes f
      (λ text n is. (n, (0, record { one = text; is_first = is; two = 0 ∷ []; is_second = zero_number; parts = refl })))
      first
  | inr later ↦ elim (then_err (unsigned_in (drop later.0.size bytes)) (pair_of later.0) f later.2) [
    | inl second ↦ second_fails Two (ShortUleb 9) unsigned_in (λ all n. pair_of n) bytes f later.0 later.1
        (λ one two is also. (
          later.0.value,
          (also.0, record { one = one; is_first = is; two = two; is_second = (also.1, also.2); parts = refl }),
        ))
        (λ behind fails. unsigned_fails behind f fails) second
    | inr last ↦ absurd (not_err (operands later.0.value last.0.value (later.0.size + last.0.size)) f last.2)
  ]
]

abbrev signed_pair : Number → SignedNumber → Result Operands Flaw
signed_pair n m = Ok (operands n.value (cast_unsigned w64 m.value) (n.size + m.size))

signed_pair_fails : (bytes : List ℕ) (f : Flaw) → signed_operands bytes ≡ Err f
    → Fails (Operated OneSigned) signed_operands bytes f
signed_pair_fails bytes f is = elim
    (then_err (unsigned_in bytes) (λ n. read_then (signed_in (drop n.size bytes)) (signed_pair n)) f is) [
      | inl first ↦ first_fails OneSigned (λ all n. read_then (signed_in (drop n.size all)) (signed_pair n)) bytes f
          (λ text n is. (
            n,
            (
              cast_unsigned w64 (pos 0),
              record {
                one = text;
                is_first = is;
                two = 0
                    ∷ [];
                number = pos 0;
                is_second = ((omega arith, refl), omega arith);
                as_word = refl;
                parts = refl;
              },
            ),
          )) first
      | inr later ↦ elim (then_err (signed_in (drop later.0.size bytes)) (signed_pair later.0) f later.2) [
        | inl second ↦ second_fails OneSigned (ShortSleb 9) signed_in (λ all n. signed_pair n) bytes f later.0 later.1
            (λ one two is also. (
              later.0.value,
              (
                cast_unsigned w64 also.0,
                record {
                  one = one;
                  is_first = is;
                  two = two;
                  number = also.0;
                  is_second = (also.1, also.2);
                  as_word = refl;
                  parts =
                      refl;
                },
              ),
            ))
            (λ behind fails. signed_fails behind f fails) second
        | inr last ↦ absurd (not_err (operands later.0.value (cast_unsigned w64 last.0.value) (later.0.size + last.0.size))
            f last.2)
      ]
    ]

-- the bytes that a block's size says fail
abbrev block_of : List ℕ → Number → Number → Result Operands Flaw
block_of all = block_within (length all)

block_short : (bytes : List ℕ) (f : Flaw) (first second : Number) → unsigned_in bytes ≡ Ok first
    → unsigned_in (drop first.size bytes) ≡ Ok second → block_of bytes first second ≡ Err f
    → Fails (Operated Block) block_operands bytes f
block_short bytes f first second is also fails = elim
    (cases_lt (length bytes - (first.size + second.size)) second.value) [
      | inl short ↦
          let one = unsigned_read bytes first is in
          let there : drop first.size bytes
          ≡ one.behind = behind_is bytes one.text one.behind first.size one.parts one.long in
          let two = unsigned_read one.behind second (ap unsigned_in (sym there) ∙ also) in
          let missing = second.value - length two.behind in
          let whole : length bytes ≡ length one.text + (length two.text + length two.behind) = ap length one.parts
          ∙ length-append one.text one.behind
          ∙ ap (λ (k : ℕ). length one.text + k) (ap length two.parts ∙ length-append two.text two.behind) in
          let nothing : List ℕ = replicate missing 0 in
          let zeros : length nothing ≡ missing = length-replicate missing 0 in
          let long : length (two.behind ++ nothing) ≡ second.value = length-append two.behind nothing
          ∙ omega (arith, zeros, whole, short, one.long, two.long) in
          let grown : bytes ++ nothing ≡ one.text ++ (two.text ++ (two.behind ++ nothing)) =
          ap (λ (l : List ℕ). l ++ nothing) (one.parts ∙ ap (λ (l : List ℕ). one.text ++ l) two.parts)
          ∙ simp append_assoc in
          inl (
            same_flaw {T = Operands} Cut f (rw (lt-ltb (length bytes - (first.size + second.size)) second.value short) at
                fails),
            (
              replicate missing 0,
              (
                first.value,
                (
                  second.value,
                  record {
                    one = one.text;
                    is_first = (one.is, one.short);
                    two = two.text;
                    is_size = (two.is, two.short);
                    block = two.behind ++ nothing;
                    long = long;
                    parts = grown;
                  },
                ),
              ),
            ),
          )
      | inr fits ↦ absurd (not_err (operands first.value second.value (first.size + second.size + second.value)) f
          (rw (le-ltb (length bytes - (first.size + second.size)) second.value fits) at fails))
    ]

-- a size that is cut short: others behind make it a number, and then a block of so many bytes
abbrev SizeAndBlock : List ℕ → Type 0
SizeAndBlock text = (size : List ℕ)
    × ((n : ℕ) × (IsUnsigned size n × ((block : List ℕ) × ((length block ≡ n) × (text ≡ size ++ block)))))

size_fails : (behind : List ℕ) (f : Flaw) → unsigned_in behind ≡ Err f → Fails SizeAndBlock unsigned_in behind f
size_fails behind f fails = lifted (ShortUleb 9) SizeAndBlock unsigned_in unsigned_in behind behind f
    (λ more are. (
      more
          ++ replicate are.0 0,
      (
        behind
            ++ more,
        (
          are.0,
          (
            (are.1, are.2),
            (replicate are.0 0, (length-replicate are.0 0, sym (append_assoc behind more (replicate are.0 0)))),
          ),
        ),
      ),
    ))
    (λ more never. never) (unsigned_fails behind f fails)

block_fails : (bytes : List ℕ) (f : Flaw) → block_operands bytes ≡ Err f → Fails (Operated Block) block_operands bytes f
block_fails bytes f is = elim (then_err (unsigned_in bytes) (λ n. second_then bytes n (block_of bytes n)) f is) [
  | inl first ↦ first_fails Block (λ all n. second_then all n (block_of all n)) bytes f
      (λ text n is. (
        n,
        (
          0,
          record {
            one = text;
            is_first = is;
            two = 0
                ∷ [];
            is_size = zero_number;
            block = [];
            long = refl;
            parts = refl;
          },
        ),
      )) first
  | inr later ↦ elim (then_err (unsigned_in (drop later.0.size bytes)) (block_of bytes later.0) f later.2) [
    | inl second ↦ second_fails Block SizeAndBlock unsigned_in (λ all n. block_of all n) bytes f later.0 later.1
        (λ one two is also. (
          later.0.value,
          (
            also.1.0,
            record {
              one = one;
              is_first = is;
              two = also.0;
              is_size = also.1.1.0;
              block = also.1.1.1.0;
              long =
                  also.1.1.1.1.0;
              parts = ap (λ (l : List ℕ). one ++ l) also.1.1.1.1.1;
            },
          ),
        ))
        (λ behind fails. size_fails behind f fails) second
    | inr last ↦ block_short bytes f later.0 last.0 later.1 last.1 last.2
  ]
]

sized_short : (bytes : List ℕ) (f : Flaw) (first : Number) → Uleb 9 bytes first → sized_within (length bytes) first
    ≡ Err f → Fails (Operated Sized) sized_operands bytes f
sized_short bytes f first one fails = elim (cases_lt (length bytes - first.size) first.value) [
  | inl short ↦
      let nothing : List ℕ = replicate (first.value - length one.behind) 0 in
      let zeros : length nothing
      ≡ first.value - length one.behind = length-replicate (first.value - length one.behind) 0 in
      let whole : length bytes ≡ length one.text + length one.behind = ap length one.parts
      ∙ length-append one.text one.behind in
      let long : length (one.behind ++ nothing) ≡ first.value = length-append one.behind nothing
      ∙ omega (arith, zeros, whole, short, one.long) in
      let grown : bytes ++ nothing ≡ one.text ++ (one.behind ++ nothing) = ap (λ (l : List ℕ). l ++ nothing) one.parts
      ∙ append_assoc one.text one.behind nothing in
      inl (
        same_flaw {T = Operands} Cut f (rw (lt-ltb (length bytes - first.size) first.value short) at fails),
        (
          nothing,
          (
            first.value,
            (
              0,
              (
                record {
                  one = one.text;
                  is_first = (one.is, one.short);
                  block = one.behind
                      ++ nothing;
                  long = long;
                  parts = grown;
                },
                refl,
              ),
            ),
          ),
        ),
      )
  | inr fits ↦ absurd
      (not_err (operands first.value 0 (first.size + first.value)) f
      (rw (le-ltb (length bytes - first.size) first.value fits) at fails))
]

sized_fails : (bytes : List ℕ) (f : Flaw) → sized_operands bytes ≡ Err f → Fails (Operated Sized) sized_operands bytes f
sized_fails bytes f is = elim (then_err (unsigned_in bytes) (sized_within (length bytes)) f is) [
  | inl first ↦ lifted (ShortUleb 9) (Operated Sized) unsigned_in sized_operands bytes bytes f
      (λ more are. (
        more
            ++ replicate are.0 0,
        (
          are.0,
          (
            0,
            (
              record {
                one = bytes
                    ++ more;
                is_first = (are.1, are.2);
                block = replicate are.0 0;
                long = length-replicate are.0 0;
                parts = sym
                    (append_assoc bytes more (replicate are.0 0));
              },
              refl,
            ),
          ),
        ),
      ))
      (λ more fails. ap (λ (r : Result Number Flaw). read_then r (sized_within (length (bytes ++ more)))) fails)
      (unsigned_fails bytes f first)
  | inr later ↦ sized_short bytes f later.0 (unsigned_read bytes later.0 later.1) later.2
]

pub operands_fail : (form : Form) (bytes : List ℕ) (f : Flaw) → operands_in form bytes ≡ Err f
    → Fails (Operated form) (operands_in form) bytes f
unfolding operands_in
operands_fail Plain bytes f is = absurd (not_err (operands 0 0 0) f is)
operands_fail OneByte bytes f is = fixed_operand_fails OneByte 1 bytes f
    (λ text long. (little text, (0, ((long, refl), refl)))) is
operands_fail TwoBytes bytes f is = fixed_operand_fails TwoBytes 2 bytes f
    (λ text long. (little text, (0, ((long, refl), refl)))) is
operands_fail FourBytes bytes f is = fixed_operand_fails FourBytes 4 bytes f
    (λ text long. (little text, (0, ((long, refl), refl)))) is
operands_fail One bytes f is = one_fails bytes f is
operands_fail Signed bytes f is = signed_word_fails bytes f is
operands_fail Two bytes f is = two_fails bytes f is
operands_fail OneSigned bytes f is = signed_pair_fails bytes f is
operands_fail Sized bytes f is = sized_fails bytes f is
operands_fail Block bytes f is = block_fails bytes f is

-- ---- instructions

same_form : (e f : Flaw) → ◌≡◌ {A = Result Read Flaw} (Err e) (Err f) → e ≡ f
same_form e f is = cc

spelled_with : (opcode : ℕ) (form : Form) (text : List ℕ) → form_of opcode ≡ Some form → Operated form text
    → (i : Instruction) × Spells (opcode ∷ text) i
spelled_with opcode form text is (first, (second, are)) = (
  meaning_of opcode (operands first second (length text)),
  record {
    opcode = opcode;
    form = form;
    is_form = is;
    behind = text;
    first = first;
    second = second;
    are_operands =
        are;
    parts = refl;
    means = refl;
  },
)

never_spelled : (bytes : List ℕ) → ((more : List ℕ) → instruction_in (bytes ++ more) ≡ Err LongNumber) → IsNever bytes
never_spelled bytes fails = λ more text rest i parts spells.
    absurd
    (not_err (record { instruction = i; size = length text }) LongNumber
    (sym (ap instruction_in parts ∙ spelled_read text rest i spells) ∙ fails more))

-- why a reading of an instruction fails
pub instruction_fails : (bytes : List ℕ) (f : Flaw) → bytes ≢ [] → instruction_in bytes ≡ Err f → IsFault bytes f
unfolding instruction_in
instruction_fails [] f some is = absurd (some refl)
instruction_fails (opcode ∷ rest) f some is = formed_fails opcode rest f (form_of opcode) refl is where
  formed_fails : (opcode : ℕ) (rest : List ℕ) (f : Flaw) (form : Option Form) → form_of opcode ≡ form
      → formed_in opcode rest form ≡ Err f → IsFault (opcode ∷ rest) f
  formed_fails opcode rest f None is fails = subst (IsFault (opcode ∷ rest)) (same_form (Unknown opcode) f fails)
      (rest, (refl, is))
  formed_fails opcode rest f (Some form) is fails = elim (then_err (operands_in form rest) (read_of opcode) f fails) [
    | inl first ↦ elim (operands_fail form rest f first) [
      | inl cut ↦ subst (IsFault (opcode ∷ rest)) cut.0 (cut.1.0, spelled_with opcode form (rest ++ cut.1.0) is cut.1.1)
      | inr long ↦ subst (IsFault (opcode ∷ rest)) long.0 (
        opcode,
        (
          rest,
          (
            form,
            (
              refl,
              (
                is,
                never_spelled (opcode ∷ rest) (λ more.
                    ap (formed_in opcode (rest ++ more)) is
                    ∙ ap (λ (r : Result Operands Flaw). read_then r (read_of opcode)) (long.1 more)),
              ),
            ),
          ),
        ),
      )
    ]
    | inr later ↦ absurd (not_err (record { instruction = meaning_of opcode later.0; size = 1 + later.0.size }) f
        later.2)
  ]

-- one cause alone
some_or_none : (opcode other : ℕ) (rest others : List ℕ) (form : Form) → opcode ∷ rest ≡ other ∷ others → form_of opcode
    ≡ None → form_of other ≡ Some form → ⊥
some_or_none opcode other rest others form same none some =
    let first : opcode ≡ other = cc in
    form_twice form (sym none ∙ ap form_of first ∙ some) where
      form_twice : (form : Form) → ◌≡◌ {A = Option Form} None (Some form) → ⊥
      form_twice form e = cc

spelled_form : (opcode : ℕ) (rest text : List ℕ) (i : Instruction) → Spells text i → text ≡ opcode ∷ rest
    → (form : Form) × (form_of opcode ≡ Some form)
spelled_form opcode rest text i s is = (
  s.form,
  ap form_of (heads opcode s.opcode rest s.behind (sym is ∙ s.parts))
      ∙ s.is_form,
) where
  heads : (a b : ℕ) (xs ys : List ℕ) → a ∷ xs ≡ b ∷ ys → a ≡ b
  heads a b xs ys e = cc

unknown_not_cut : (bytes : List ℕ) (opcode : ℕ) → IsFault bytes (Unknown opcode) → IsFault bytes Cut → ⊥
unknown_not_cut bytes opcode (rest, (is, none)) (more, (i, spells)) =
    let form = spelled_form opcode (rest ++ more) (bytes ++ more) i spells (ap (λ (l : List ℕ). l ++ more) is) in
    some_or_none opcode opcode rest rest form.0 refl none form.1

unknown_not_long : (bytes : List ℕ) (opcode : ℕ) → IsFault bytes (Unknown opcode) → IsFault bytes LongNumber → ⊥
unknown_not_long bytes opcode (rest, (is, none)) (other, (others, (form, (also, (some, never))))) = some_or_none opcode
    other rest others form (sym is ∙ also) none some

cut_not_long : (bytes : List ℕ) → IsFault bytes Cut → IsFault bytes LongNumber → ⊥
cut_not_long bytes (more, (i, spells)) (other, (others, (form, (also, (some, never))))) = never more (bytes
    ++ more) [] i (sym (append-nil (bytes ++ more))) spells

one_unknown : (bytes : List ℕ) (opcode other : ℕ) → IsFault bytes (Unknown opcode) → IsFault bytes (Unknown other)
    → opcode ≡ other
one_unknown bytes opcode other (rest, (is, none)) (others, (also, missing)) = first opcode other rest others (sym is
    ∙ also) where
      first : (a b : ℕ) (xs ys : List ℕ) → a ∷ xs ≡ b ∷ ys → a ≡ b
      first a b xs ys e = cc

pub one_fault : (bytes : List ℕ) (e f : Flaw) → IsFault bytes e → IsFault bytes f → e ≡ f
one_fault bytes Cut Cut x y = refl
one_fault bytes (Unknown a) (Unknown b) x y = ap (λ (n : ℕ). Unknown n) (one_unknown bytes a b x y)
one_fault bytes LongNumber LongNumber x y = refl
one_fault bytes (Unknown a) Cut x y = absurd (unknown_not_cut bytes a x y)
one_fault bytes Cut (Unknown b) x y = absurd (unknown_not_cut bytes b y x)
one_fault bytes (Unknown a) LongNumber x y = absurd (unknown_not_long bytes a x y)
one_fault bytes LongNumber (Unknown b) x y = absurd (unknown_not_long bytes b y x)
one_fault bytes Cut LongNumber x y = absurd (cut_not_long bytes x y)
one_fault bytes LongNumber Cut x y = absurd (cut_not_long bytes y x)
one_fault bytes NothingRemembered f x y = absurd x
one_fault bytes TooManyRemembered f x y = absurd x
one_fault bytes NoCfa f x y = absurd x
one_fault bytes LongExpression f x y = absurd x
one_fault bytes OtherMachine f x y = absurd x
one_fault bytes e NothingRemembered x y = absurd y
one_fault bytes e TooManyRemembered x y = absurd y
one_fault bytes e NoCfa x y = absurd y
one_fault bytes e LongExpression x y = absurd y
one_fault bytes e OtherMachine x y = absurd y
