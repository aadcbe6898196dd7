-- What is spelled is what is read, and the other way round.
use Rattle.std.proofs.Common.{◌≡◌, ◌∙◌, ℕ, zero, suc, ◌+◌, ◌*◌, ◌%◌, ◌<◌, ◌≤◌, List, [], ◌∷◌, ◌++◌, length}
use Rattle.std.proofs.Common.{cond, ltb, refl, sym, ap, arith, ℤ, pos, ◌+ℤ◌, ◌-ℤ◌, ◌*ℤ◌, inl, inr}
use Rattle.std.specs.Prelude.{Result, Ok, Err}
use Rattle.std.proofs.lemmas.Bool.{cases_lt, lt-ltb, le-ltb}
use Rattle.frame_rows.specs.declared.number.Number.{Number}
use Rattle.frame_rows.specs.declared.number.SignedNumber.{SignedNumber}
use Rattle.frame_rows.specs.declared.number.Flaw.{Flaw}
use Rattle.frame_rows.specs.Numbers.{IsUleb, IsSleb, little, read_then, unsigned_within, unsigned_more, signed_within}
use Rattle.frame_rows.specs.Numbers.{signed_more}
use Rattle.frame_rows.specs.Numbers.{fixed_in, fixed_more}

-- ---- reading, one step behind another

pub then_ok : {T U : Type 0} (r : Result T Flaw) (f : T → Result U Flaw) (u : U) → read_then r f ≡ Ok u → (x : T)
    × (r ≡ Ok x) × (f x ≡ Ok u)
then_ok (Ok x) f u is = (x, refl, is)
then_ok (Err flaw) f u is = absurd cc

-- ---- numbers

pub record Uleb (most : ℕ) (bytes : List ℕ) (u : Number) : Type 0 where
  pub text : List ℕ
  pub behind : List ℕ
  pub parts : bytes ≡ text ++ behind
  pub is : IsUleb text u.value
  pub long : u.size ≡ length text
  pub short : length text ≤ most

pub uleb_more : (b : ℕ) (text : List ℕ) (n high : ℕ) → 128 ≤ b → n ≡ b % 128 + 128 * high → IsUleb text high
    → IsUleb (b ∷ text) n
uleb_more b [] n high more is h = absurd h
uleb_more b (c ∷ text) n high more is h = (more, (high, is, h))

uleb_joined : (b : ℕ) (bytes : List ℕ) (most : ℕ) (u high : Number) → Uleb most bytes high → 128 ≤ b
    → unsigned_more b high ≡ Ok u → Uleb (suc most) (b ∷ bytes) u
uleb_joined b bytes most u high rest more joined =
    let same : record { value = b % 128 + 128 * high.value; size = 1 + high.size } ≡ u = cc in
    let value : b % 128 + 128 * high.value ≡ u.value = ap (λ (x : Number). x.value) same in
    let size : 1 + high.size ≡ u.size = ap (λ (x : Number). x.size) same in
    record {
      text = b ∷ rest.text;
      behind = rest.behind;
      parts = ap (λ (l : List ℕ). b ∷ l) rest.parts;
      is = uleb_more b rest.text u.value high.value more (sym value) rest.is;
      long = omega (arith, size, rest.long);
      short = omega (arith, rest.short);
    }

pub uleb_read : (most : ℕ) (bytes : List ℕ) (u : Number) → unsigned_within most bytes ≡ Ok u → Uleb most bytes u
uleb_read zero bytes u is = absurd cc
uleb_read (suc most) [] u is = absurd cc
uleb_read (suc most) (b ∷ bytes) u is = elim (cases_lt b 128) [
  | inl last ↦
      let one = rw (lt-ltb b 128 last) at is in
      let same : record { value = b % 128; size = 1 } ≡ u = cc in
      let value : b % 128 ≡ u.value = ap (λ (x : Number). x.value) same in
      let size : 1 ≡ u.size = ap (λ (x : Number). x.size) same in
      record {
        text = b
            ∷ [];
        behind = bytes;
        parts = refl;
        is = (last, omega (arith, value, last));
        long = omega (arith, size);
        short
            = omega arith;
      }
  | inr more ↦
      let later = then_ok (unsigned_within most bytes) (unsigned_more b) u (rw (le-ltb b 128 more) at is) in
      uleb_joined b bytes most u later.0 (uleb_read most bytes later.0 later.1) more later.2
]

same_number : (v w s t : ℕ) → v ≡ w → s ≡ t
    → ◌≡◌ {A = Result Number Flaw} (Ok (record { value = v; size = s })) (Ok (record { value = w; size = t }))
same_number v w s t value size = rw (value, size) refl

pub uleb_back : (most : ℕ) (text rest : List ℕ) (n : ℕ) → IsUleb text n → length text ≤ most
    → unsigned_within most (text ++ rest) ≡ Ok (record { value = n; size = length text })
uleb_back most [] rest n is short = absurd is
uleb_back zero (b ∷ text) rest n is short = absurd (omega (arith, short))
uleb_back (suc most) (b ∷ []) rest n is short = rw (lt-ltb b 128 is.0)
    (same_number (b % 128) n 1 1 (omega (arith, is.0, is.1)) refl)
uleb_back (suc most) (b ∷ c ∷ text) rest n is short =
    let later = uleb_back most (c ∷ text) rest is.1.0 is.1.2 (omega (arith, short)) in
    rw (le-ltb b 128 is.0) (ap (λ (r : Result Number Flaw). read_then r (unsigned_more b)) later
    ∙ same_number (b % 128 + 128 * is.1.0) n (1 + length (c ∷ text)) (length (b ∷ c ∷ text)) (sym is.1.1) (omega arith))

-- with a sign
pub record Sleb (most : ℕ) (bytes : List ℕ) (u : SignedNumber) : Type 0 where
  pub text : List ℕ
  pub behind : List ℕ
  pub parts : bytes ≡ text ++ behind
  pub is : IsSleb text u.value
  pub long : u.size ≡ length text
  pub short : length text ≤ most

pub sleb_more : (b : ℕ) (text : List ℕ) (n high : ℤ) → 128 ≤ b → n ≡ pos (b % 128) +ℤ (pos 128 *ℤ high)
    → IsSleb text high → IsSleb (b ∷ text) n
sleb_more b [] n high more is h = absurd h
sleb_more b (c ∷ text) n high more is h = (more, (high, is, h))

sleb_last : (b : ℕ) (bytes : List ℕ) (value : ℤ) (most : ℕ) (u : SignedNumber) → b < 128
    → cond (ltb b 64) (pos b) (pos b -ℤ pos 128) ≡ value
    → ◌≡◌ {A = Result SignedNumber Flaw} (Ok (record { value = value; size = 1 })) (Ok u)
    → Sleb (suc most) (b ∷ bytes) u
sleb_last b bytes value most u last is one =
    let same : record { value = value; size = 1 } ≡ u = cc in
    let sum : value ≡ u.value = ap (λ (x : SignedNumber). x.value) same in
    let size : 1 ≡ u.size = ap (λ (x : SignedNumber). x.size) same in
    record {
      text = b
          ∷ [];
      behind = bytes;
      parts = refl;
      is = (last, sym sum ∙ sym is);
      long = omega (arith, size);
      short = omega
          arith;
    }

-- the difference has the test in it, so both sides are rewritten at once
pub signed_low : (most b : ℕ) (bytes : List ℕ) → 64 ≤ b → b < 128 → signed_within (suc most) (b ∷ bytes)
    ≡ Ok (record { value = pos b -ℤ pos 128; size = 1 })
signed_low most b bytes high last = rw (le-ltb b 64 high, lt-ltb b 128 last) refl

pub sleb_read : (most : ℕ) (bytes : List ℕ) (u : SignedNumber) → signed_within most bytes ≡ Ok u → Sleb most bytes u
sleb_read zero bytes u is = absurd cc
sleb_read (suc most) [] u is = absurd cc
sleb_read (suc most) (b ∷ bytes) u is = elim (cases_lt b 64) [
  | inl low ↦ sleb_last b bytes (pos b) most u (omega (arith, low)) (rw (lt-ltb b 64 low) refl)
      (rw (lt-ltb b 64 low) at is)
  | inr high ↦ elim (cases_lt b 128) [
    | inl last ↦ sleb_last b bytes (pos b -ℤ pos 128) most u last (rw (le-ltb b 64 high) refl)
        (sym (signed_low most b bytes high last) ∙ is)
    | inr more ↦
        let later = then_ok (signed_within most bytes) (signed_more b) u
        (rw (le-ltb b 64 high, le-ltb b 128 more) at is) in
        let rest = sleb_read most bytes later.0 later.1 in
        sleb_joined b bytes most u later.0 rest more later.2
  ]
] where
  sleb_joined : (b : ℕ) (bytes : List ℕ) (most : ℕ) (u high : SignedNumber) → Sleb most bytes high → 128 ≤ b
      → signed_more b high ≡ Ok u → Sleb (suc most) (b ∷ bytes) u
  sleb_joined b bytes most u high rest more joined =
      let same : record { value = pos (b % 128) +ℤ (pos 128 *ℤ high.value); size = 1 + high.size } ≡ u = cc in
      let value : pos (b % 128) +ℤ (pos 128 *ℤ high.value) ≡ u.value = ap (λ (x : SignedNumber). x.value) same in
      let size : 1 + high.size ≡ u.size = ap (λ (x : SignedNumber). x.size) same in
      record {
        text = b ∷ rest.text;
        behind = rest.behind;
        parts = ap (λ (l : List ℕ). b ∷ l) rest.parts;
        is = sleb_more b rest.text u.value high.value more (sym value) rest.is;
        long = omega (arith, size, rest.long);
        short = omega (arith, rest.short);
      }

same_signed : (v w : ℤ) (s t : ℕ) → v ≡ w → s ≡ t
    → ◌≡◌ {A = Result SignedNumber Flaw} (Ok (record { value = v; size = s })) (Ok (record { value = w; size = t }))
same_signed v w s t value size = rw (value, size) refl

sleb_back_last : (most b : ℕ) (rest : List ℕ) (n : ℤ) → b < 128 → n ≡ cond (ltb b 64) (pos b) (pos b -ℤ pos 128)
    → signed_within (suc most) (b ∷ rest) ≡ Ok (record { value = n; size = 1 })
sleb_back_last most b rest n last is = elim (cases_lt b 64) [
  | inl low ↦ rw (lt-ltb b 64 low) (same_signed (pos b) n 1 1 (sym (rw (lt-ltb b 64 low) at is)) refl)
  | inr high ↦ signed_low most b rest high last
      ∙ same_signed (pos b -ℤ pos 128) n 1 1 (sym (rw (le-ltb b 64 high) at is)) refl
]

pub sleb_back : (most : ℕ) (text rest : List ℕ) (n : ℤ) → IsSleb text n → length text ≤ most
    → signed_within most (text ++ rest) ≡ Ok (record { value = n; size = length text })
sleb_back most [] rest n is short = absurd is
sleb_back zero (b ∷ text) rest n is short = absurd (omega (arith, short))
sleb_back (suc most) (b ∷ []) rest n is short = sleb_back_last most b rest n is.0 is.1
sleb_back (suc most) (b ∷ c ∷ text) rest n is short =
    let later = sleb_back most (c ∷ text) rest is.1.0 is.1.2 (omega (arith, short)) in
    let high : 64 ≤ b = omega (arith, is.0) in
    rw (le-ltb b 64 high, le-ltb b 128 is.0) (ap (λ (r : Result SignedNumber Flaw). read_then r (signed_more b)) later
    ∙ same_signed (pos (b % 128) +ℤ (pos 128 *ℤ is.1.0)) n (1 + length (c ∷ text)) (length (b ∷ c ∷ text)) (sym is.1.1)
    (omega arith))

-- of so many bytes
pub record Fixed (size : ℕ) (bytes : List ℕ) (u : Number) : Type 0 where
  pub text : List ℕ
  pub behind : List ℕ
  pub parts : bytes ≡ text ++ behind
  pub is : u.value ≡ little text
  pub long : u.size ≡ length text
  pub exact : length text ≡ size

pub fixed_read : (size : ℕ) (bytes : List ℕ) (u : Number) → fixed_in size bytes ≡ Ok u → Fixed size bytes u
fixed_read zero bytes u is =
    let same : record { value = 0; size = 0 } ≡ u = cc in
    record {
      text = [];
      behind = bytes;
      parts = refl;
      is = sym (ap (λ (x : Number). x.value) same);
      long = sym
          (ap (λ (x : Number). x.size) same);
      exact = refl;
    }
fixed_read (suc size) [] u is = absurd cc
fixed_read (suc size) (b ∷ bytes) u is =
    let later = then_ok (fixed_in size bytes) (fixed_more b) u is in
    fixed_joined b bytes size u later.0 (fixed_read size bytes later.0 later.1) later.2 where
      fixed_joined : (b : ℕ) (bytes : List ℕ) (size : ℕ) (u high : Number) → Fixed size bytes high → fixed_more b high
          ≡ Ok u → Fixed (suc size) (b ∷ bytes) u
      fixed_joined b bytes size u high rest joined =
          let same : record { value = b + 256 * high.value; size = 1 + high.size } ≡ u = cc in
          let value : b + 256 * high.value ≡ u.value = ap (λ (x : Number). x.value) same in
          let long : 1 + high.size ≡ u.size = ap (λ (x : Number). x.size) same in
          record {
            text = b ∷ rest.text;
            behind = rest.behind;
            parts = ap (λ (l : List ℕ). b ∷ l) rest.parts;
            is = omega (arith, value, rest.is);
            long = omega (arith, long, rest.long);
            exact = omega (arith, rest.exact);
          }

pub fixed_back : (size : ℕ) (text rest : List ℕ) → length text ≡ size → fixed_in size (text ++ rest)
    ≡ Ok (record { value = little text; size = length text })
fixed_back zero [] rest is = refl
fixed_back zero (b ∷ text) rest is = absurd (omega (arith, is))
fixed_back (suc size) [] rest is = absurd (omega (arith, is))
fixed_back (suc size) (b ∷ text) rest is =
    ap (λ (r : Result Number Flaw). read_then r (fixed_more b)) (fixed_back size text rest (omega (arith, is)))
    ∙ same_number (b + 256 * little text) (little (b ∷ text)) (1 + length text) (length (b ∷ text)) refl (omega arith)
