-- What is escaped ends no line, and in a name it has no quote.
use Rattle.std.proofs.Common.{◌≡◌, ◌≢◌, ℕ, zero, suc, ◌+◌, ◌/◌, ◌%◌, ◌≤◌, Bool, true, false, cond, ltb, List, [], ◌∷◌}
use Rattle.std.proofs.Common.{◌++◌, refl, arith}
use Rattle.std.proofs.lemmas.Bool.Decides.{nat_tests}
use Rattle.std.proofs.lemmas.List.Elements.{All-append, All-cons, All-nil, All-weaker}
use Rattle.std.specs.Prelude.{All, ◌||◌, ◌&&◌, not, nat_eq, nat_le, nat_lt, ◌==◌, if◌then◌else◌, codes}
use Rattle.std.specs.Char.{encode_utf8}
use Rattle.std.specs.Fmt.{digits, digits_onto, digit_glyph}
use Rattle.std.specs.List.{flat_map}
use Rattle.native_frames.specs.Escape.{escaped, escaped_character, is_control, stands_plain}

-- a byte of a line: no control character, and no quote where none may stand
abbrev Plain : Bool → ℕ → Type 0
Plain is_name b = (32 ≤ b) × (is_name ≡ true → b ≢ 34)

from_48 : (is_name : Bool) (b : ℕ) → 48 ≤ b → Plain is_name b
from_48 is_name b h = (omega (arith, h), λ name. omega (arith, h))

glyph_from : (d : ℕ) → 48 ≤ digit_glyph false d
glyph_from d =
    elim (ltb d 10) as (λ t. 48 ≤ (if t then 48 + d else (if false then 55 + d else 87 + d)))
    [ true ↦ omega arith | false ↦ omega arith ]

onto_from : (k n : ℕ) (acc : List ℕ) → All (λ b. 48 ≤ b) acc → All (λ b. 48 ≤ b) (digits_onto k 16 false n acc)
onto_from zero n acc h = h
onto_from (suc k) n acc h =
    let glyph = digit_glyph false (n % 16) in
    let here : All (λ b. 48 ≤ b) (glyph ∷ acc) = All-cons (λ b. 48 ≤ b) glyph acc (glyph_from (n % 16)) h in
    elim (n / 16 == 0) as
    (λ t. All (λ b. 48 ≤ b) (if t then glyph ∷ acc else digits_onto k 16 false (n / 16) (glyph ∷ acc)))
    [ true ↦ here | false ↦ onto_from k (n / 16) (glyph ∷ acc) here ]

-- hexadecimal digits
pub digits_from : (n : ℕ) → All (λ b. 48 ≤ b) (digits 16 false n)
unfolding digits
digits_from n = onto_from 64 n [] (All-nil (λ b. 48 ≤ b))

digits_plain : (is_name : Bool) (n : ℕ) → All (Plain is_name) (digits 16 false n)
digits_plain is_name n =
    All-weaker (λ b. 48 ≤ b) (Plain is_name) (from_48 is_name) (digits 16 false n) (digits_from n)

code_plain : (is_name : Bool) (c : ℕ) → All (Plain is_name) (codes "\\u{" ++ (digits 16 false c ++ codes "}"))
code_plain is_name c =
    let P = Plain is_name in
    let close : All P (codes "}") = All-cons P 125 [] (from_48 is_name 125 (omega arith)) (All-nil P) in
    let open_it : All P (codes "\\u{") = All-cons P 92 (117 ∷ 123 ∷ []) (from_48 is_name 92 (omega arith))
    (All-cons P 117 (123 ∷ []) (from_48 is_name 117 (omega arith))
    (All-cons P 123 [] (from_48 is_name 123 (omega arith)) (All-nil P))) in
    All-append P (codes "\\u{") (digits 16 false c ++ codes "}") open_it
    (All-append P (digits 16 false c) (codes "}") (digits_plain is_name c) close)

one_plain : (is_name : Bool) (a : ℕ) → Plain is_name a → All (Plain is_name) (a ∷ [])
one_plain is_name a h = All-cons (Plain is_name) a [] h (All-nil (Plain is_name))

two_plain : (is_name : Bool) (a b : ℕ) → 48 ≤ a → 48 ≤ b → All (Plain is_name) (a ∷ b ∷ [])
two_plain is_name a b h k = All-cons (Plain is_name) a (b ∷ []) (from_48 is_name a h)
    (one_plain is_name b (from_48 is_name b k))

three_plain : (is_name : Bool) (a b c : ℕ) → 48 ≤ a → 48 ≤ b → 48 ≤ c → All (Plain is_name) (a ∷ b ∷ c ∷ [])
three_plain is_name a b c h k i = All-cons (Plain is_name) a (b ∷ c ∷ []) (from_48 is_name a h)
    (two_plain is_name b c k i)

four_plain : (is_name : Bool) (a b c d : ℕ) → 48 ≤ a → 48 ≤ b → 48 ≤ c → 48 ≤ d
    → All (Plain is_name) (a ∷ b ∷ c ∷ d ∷ [])
four_plain is_name a b c d h k i j = All-cons (Plain is_name) a (b ∷ c ∷ d ∷ []) (from_48 is_name a h)
    (three_plain is_name b c d k i j)

more_48 : (b : ℕ) → 48 ≤ 128 + b
more_48 b = omega arith

encode_plain : (is_name : Bool) (c : ℕ) → Plain is_name c → All (Plain is_name) (encode_utf8 c)
unfolding encode_utf8
encode_plain is_name c h =
    let P = Plain is_name in
    elim (ltb c 128) as
    (λ t. All P
    (cond t (c ∷ [])
    (cond (ltb c 2048) ((192 + c / 64) ∷ (128 + c % 64) ∷ [])
    (cond (ltb c 65536) ((224 + c / 4096) ∷ (128 + c / 64 % 64) ∷ (128 + c % 64) ∷ [])
    ((240 + c / 262144) ∷ (128 + c / 4096 % 64) ∷ (128 + c / 64 % 64) ∷ (128 + c % 64) ∷ []))))) [
      | true ↦ one_plain is_name c h
      | false ↦ elim (ltb c 2048) as
          (λ t. All P
          (cond t ((192 + c / 64) ∷ (128 + c % 64) ∷ [])
          (cond (ltb c 65536) ((224 + c / 4096) ∷ (128 + c / 64 % 64) ∷ (128 + c % 64) ∷ [])
          ((240 + c / 262144) ∷ (128 + c / 4096 % 64) ∷ (128 + c / 64 % 64) ∷ (128 + c % 64) ∷ [])))) [
            | true ↦ two_plain is_name (192 + c / 64) (128 + c % 64) (omega arith) (more_48 (c % 64))
            | false ↦ elim (ltb c 65536) as
                (λ t. All P
                (cond t ((224 + c / 4096) ∷ (128 + c / 64 % 64) ∷ (128 + c % 64) ∷ [])
                ((240 + c / 262144) ∷ (128 + c / 4096 % 64) ∷ (128 + c / 64 % 64) ∷ (128 + c % 64) ∷ []))) [
                  | true ↦ three_plain is_name (224 + c / 4096) (128 + c / 64 % 64) (128 + c % 64) (omega arith)
                      (more_48 (c / 64 % 64)) (more_48 (c % 64))
                  | false ↦ four_plain is_name (240 + c / 262144) (128 + c / 4096 % 64) (128 + c / 64 % 64)
                      (128 + c % 64) (omega arith) (more_48 (c / 4096 % 64)) (more_48 (c / 64 % 64)) (more_48 (c % 64))
                ]
          ]
    ]

first_of_four : (a b c d : Bool) → (((a || b) || c) || d) ≡ false → a ≡ false
first_of_four false b c d e = refl
first_of_four true b c d e = absurd (cc)

-- a character that stands for itself
stands_safe : (is_name : Bool) (c : ℕ) → stands_plain is_name c ≡ true → Plain is_name c
stands_safe is_name c e = by_control (is_control c) refl e
  where
    by_quote : (name : Bool) → not (name && (nat_eq c 34 || nat_eq c 92)) ≡ true → name ≡ true → c ≢ 34
    by_quote true e name same = let is : nat_eq c 34 ≡ true = grind (arith, nat_tests) in absurd
        (quoted (nat_eq c 34) (nat_eq c 92) is e)
      where
        quoted : (a b : Bool) → a ≡ true → not (true && (a || b)) ≡ true → ⊥
        quoted true b is e = cc
        quoted false b is e = cc
    by_quote false e name same = cc

    by_control : (control : Bool) → is_control c ≡ control
        → (if control then false else not (is_name && (nat_eq c 34 || nat_eq c 92))) ≡ true → Plain is_name c
    by_control true is e = absurd (cc)
    by_control false is e =
        let low : nat_lt c 32 ≡ false = first_of_four (nat_lt c 32) (nat_le 127 c && nat_lt c 160) (nat_eq c 0x2028)
        (nat_eq c 0x2029) is in
        (grind (arith, nat_tests), by_quote is_name e)

character_plain : (is_name : Bool) (c : ℕ) (stands : Bool) → stands_plain is_name c ≡ stands
    → All (Plain is_name) (escaped_character is_name c)
character_plain is_name c true e = rw e (encode_plain is_name c (stands_safe is_name c e))
character_plain is_name c false e = rw e (code_plain is_name c)

all_plain : (is_name : Bool) (text : List ℕ) → All (Plain is_name) (escaped is_name text)
unfolding escaped
all_plain is_name [] = All-nil (Plain is_name)
all_plain is_name (c ∷ cs) = All-append (Plain is_name) (escaped_character is_name c)
    (flat_map (escaped_character is_name) cs) (character_plain is_name c (stands_plain is_name c) refl)
    (all_plain is_name cs)

pub one_line : (is_name : Bool) (text : List ℕ) → All (λ b. 32 ≤ b) (escaped is_name text)
one_line is_name text = All-weaker (Plain is_name) (λ b. 32 ≤ b) (λ b h. h.0) (escaped is_name text)
    (all_plain is_name text)

pub no_quote : (is_name : Bool) (text : List ℕ) → is_name ≡ true → All (λ b. b ≢ 34) (escaped is_name text)
no_quote is_name text name = All-weaker (Plain is_name) (λ b. b ≢ 34) (λ b h. h.1 name) (escaped is_name text)
    (all_plain is_name text)
