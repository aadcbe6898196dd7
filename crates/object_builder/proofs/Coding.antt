-- The bytes of characters, by the lowest bytes of their codes.
use Rattle.std.proofs.Common.{◌≡◌, ◌<◌, ◌%◌, ℕ, true, List, [], ◌∷◌, ◌++◌, ltb, refl, ap, ap₂, arith}
use Rattle.std.specs.List.{flat_map}
use Rattle.std.specs.Int.{w16, w32, to_le_bytes}
use Rattle.std.proofs.lemmas.Bool.{and_parts, ltb-true}
use Rattle.std.proofs.str.Utf16.{one_unit}
use Rattle.py_builtins.specs.TextKind.{coded}
use Rattle.py_builtins.specs.declared.coding.TextKind.TheVariants.{Latin1, Utf16, Utf32}
use Rattle.object_builder.specs.Sizes.{all_under}
use Rattle.object_builder.specs.Texts.{code_bytes}

low_byte : (c : ℕ) → c < 0x100 → code_bytes 1 c ≡ c ∷ []
low_byte c small = let same : c % 256 ≡ c = omega arith in ap (λ x. x ∷ []) same

low_two : (c : ℕ) → c < 0x1_0000 → code_bytes 2 c ≡ to_le_bytes w16 c
low_two c small = refl

low_four : (c : ℕ) → code_bytes 4 c ≡ to_le_bytes w32 c
low_four c = refl

pub latin_is : (cs : List ℕ) → all_under 0x100 cs ≡ true → flat_map (code_bytes 1) cs ≡ coded Latin1 cs
unfolding coded
latin_is [] e = refl
latin_is (c ∷ cs) e =
    let p = and_parts (ltb c 0x100) (all_under 0x100 cs) e in
    ap₂ (λ xs ys. xs ++ ys) (low_byte c (ltb-true c 0x100 p.0)) (latin_is cs p.1)

pub utf16_is : (cs : List ℕ) → all_under 0x1_0000 cs ≡ true → flat_map (code_bytes 2) cs ≡ coded Utf16 cs
unfolding coded
utf16_is [] e = refl
utf16_is (c ∷ cs) e =
    let p = and_parts (ltb c 0x1_0000) (all_under 0x1_0000 cs) e in
    let small = ltb-true c 0x1_0000 p.0 in
    rw (one_unit c small) (ap₂ (λ xs ys. xs ++ ys) (low_two c small) (utf16_is cs p.1))

pub utf32_is : (cs : List ℕ) → flat_map (code_bytes 4) cs ≡ coded Utf32 cs
unfolding coded
utf32_is [] = refl
utf32_is (c ∷ cs) = ap₂ (λ xs ys. xs ++ ys) (low_four c) (utf32_is cs)
