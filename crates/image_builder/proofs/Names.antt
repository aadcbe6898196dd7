-- Names of ASCII characters.
use Rattle.std.proofs.Common.{◌≡◌, ◌∙◌, ◌<◌, ◌^◌, ℕ, List, [], ◌∷◌, ◌++◌, ap, arith}
use Rattle.std.specs.Str.{chars, IsAscii}
use Rattle.std.specs.Fmt.{decimal}
use Rattle.std.proofs.lemmas.Str.{IsAscii-append, chars-IsAscii}
use Rattle.std.proofs.lemmas.Str.Ascii.{IsAscii-cons, IsAscii-nil}
use Rattle.std.proofs.lemmas.Fmt.{IsAscii-decimal}

pub one_letter : (c : ℕ) → c < 128 → chars (c ∷ []) ≡ c ∷ []
one_letter c small = chars-IsAscii (c ∷ []) (IsAscii-cons c [] small IsAscii-nil)

pub letter_number : (bytes : List ℕ) (c n : ℕ) → c < 128 → n < 2 ^ 64 → bytes ≡ c ∷ decimal n
    → chars bytes ≡ c ∷ decimal n
letter_number bytes c n letter small is =
    ap chars is ∙ chars-IsAscii (c ∷ decimal n) (IsAscii-cons c (decimal n) letter (IsAscii-decimal n small))

ending_ascii : IsAscii (46 ∷ 112 ∷ 121 ∷ [])
ending_ascii = IsAscii-cons 46 (112 ∷ 121 ∷ []) (omega arith)
    (IsAscii-cons 112 (121 ∷ []) (omega arith) (IsAscii-cons 121 [] (omega arith) IsAscii-nil))

pub letter_file : (bytes : List ℕ) (c n : ℕ) → c < 128 → n < 2 ^ 64 → bytes ≡ c ∷ (decimal n ++ 46 ∷ 112 ∷ 121 ∷ [])
    → chars bytes ≡ c ∷ (decimal n ++ 46 ∷ 112 ∷ 121 ∷ [])
letter_file bytes c n letter small is =
    let name = decimal n ++ 46 ∷ 112 ∷ 121 ∷ [] in
    ap chars is ∙ chars-IsAscii (c ∷ name) (IsAscii-cons c name letter
    (IsAscii-append (decimal n) (46 ∷ 112 ∷ 121 ∷ []) (IsAscii-decimal n small) ending_ascii))
