-- The letters of a release and its serial number, as they are written.
use Rattle.std.proofs.Common.{◌≡◌, ◌≢◌, ℕ, ◌<◌, false, List, [], ◌∷◌, ◌++◌, lit<, refl, ap, ◌∙◌, arith}
use Rattle.std.specs.Prelude.{◌==◌, codes, decimal, IsAscii}
use Rattle.std.specs.Str.{chars}
use Rattle.std.proofs.lemmas.Bool.Decides.{nat_tests}
use Rattle.std.proofs.lemmas.Fmt.{IsAscii-decimal}
use Rattle.std.proofs.lemmas.List.Elements.{All-cons, All-nil}
use Rattle.std.proofs.lemmas.Str.Ascii.{IsAscii-from_all}
use Rattle.std.proofs.lemmas.Str.{IsAscii-append, chars-IsAscii}
use Rattle.py_process.specs.Sources.{flags_of}

abbrev IsLow : ℕ → Type 0
IsLow b = b < 128

pub a_ascii : IsAscii (codes "a")
a_ascii = IsAscii-from_all (codes "a") (All-cons IsLow 97 [] (lit< tt) (All-nil IsLow))

pub b_ascii : IsAscii (codes "b")
b_ascii = IsAscii-from_all (codes "b") (All-cons IsLow 98 [] (lit< tt) (All-nil IsLow))

pub rc_ascii : IsAscii (codes "rc")
rc_ascii = IsAscii-from_all (codes "rc") (All-cons IsLow 114 (99 ∷ []) (lit< tt) (All-cons IsLow 99 [] (lit< tt) (All-nil IsLow)))

pub written : (text letters : List ℕ) (serial : ℕ) → IsAscii letters → serial < 16 → text ≡ letters ++ decimal serial → chars text ≡ letters ++ decimal serial
written text letters serial ascii lt is =
    ap chars is ∙ chars-IsAscii (letters ++ decimal serial) (IsAscii-append letters (decimal serial) ascii (IsAscii-decimal serial (omega arith)))

pub other_level : (level serial : ℕ) → level ≢ 10 → level ≢ 11 → level ≢ 12 → [] ≡ flags_of level serial
other_level level serial a b c =
    let x : (level == 10) ≡ false = grind (arith, nat_tests) in
    let y : (level == 11) ≡ false = grind (arith, nat_tests) in
    let z : (level == 12) ≡ false = grind (arith, nat_tests) in
    rw (x, y, z) refl
