-- A version's flags and metadata are ASCII.
use Rattle.std.proofs.Common.{◌≡◌, ◌<◌, ℕ, true, List, [], ◌∷◌, subst, arith, ⊎_elim}
use Rattle.std.specs.Prelude.{Option, Some, None, All, IfSome, IsAscii}
use Rattle.std.specs.Borrow.{Bor}
use Rattle.std.specs.Char.{is_ascii_digit}
use Rattle.std.proofs.lemmas.Bool.Decides.{nat_tests}
use Rattle.std.proofs.lemmas.List.Elements.{All-append, All-cons, All-nil, All-weaker}
use Rattle.std.proofs.lemmas.Str.Ascii.{IsAscii-from_all}
use Rattle.py_fields.specs.declared.version.Version.{Version}
use Rattle.py_fields.specs.Spelling.{AreFlags, IsLeftmost, IsLevel, IsMetadata, IsPreRelease, IsShort}
use Rattle.py_fields.specs.Fronts.{borrowed}
use Rattle.py_fields.proofs.Builds.{IsOfDotted, are_dotted}

abbrev IsLow : ℕ → Type 0
IsLow c = c < 128

one : (c : ℕ) → c < 128 → All IsLow (c ∷ [])
one c low = All-cons IsLow c [] low (All-nil IsLow)

digit_low : (c : ℕ) → is_ascii_digit c ≡ true → c < 128
digit_low c is = grind (arith, nat_tests, is)

level_low : (level : List ℕ) → IsLevel level → All IsLow level
level_low level is =
    ⊎_elim (λ e. rw e (one 97 (omega arith))) (λ a. ⊎_elim (λ e. rw e (one 98 (omega arith)))
    (λ b. ⊎_elim (λ e. rw e (one 99 (omega arith))) (λ e. rw e (All-cons IsLow 114 (99 ∷ []) (omega arith) (one 99 (omega arith)))) b) a) is

number_low : (text : List ℕ) (n : ℕ) → IsShort text n → All IsLow text
number_low [] n is = absurd is
number_low (a ∷ []) n is = one a (digit_low a is.0)
number_low (a ∷ b ∷ []) n is = All-cons IsLow a (b ∷ []) (digit_low a is.0) (one b (digit_low b is.1))
number_low (a ∷ b ∷ c ∷ rest) n is = absurd is

flags_low : (flags : List ℕ) → IsPreRelease flags → All IsLow flags
flags_low flags p = rw p.parts (All-append IsLow p.level p.number (level_low p.level p.is_level) (number_low p.number p.value p.is_number))

pub flags_ascii : (flags : List ℕ) → AreFlags flags → IsAscii flags
flags_ascii flags are = IsAscii-from_all flags (⊎_elim (λ e. rw e (All-nil IsLow)) (flags_low flags) are)

dotted_low : (c : ℕ) → IsOfDotted c → c < 128
dotted_low c is = grind (arith, nat_tests, is)

some_ascii : (text : List ℕ) (m : Option (Bor (List ℕ))) → IsMetadata text (borrowed m) → IfSome m (λ bytes. IsAscii bytes.now)
some_ascii text None is = tt
some_ascii text (Some m) is = IsAscii-from_all m.now (rw is.are (All-weaker IsOfDotted IsLow dotted_low _ (are_dotted is.runs is.each)))

pub metadata_ascii : (bytes : List ℕ) (m : Option (Bor (List ℕ))) (v : Version) → IsLeftmost bytes v → v.build_metadata ≡ borrowed m → IfSome m (λ bytes. IsAscii bytes.now)
metadata_ascii bytes m v is same = some_ascii is.here.spells.metadata m (subst (IsMetadata is.here.spells.metadata) same is.here.spells.is_metadata)
