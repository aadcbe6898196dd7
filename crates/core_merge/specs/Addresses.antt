-- Addresses as a text, one a line. The form is this project's own.
use Rattle.std.specs.Prelude.{◌≡◌, ℕ, ◌+◌, nat_eq, ◌&&◌, Bool, true, false, List, ◌∷◌, ◌++◌, All, length, drop, map}
use Rattle.std.specs.Prelude.{codes, Result, Ok, Err, Vec}
use Rattle.std.specs.Global.{Global}
use Rattle.std.specs.List.{starts_with}
use Rattle.std.specs.Str.Parse.{digits_value}
use Rattle.maps_text.specs.Fields.{is_number}
use Rattle.maps_text.specs.Texts.{lines_of}
use Rattle.core_merge.specs.declared.error.CoreMergeError.{CoreMergeError}
use Rattle.core_merge.specs.declared.error.CoreMergeError.TheVariants.{BadLine}

-- `0x` and 1 to 16 hexadecimal digits of either case
abbrev pub is_address_line : List ℕ → Bool
is_address_line line = starts_with nat_eq line (codes "0x") && is_number (drop 2 line)

-- the address of a line of an address file, behind its `0x`
abbrev pub address_of_line : List ℕ → ℕ
address_of_line line = digits_value 16 (drop 2 line)

-- each line is that of an address
abbrev pub AreAddressLines : List (List ℕ) → Type 0
AreAddressLines lines = All (λ line. is_address_line line ≡ true) lines

-- the first of some lines that is no address is the one of this number, counted from 1
pub record IsFirstBadLine (lines : List (List ℕ)) (number : ℕ) : Type 0 where
  pub before : List (List ℕ)
  pub line : List ℕ
  pub behind : List (List ℕ)
  pub lines_are : lines ≡ before ++ line ∷ behind
  pub good : AreAddressLines before
  pub bad : is_address_line line ≡ false
  pub number_is : number ≡ length before + 1

-- the addresses of a text's lines, in order, or the first line that is none
abbrev pub AddressesSay : List ℕ → Result (List ℕ) CoreMergeError → Type 0
AddressesSay text (Ok addrs) =
    AreAddressLines (lines_of text) × (addrs ≡ map (λ line. address_of_line line) (lines_of text))
AddressesSay text (Err (BadLine number)) = IsFirstBadLine (lines_of text) number
AddressesSay text (Err _) = ⊥

-- a result with the addresses
abbrev pub numbers_in : Result (Vec ℕ Global) CoreMergeError → Result (List ℕ) CoreMergeError
numbers_in (Ok v) = Ok v.items
numbers_in (Err e) = Err e
