-- What std trims.
use Rattle.std.proofs.Common.{◌≡◌, ℕ, List, refl}
use Rattle.std.proofs.lemmas.Str.Ascii.{trim_ascii_is}
use Rattle.std.specs.Str.{IsTrimAscii}
use Rattle.maps_text.specs.Fields.{trimmed}

pub is_trimmed : (s r : List ℕ) → IsTrimAscii s r → r ≡ trimmed s
is_trimmed s r trims = trim_ascii_is s r _ refl trims
