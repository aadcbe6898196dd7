-- A text's bytes are those of its characters.
use Rattle.std.proofs.Common.{◌≡◌, ℕ, List, IsUtf8, encode_utf8_all, sym, ap, ◌∙◌}
use Rattle.std.proofs.lemmas.Str.{chars-encodes}
use Rattle.std.specs.Str.{chars}

pub encodes-chars : (bs : List ℕ) → IsUtf8 bs → encode_utf8_all (chars bs) ≡ bs
encodes-chars bs u = ap encode_utf8_all (ap chars (sym u.1.1) ∙ chars-encodes u.0 u.1.0) ∙ u.1.1
