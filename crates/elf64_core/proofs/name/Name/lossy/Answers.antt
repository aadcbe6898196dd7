use Rattle.std.proofs.Common.{◌≡◌, ◌++◌, encode_utf8_all, refl, ap, ◌∙◌}
use Rattle.std.proofs.lemmas.Str.{chars-encodes}
use Rattle.std.specs.Str.{chars}
use Rattle.std.specs.String.{string_bytes}
use Rattle.bstr.specs.Utf8.{lossy_chars}
use Rattle.elf64_core.proofs.Lossy.{scalars-lossy_chars}
use Rattle.elf64_core.proofs.name.Name.lossy.Goals as goal

pub returns : goal.returns
returns c =
    let name = c.as_bytes.result.now in
    let appended : string_bytes c.to_str_lossy_into.new.dest ≡ string_bytes c.new-text.result ++ encode_utf8_all (lossy_chars name) = c.in_ok-to_str_lossy_into.ensures.ok refl in
    let text = appended ∙ ap (λ bs. bs ++ encode_utf8_all (lossy_chars name)) c.new-text.ensures.bytes in
    c.in_ok-shared.ensures ∙ ap chars text ∙ chars-encodes (lossy_chars name) (scalars-lossy_chars name) ∙ ap lossy_chars c.as_bytes.ensures
