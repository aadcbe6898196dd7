use Rattle.std.proofs.Common.{sym, ap, ◌∙◌, encode_utf8_all}
use Rattle.std.specs.Str.{chars}
use Rattle.elf64_core.proofs.Scalars.{encodes-chars}
use Rattle.elf64_core.proofs.text.Text.as_str.Goals as goal

pub returns : goal.returns
returns c =
    sym (encodes-chars c.as_str.result.now c.as_str.utf8)
    ∙ ap encode_utf8_all (ap chars c.as_str.ensures.value ∙ c.self.view_is)
