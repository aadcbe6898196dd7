use Rattle.std.proofs.Common.{◌∙◌, ◌++◌, ap}
use Rattle.salvage_report.specs.Texts.{help_text}
use Rattle.salvage_report.proofs.help.help.Goals as goal

pub returns : goal.returns
unfolding help_text
returns c = c.in_ok-extend_from_slice.ensures.items ∙ ap (λ xs. xs ++ c.as_bytes.result.now) c.new-text.ensures.items
    ∙ c.as_bytes.ensures.value
