use Rattle.std.proofs.Common.{◌∙◌, sym}
use Rattle.object_builder.proofs.TextsBack.{bits_are}
use Rattle.object_builder.proofs.texts.state_by.Goals as goal

pub state_of-requires : goal.state_of-requires
state_of-requires c = bits_are c.args.layout.now c.requires c.in-Some.at (sym c.state_at.ensures ∙ c.in-Some.is)
