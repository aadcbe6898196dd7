use Rattle.memory_builder.proofs.Names.{brief_is}
use Rattle.memory_builder.proofs.validity.is_brief.Goals as goal

pub returns : goal.returns
returns c = brief_is c.args.text.now c.as_str.result.now c.as_str.utf8 c.as_str.ensures
