use Rattle.std.proofs.Common.{◌∙◌, ap}
use Rattle.memory_sections.specs.Told.{coroutine_rule_by}
use Rattle.memory_sections.proofs.rule.coroutine_rule_of.Goals as goal

pub returns : goal.returns
returns c =
    c.coroutine_rule_by.ensures ∙ ap (coroutine_rule_by c.args.records.now.coroutines.generator) c.family_of-family.ensures
