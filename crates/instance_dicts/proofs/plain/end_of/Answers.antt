use Rattle.instance_dicts.specs.Plain.{end_of}
use Rattle.instance_dicts.proofs.plain.end_of.Goals as goal

pub returns-clause-value : goal.returns-clause-value
unfolding end_of
returns-clause-value c = c.rounded.ensures.value
