use Rattle.std.proofs.Common.{refl}
use Rattle.instance_dicts.specs.Plain.{rounded}
use Rattle.instance_dicts.proofs.plain.rounded.Goals as goal

pub returns-clause-value : goal.returns-clause-value
unfolding rounded
returns-clause-value c = refl
