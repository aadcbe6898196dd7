use Rattle.instance_dicts.proofs.HeldSteps.{flag_set}
use Rattle.instance_dicts.proofs.instances.has_flag.Goals as goal

pub returns : goal.returns
returns c = flag_set c.args.flags
