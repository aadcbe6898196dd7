use Rattle.std.proofs.Common.{refl}
use Rattle.instance_dicts.specs.Managed.{valid_byte}
use Rattle.instance_dicts.proofs.managed.valid_byte.Goals as goal

pub returns : goal.returns
unfolding valid_byte
returns c = refl
