use Rattle.local_values.proofs.Filling.{kept_at}
use Rattle.local_values.proofs.values.keep.Goals as goal

pub returns : goal.returns
returns c = λ a. kept_at _ _ _ _ _ (c.in_ok-insert.ensures.updates.0 a)
