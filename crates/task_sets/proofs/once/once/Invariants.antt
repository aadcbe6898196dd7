use Rattle.task_sets.proofs.Onces.{Keeping}
use Rattle.task_sets.proofs.once.once.Given as goal

abbrev pub invariant-loop-address : goal.invariant-loop-address
invariant-loop-address l = Keeping l.addresses l.address-index l.list.items l.met.keys
