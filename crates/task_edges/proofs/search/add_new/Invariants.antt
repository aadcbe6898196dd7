use Rattle.task_edges.proofs.Adding.{Adding}
use Rattle.task_edges.proofs.search.add_new.Given as goal

abbrev pub invariant-loop-address : goal.invariant-loop-address
invariant-loop-address l = Adding l.fn.list.items l.addresses l.address-index l.list.items l.met.keys
