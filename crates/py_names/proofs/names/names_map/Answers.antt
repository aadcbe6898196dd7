use Rattle.std.proofs.Common.{arith}
use Rattle.std.proofs.lemmas.Grind.{common_steps}
use Rattle.py_names.proofs.NameSteps.{name_more}
use Rattle.py_names.proofs.names.names_map.Goals as goal

pub loop-named-preserved : goal.loop-named-preserved
loop-named-preserved c = λ id. rw (name_more c.loop-named.yielded c.in-Some.named id) (grind (arith, common_steps, c.loop-named.invariant id))
