use Rattle.std.proofs.Common.{◌∙◌, ap}
use Rattle.task_edges.specs.Edges.{items_or_none}
use Rattle.task_edges.proofs.Sets.{at_other}
use Rattle.task_edges.proofs.edges.take_sources.Goals as goal

pub returns-in-Some-clause-taken : goal.returns-in-Some-clause-taken
returns-in-Some-clause-taken c = ap items_or_none c.in-Some.ensures.value

pub returns-in-Some-clause-left : goal.returns-in-Some-clause-left
returns-in-Some-clause-left c = λ q ne. ap items_or_none (c.in-Some.ensures.updates.2 q (at_other c.args.to q ne))

pub returns-in-None-clause-taken : goal.returns-in-None-clause-taken
returns-in-None-clause-taken c = c.new.ensures.items ∙ ap items_or_none c.in-None.ensures.value

pub returns-in-None-clause-left : goal.returns-in-None-clause-left
returns-in-None-clause-left c = λ q ne. ap items_or_none (c.in-None.ensures.updates.2 q (at_other c.args.to q ne))
