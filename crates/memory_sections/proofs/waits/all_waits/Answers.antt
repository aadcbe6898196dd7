use Rattle.std.proofs.lemmas.Result.{IfOk-weaker}
use Rattle.memory_sections.proofs.waits.all_waits.Goals as goal

pub returns : goal.returns
returns c = IfOk-weaker c.each_waits.result _ _
    (λ told are. record {
      standings = c.in_ok-standings.standings.items;
      stand = rw c.core.ensures.same at c.in_ok-standings.ensures;
      are = rw c.deref.ensures.value at are;
    }) c.each_waits.ensures
