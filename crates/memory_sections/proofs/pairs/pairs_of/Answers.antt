use Rattle.std.proofs.lemmas.Result.{IfOk-weaker}
use Rattle.memory_sections.proofs.pairs.pairs_of.Goals as goal

pub returns : goal.returns
returns c = IfOk-weaker c.pairs_by.result _ _
    (λ told are. record {
      starts = c.in_ok-starts.starts.items;
      stand = rw c.core.ensures.same at c.in_ok-starts.ensures;
      are = rw (c.deref.ensures.value, c.deref-2.ensures.value) at are;
    }) c.pairs_by.ensures
