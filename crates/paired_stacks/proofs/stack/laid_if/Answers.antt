use Rattle.std.proofs.Common.{subst, sym}
use Rattle.std.specs.Prelude.{IfOk}
use Rattle.process_memory.proofs.Reading.{reading_none}
use Rattle.paired_stacks.specs.Stacks.{IsPairedBy}
use Rattle.paired_stacks.proofs.stack.laid_if.Goals as goal

pub returns-in-None : goal.returns-in-None
returns-in-None g c = reading_none _ _ _ (λ m. subst (λ e. IfOk c.laid_apart.result (λ laid.
    IsPairedBy e c.args.layout.now m c.args.parts.now c.args.steps.now c.args.walked laid.pairing laid.items.items)) (sym c.in-None.is)
    c.laid_apart.ensures)
