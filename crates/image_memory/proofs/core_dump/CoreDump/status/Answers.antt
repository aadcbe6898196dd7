use Rattle.std.proofs.Common.{sym, subst, ◌∙◌}
use Rattle.image_memory.specs.Notes.{AreStatuses}
use Rattle.image_memory.proofs.Noted.{AreStatuses-once}
use Rattle.image_memory.proofs.core_dump.CoreDump.status.Goals as goal

pub returns-clause-only : goal.returns-clause-only
returns-clause-only c = λ statuses h.
    let items = c.self.inside.contents.statuses.items in
    let own = subst (λ bytes. AreStatuses bytes items) c.self.view_is c.self.invariant.statuses_are in
    AreStatuses-once c.args.self.now statuses items h own ∙ sym c.deref.ensures.value
