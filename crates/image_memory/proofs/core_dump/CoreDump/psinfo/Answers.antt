use Rattle.std.proofs.Common.{sym, subst, ◌∙◌}
use Rattle.image_memory.specs.Notes.{IsProcess}
use Rattle.image_memory.proofs.Noted.{IsProcess-once}
use Rattle.image_memory.proofs.core_dump.CoreDump.psinfo.Goals as goal

pub returns-clause-only : goal.returns-clause-only
returns-clause-only c = λ process h.
    let kept = c.self.inside.contents.process in
    let own = subst (λ bytes. IsProcess bytes kept) c.self.view_is c.self.invariant.process_is in
    IsProcess-once c.args.self.now process kept h own ∙ sym c.as_ref.ensures.value
