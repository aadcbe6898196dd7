use Rattle.std.proofs.Common.{[], subst}
use Rattle.image_memory.specs.Contents.{AreContents}
use Rattle.image_memory.proofs.Held.{core_held}
use Rattle.image_memory.proofs.core_dump.CoreDumpStored.table.Goals as goal

pub returns-clause-held : goal.returns-clause-held
returns-clause-held c =
    let core = subst (λ bs. AreContents bs c.self.inside.contents) c.self.view_is c.self.invariant in
    core_held c.args.self.now [] core.fits core.core.accepted.readable
