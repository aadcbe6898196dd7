use Rattle.std.proofs.Common.{Ok, subst}
use Rattle.image_memory.specs.Contents.{AreContents}
use Rattle.image_memory.proofs.Refusals.{only_refusal}
use Rattle.image_memory.proofs.core_dump.CoreDump.new.Goals as goal

pub returns-clause-only : goal.returns-clause-only
returns-clause-only c =
    let bytes = c.args.bytes.items in
    let are = subst (λ bs. AreContents bs c.in_ok-contents.contents) c.deref.ensures.value c.in_ok-contents.ensures.are in
    only_refusal bytes (Ok bytes) tt are.core
