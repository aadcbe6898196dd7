use Rattle.std.proofs.Common.{Ok, subst}
use Rattle.std.specs.Prelude.{option_copied}
use Rattle.elf64_core.specs.BuildIds.{SectionSays}
use Rattle.elf64_core.specs.Rest.{sections_left}
use Rattle.elf64_core.proofs.Found.{IsSearched-more}
use Rattle.elf64_core.proofs.build_id.build_id_among.Goals as goal

pub loop-section-preserved : goal.loop-section-preserved
loop-section-preserved c =
    let section = c.in-Some.section in
    IsSearched-more c.args.bytes.now (sections_left c.args.sections) (sections_left c.loop-section.section-iterator) (sections_left c.next.new.self) section
    c.loop-section.invariant c.in-Some.ensures.steps
    (subst (λ id. SectionSays c.args.bytes.now section (Ok (option_copied id))) c.in_default.is c.in_ok-id.ensures)
