use Rattle.std.proofs.Common.{inr, subst}
use Rattle.elf64_core.specs.BuildIds.{BuildIdIs, SectionsSay, found}
use Rattle.elf64_core.specs.Rest.{sections_left}
use Rattle.elf64_core.proofs.Found.{BuildIdIs-once}
use Rattle.elf64_core.proofs.build_id.read_build_id.Goals as goal

pub returns-clause-only : goal.returns-clause-only
returns-clause-only c = λ other h.
    let elf = c.args.elf.now in
    let result = found c.build_id_among.result in
    let here = subst (λ bs. SectionsSay bs (sections_left c.in_ok-sections.sections) result) c.bytes.ensures.same c.build_id_among.ensures in
    let right : BuildIdIs elf result = inr (c.in_ok-sections.ensures.held, subst (λ sections. SectionsSay elf sections result) c.in_ok-sections.ensures.sections here) in
    BuildIdIs-once elf other result h right
