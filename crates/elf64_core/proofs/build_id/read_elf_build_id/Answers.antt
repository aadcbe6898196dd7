use Rattle.std.proofs.Common.{None, Ok, inr, subst}
use Rattle.std.specs.Prelude.{option_copied}
use Rattle.elf64_core.specs.BuildIds.{BuildIdIs}
use Rattle.elf64_core.proofs.build_id.read_elf_build_id.Goals as goal

pub returns-in-None-clause-right : goal.returns-in-None-clause-right
returns-in-None-clause-right c =
    let read = subst (λ id. BuildIdIs c.in_ok-elf.elf (Ok (option_copied id))) c.in-None.is c.in_ok-id.ensures.right in
    inr (inr (inr (c.in_ok-elf.ensures.accepted, subst (λ bytes. BuildIdIs bytes (Ok None)) c.in_ok-elf.ensures.same read)))
