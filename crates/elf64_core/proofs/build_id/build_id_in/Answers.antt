use Rattle.elf64_core.specs.Notes.{noted}
use Rattle.elf64_core.proofs.Found.{Passes-more}
use Rattle.elf64_core.proofs.build_id.build_id_in.Goals as goal

pub loop-rest-preserved : goal.loop-rest-preserved
loop-rest-preserved c =
    Passes-more c.args.bytes.now c.loop-rest.rest.now c.in-Some.after.now (noted c.in-Some.note)
    c.loop-rest.invariant c.in-Some.ensures c.if-note-eq-BUILD_ID.false
