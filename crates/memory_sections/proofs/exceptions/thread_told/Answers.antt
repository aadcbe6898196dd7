use Rattle.std.proofs.Common.{◌∙◌, ap, refl}
use Rattle.image_memory.specs.Backed.{regions_of}
use Rattle.process_memory.specs.Seen.{Seen}
use Rattle.core_stacks.proofs.Stacks.{over_this}
use Rattle.memory_sections.proofs.exceptions.thread_told.Goals as goal

pub returns : goal.returns
returns c =
    let here = over_this (regions_of c.args.process.now.dump)
    (ap (λ (s : Seen). s.pieces) (c.new-view.ensures ∙ c.view.ensures)) c.read_exceptions-read.ensures.right in
    record { thread_is = refl; are = rw c.in_ok-told.ensures at here }
