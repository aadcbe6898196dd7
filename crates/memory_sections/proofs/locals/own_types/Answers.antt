use Rattle.std.proofs.Common.{◌∙◌, ap}
use Rattle.image_memory.specs.Backed.{regions_of}
use Rattle.process_memory.specs.Seen.{Seen}
use Rattle.core_stacks.proofs.Stacks.{over_this}
use Rattle.memory_sections.proofs.locals.own_types.Goals as goal

pub returns : goal.returns
returns c =
    let here = over_this (regions_of c.args.process.now.dump)
    (ap (λ (s : Seen). s.pieces) (c.new-view.ensures ∙ c.view.ensures)) c.find_repr_types-read.ensures in
    rw c.in_ok-types.ensures at here
