use Rattle.std.proofs.Common.{◌∙◌, ap}
use Rattle.std.specs.Prelude.{IfOk}
use Rattle.image_memory.specs.Backed.{regions_of}
use Rattle.process_memory.specs.Memory.{byte_at}
use Rattle.process_memory.specs.Seen.{Seen}
use Rattle.core_stacks.proofs.Stacks.{over_this}
use Rattle.memory_sections.proofs.Lasts.{last_as_read}
use Rattle.memory_sections.proofs.exceptions.last_told.Goals as goal

pub returns : goal.returns
returns c =
    let here = over_this (regions_of c.args.process.now.dump)
    (ap (λ (s : Seen). s.pieces) (c.new-view.ensures ∙ c.view.ensures)) c.read_last-read.ensures.right in
    last_as_read c.args.process.now.layout c.args.places.now (byte_at (regions_of c.args.process.now.dump))
    c.args.interpreter _ _ here c.last_or_wanting.ensures
