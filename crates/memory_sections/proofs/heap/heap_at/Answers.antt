use Rattle.std.proofs.Common.{◌∙◌, ap}
use Rattle.image_memory.specs.Backed.{regions_of}
use Rattle.process_memory.specs.Seen.{Seen}
use Rattle.core_stacks.proofs.Stacks.{over_this}
use Rattle.memory_sections.proofs.heap.heap_at.Goals as goal

pub returns : goal.returns
returns c = over_this (regions_of c.args.process.now.dump)
    (ap (λ (s : Seen). s.pieces) (c.new-view.ensures ∙ c.view.ensures)) c.read_heap.ensures.right
