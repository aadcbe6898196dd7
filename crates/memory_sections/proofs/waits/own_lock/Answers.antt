use Rattle.std.proofs.Common.{◌∙◌, ap}
use Rattle.std.proofs.lemmas.Result.{IfOk-weaker}
use Rattle.image_memory.specs.Backed.{regions_of}
use Rattle.process_memory.specs.Seen.{Seen}
use Rattle.core_stacks.proofs.Stacks.{over_this}
use Rattle.memory_sections.proofs.waits.own_lock.Goals as goal

pub returns : goal.returns
returns c =
    let here = over_this (regions_of c.args.process.now.dump)
    (ap (λ (s : Seen). s.pieces) (c.new-view.ensures ∙ c.view.ensures))
    (rw c.runtime_of-runtime.ensures at c.read_lock_range-read.ensures) in
    IfOk-weaker c.read_or_wanting.result _ _ (λ value is. (rw is at here).is) c.read_or_wanting.ensures
