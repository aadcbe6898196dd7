use Rattle.std.proofs.Common.{ap, sym, ◌∙◌}
use Rattle.std.specs.FinMap as finite
use Rattle.native_merge.specs.KeptMaps.{Kept, file_order}
use Rattle.native_merge.proofs.KeptByName.{copied_is, found_in}
use Rattle.native_merge.proofs.source_maps.SourceMaps.kept.Goals as goal

pub returns : goal.returns
returns c = copied_is c.get.result ∙ c.get.ensures.value ∙ sym (found_in file_order c.self.inside.maps.entries c.args.filename.now c.self.invariant)
    ∙ ap (λ (m : Kept). finite.get m c.args.filename.now) c.self.view_is
