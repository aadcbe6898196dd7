use Rattle.std.proofs.Common.{ap, ◌∙◌}
use Rattle.std.specs.FinMap as finite
use Rattle.native_merge.specs.KeptMaps.{Kept, file_order}
use Rattle.native_merge.proofs.KeptByName.{file_order_total, inserted_in}
use Rattle.native_merge.proofs.source_maps.SourceMaps.keep.Goals as goal

pub returns-clause-kept : goal.returns-clause-kept
returns-clause-kept c =
    inserted_in file_order file_order_total c.self.inside.maps.entries c.insert.new.self.entries c.args.filename c.args.answer
    c.self.invariant c.insert.ensures.ordered c.in_ok-insert.ensures.entries
    ∙ ap (λ (m : Kept). finite.insert m c.args.filename c.args.answer) c.self.view_is
