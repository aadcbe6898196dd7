use Rattle.std.proofs.Common.{map, refl}
use Rattle.std.specs.List.{concat}
use Rattle.core_report.specs.Stacked.{object_line, reach_text}
use Rattle.core_report.proofs.Appending.{piece_more}
use Rattle.core_report.proofs.reach_command.reach_text.Goals as goal

pub loop-object-preserved : goal.loop-object-preserved
loop-object-preserved c =
    piece_more (λ os. concat (map (λ o. object_line o) os)) (λ o. object_line o) (λ o rest. refl) (reach_text c.args.objects.now) _ _
    c.args.objects.now c.loop-object.object-index _ c.loop-object-test.true c.loop-object.invariant c.in_ok-push_object.ensures
