use Rattle.std.proofs.Common.{◌≡◌, ◌++◌, drop, map}
use Rattle.std.specs.List.{concat}
use Rattle.core_report.specs.Stacked.{object_line, reach_text}
use Rattle.core_report.proofs.reach_command.reach_text.Given as goal

abbrev pub invariant-loop-object : goal.invariant-loop-object
invariant-loop-object l = l.text.items ++ concat (map (λ o. object_line o) (drop l.object-index l.objects)) ≡ reach_text l.objects
