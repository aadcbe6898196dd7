use Rattle.std.proofs.Common.{◌≡◌, take, map}
use Rattle.serde_json.specs.View.{view}
use Rattle.salvage_json.specs.Members.{standing_tree}
use Rattle.salvage_json.proofs.member.standings_value.Given as goal

abbrev pub invariant-loop-standing : goal.invariant-loop-standing
invariant-loop-standing l = map view l.own.items ≡ map (λ x. standing_tree l.values x) (take l.standing-index l.standings)
