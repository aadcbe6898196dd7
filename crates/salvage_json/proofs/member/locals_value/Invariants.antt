use Rattle.std.proofs.Common.{◌≡◌, take, map}
use Rattle.serde_json.specs.View.{view}
use Rattle.salvage_json.specs.Members.{local_tree}
use Rattle.salvage_json.proofs.member.locals_value.Given as goal

abbrev pub invariant-loop-local : goal.invariant-loop-local
invariant-loop-local l = map view l.own.items ≡ map (λ x. local_tree l.values x) (take l.local-index l.locals)
