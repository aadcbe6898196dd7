use Rattle.std.proofs.Common.{◌≡◌, map, take}
use Rattle.serde_json.specs.View.{view}
use Rattle.exception_texts.specs.Trees.{address_tree}
use Rattle.exception_texts.proofs.tree.addresses_value.Given as goal

abbrev pub invariant-loop-address : goal.invariant-loop-address
invariant-loop-address l = map view l.own.items ≡ map (λ x. address_tree x) (take l.address-index l.addresses)
