use Rattle.std.proofs.Common.{◌≡◌, ◌++◌, map, take}
use Rattle.serde_json.specs.View.{view}
use Rattle.heap_texts.specs.Trees.{whole_tree}
use Rattle.heap_texts.proofs.tree.push_wholes.Given as goal

abbrev pub invariant-loop-class : goal.invariant-loop-class
invariant-loop-class l = map view l.values.items
    ≡ map view l.initial.values.items ++ map (λ x. whole_tree x) (take l.class-index l.classes)
