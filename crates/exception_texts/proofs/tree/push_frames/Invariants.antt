use Rattle.std.proofs.Common.{◌≡◌, ◌++◌, map, take}
use Rattle.serde_json.specs.View.{view}
use Rattle.exception_texts.specs.Trees.{entry_tree}
use Rattle.exception_texts.proofs.tree.push_frames.Given as goal

abbrev pub invariant-loop-entry : goal.invariant-loop-entry
invariant-loop-entry l = map view l.own.items ≡ map view l.initial.own.items ++ map (λ x. entry_tree x)
    (take l.entry-index l.entries)
