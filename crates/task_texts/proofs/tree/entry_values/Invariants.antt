use Rattle.std.proofs.Common.{◌≡◌, map, take}
use Rattle.serde_json.specs.View.{view}
use Rattle.py_tasks.specs.Shown.{entry_shown}
use Rattle.task_texts.specs.Trees.{entry_tree}
use Rattle.task_texts.proofs.tree.entry_values.Given as goal

abbrev pub invariant-loop-entry : goal.invariant-loop-entry
invariant-loop-entry l = map view l.values.items ≡ map (λ x. entry_tree (entry_shown x)) (take l.entry-index l.entries)
