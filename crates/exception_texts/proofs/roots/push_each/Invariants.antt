use Rattle.std.proofs.Common.{◌≡◌, ◌++◌, take}
use Rattle.std.specs.List.{flat_map}
use Rattle.exception_texts.specs.Roots.{handled_todo}
use Rattle.exception_texts.proofs.roots.push_each.Given as goal

abbrev pub invariant-loop-item : goal.invariant-loop-item
invariant-loop-item l = l.todo.items ≡ l.initial.todo.items ++ flat_map (λ h. handled_todo h) (take l.item-index l.items)
