use Rattle.std.proofs.Common.{◌++◌, ◌∙◌, ap, get_or, refl}
use Rattle.std.proofs.lemmas.List.{get_or_default}
use Rattle.exception_texts.specs.Roots.{handled_todo}
use Rattle.exception_texts.proofs.Todos.{nothing, push_more}
use Rattle.exception_texts.proofs.roots.push_each.Goals as goal

pub loop-item-preserved : goal.loop-item-preserved
loop-item-preserved c =
    push_more (λ h. handled_todo h) c.args.todo.now.items c.loop-item.todo.items c.push_handled.new.todo.items
    c.args.items.now c.loop-item.item-index (get_or c.args.items.now c.loop-item.item-index nothing) nothing
    c.loop-item-test.true refl c.loop-item.invariant
    (c.in_ok-push_handled.ensures ∙ ap (λ h. c.loop-item.todo.items ++ handled_todo h)
    (get_or_default c.args.items.now c.loop-item.item-index _ nothing c.loop-item-test.true))
