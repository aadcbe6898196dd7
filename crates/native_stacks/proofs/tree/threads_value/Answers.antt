use Rattle.std.proofs.Common.{◌∙◌, ◌++◌, ◌∷◌, [], ap, append-nil, map, sym}
use Rattle.std.proofs.lemmas.List.{at_drop_all}
use Rattle.serde_json.specs.Data.{array}
use Rattle.serde_json.specs.View.{items_of, view}
use Rattle.serde_json.proofs.Views.{view-Array}
use Rattle.native_stacks.specs.Threads.{thread_shown}
use Rattle.native_stacks.specs.Trees.{thread_tree}
use Rattle.native_stacks.proofs.Rest.{next, pushed_one, value_more}
use Rattle.native_stacks.proofs.tree.threads_value.Goals as goal

pub loop-thread-preserved : goal.loop-thread-preserved
loop-thread-preserved c =
    let x = c.thread-item.result in
    value_more view c.loop-thread.values.items _ (thread_tree c.args.files.now c.args.limit (thread_shown x) ∷ []) _ _ _
    (ap (λ xs. map (λ t. thread_tree c.args.files.now c.args.limit t) (map thread_shown xs))
    (next c.args.threads.now c.loop-thread.thread-index x x c.loop-thread-test.true c.thread-item.is))
    c.loop-thread.invariant
    (pushed_one view c.loop-thread.values.items _ _ _ c.in_ok-push.ensures.items c.in_ok-thread_value.ensures)

pub returns : goal.returns
returns c =
    let shown = map view c.loop-thread.values.items in
    view-Array c.loop-thread.values
    ∙ ap (λ ds. array (items_of ds)) (sym (append-nil shown)
    ∙ ap (λ ds. shown ++ ds) (sym (at_drop_all
    (λ xs. map (λ t. thread_tree c.args.files.now c.args.limit t) (map thread_shown xs))
    c.args.threads.now c.loop-thread.thread-index c.loop-thread-test.false)) ∙ c.loop-thread.invariant)
