use Rattle.std.proofs.Common.{◌∙◌, ap, map}
use Rattle.std.proofs.lemmas.List.{take_all}
use Rattle.serde_json.specs.Data.{array}
use Rattle.serde_json.specs.View.{items_of}
use Rattle.serde_json.proofs.Views.{view-Array}
use Rattle.exception_texts.specs.Trees.{thread_tree}
use Rattle.exception_texts.proofs.thread_tree.threads_value.Goals as goal

pub returns : goal.returns
returns c =
    view-Array c.loop-thread.own
    ∙ ap (λ ds. array (items_of ds)) (c.loop-thread.invariant
    ∙ ap (λ xs. map (λ x. thread_tree x) xs)
    (take_all c.loop-thread.thread-index c.args.threads.now c.loop-thread-test.false))
