use Rattle.std.proofs.Common.{◌≡◌, ◌<◌, ◌++◌, ◌∷◌, ◌+◌, ℕ, List, [], length, map, take, get_or, ap, sym, ◌∙◌}
use Rattle.std.proofs.lemmas.List.{map-append, take_all, take_more}
use Rattle.py_fronts.specs.declared.thread_front.ThreadFront.{ThreadFront}
use Rattle.paired_stacks.specs.Walked.{walked_of}
use Rattle.paired_stacks.proofs.walked.chain_walked.Goals as goal

-- one thread more
one_more : (ts : List ThreadFront) (i : ℕ) (t d : ThreadFront) → i < length ts → t ≡ get_or ts i d
    → map walked_of (take i ts) ++ walked_of t ∷ [] ≡ map walked_of (take (i + 1) ts)
one_more ts i t d less at =
    ap (λ x. map walked_of (take i ts) ++ walked_of x ∷ []) at
    ∙ sym (map-append walked_of (take i ts) (get_or ts i d ∷ []))
    ∙ ap (map walked_of) (sym (take_more ts i d less))

pub loop-thread-init : goal.loop-thread-init
loop-thread-init c = c.new-walked.ensures.items

pub loop-thread-preserved : goal.loop-thread-preserved
loop-thread-preserved c =
    c.in_ok-push.ensures.items
    ∙ ap (λ xs. xs ++ c.walked_of.result ∷ []) c.loop-thread.invariant
    ∙ ap (λ x. map walked_of (take c.loop-thread.thread-index c.args.threads.now) ++ x ∷ []) c.walked_of.ensures
    ∙ one_more c.args.threads.now c.loop-thread.thread-index c.thread-item.result c.thread-item.result
    c.loop-thread-test.true c.thread-item.is

pub returns : goal.returns
returns c = c.loop-thread.invariant
    ∙ ap (map walked_of) (take_all c.loop-thread.thread-index c.args.threads.now c.loop-thread-test.false)
