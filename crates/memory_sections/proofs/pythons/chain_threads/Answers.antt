use Rattle.std.proofs.Common.{◌≡◌, ◌<◌, ◌++◌, ◌∷◌, ◌+◌, ℕ, List, [], length, map, take, get_or, ap, sym, ◌∙◌}
use Rattle.std.proofs.lemmas.List.{map-append, take_all, take_more}
use Rattle.py_fronts.specs.declared.thread_front.ThreadFront.{ThreadFront}
use Rattle.memory_sections.specs.Pythons.{python_thread}
use Rattle.memory_sections.proofs.pythons.chain_threads.Goals as goal

-- one thread more
one_more : (ts : List ThreadFront) (i : ℕ) (t d : ThreadFront) → i < length ts → t ≡ get_or ts i d
    → map python_thread (take i ts) ++ python_thread t ∷ [] ≡ map python_thread (take (i + 1) ts)
one_more ts i t d less at =
    ap (λ x. map python_thread (take i ts) ++ python_thread x ∷ []) at
    ∙ sym (map-append python_thread (take i ts) (get_or ts i d ∷ []))
    ∙ ap (map python_thread) (sym (take_more ts i d less))

pub loop-thread-init : goal.loop-thread-init
loop-thread-init c = c.new-own.ensures.items

pub loop-thread-preserved : goal.loop-thread-preserved
loop-thread-preserved c =
    c.in_ok-push.ensures.items
    ∙ ap (λ xs. xs ++ c.python_thread.result ∷ []) c.loop-thread.invariant
    ∙ ap (λ x. map python_thread (take c.loop-thread.thread-index c.args.threads.now) ++ x ∷ []) c.python_thread.ensures
    ∙ one_more c.args.threads.now c.loop-thread.thread-index c.thread-item.result c.thread-item.result
    c.loop-thread-test.true c.thread-item.is

pub returns : goal.returns
returns c = c.loop-thread.invariant
    ∙ ap (map python_thread) (take_all c.loop-thread.thread-index c.args.threads.now c.loop-thread-test.false)
