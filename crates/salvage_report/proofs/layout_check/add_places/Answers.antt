use Rattle.std.proofs.Common.{◌≡◌, ◌<◌, ◌++◌, ◌∷◌, ◌+◌, ℕ, List, [], length}
use Rattle.std.proofs.Common.{map, take, get_or, ap, sym, ◌∙◌, append_assoc}
use Rattle.std.proofs.lemmas.List.{append-nil, map-append, take_all, take_more}
use Rattle.py_fronts.specs.declared.thread_front.ThreadFront.{ThreadFront}
use Rattle.salvage_report.specs.LayoutChecked.{thread_place}
use Rattle.salvage_report.proofs.layout_check.add_places.Goals as goal

-- one thread more
one_more : (of : ℕ) (ts : List ThreadFront) (i : ℕ) (t d : ThreadFront) → i < length ts → t ≡ get_or ts i d
    → map (thread_place of) (take i ts) ++ thread_place of t ∷ [] ≡ map (thread_place of) (take (i + 1) ts)
one_more of ts i t d less at =
    ap (λ x. map (thread_place of) (take i ts) ++ thread_place of x ∷ []) at
    ∙ sym (map-append (thread_place of) (take i ts) (get_or ts i d ∷ []))
    ∙ ap (map (thread_place of)) (sym (take_more ts i d less))

pub loop-thread-init : goal.loop-thread-init
loop-thread-init c = sym (append-nil c.args.places.now.items)

pub loop-thread-preserved : goal.loop-thread-preserved
loop-thread-preserved c =
    c.in_ok-push.ensures.items
    ∙ ap (λ xs. xs ++ c.thread_place.result ∷ []) c.loop-thread.invariant
    ∙ append_assoc c.args.places.now.items _ _
    ∙ ap (λ xs. c.args.places.now.items ++ xs)
    (ap (λ x. map (thread_place c.args.interpreter) (take c.loop-thread.thread-index c.args.threads.now) ++ x ∷ [])
    c.thread_place.ensures
    ∙ one_more c.args.interpreter c.args.threads.now c.loop-thread.thread-index c.thread-item.result
    c.thread-item.result
    c.loop-thread-test.true c.thread-item.is)

pub returns : goal.returns
returns c = c.loop-thread.invariant
    ∙ ap (λ ts. c.args.places.now.items ++ map (thread_place c.args.interpreter) ts)
    (take_all c.loop-thread.thread-index c.args.threads.now c.loop-thread-test.false)
