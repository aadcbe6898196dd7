use Rattle.std.proofs.Common.{◌≡◌, ◌∷◌, map, take}
use Rattle.thread_exceptions.specs.Thread.{handled_address, handled_of, raised_address, raised_of}
use Rattle.thread_exceptions.proofs.thread.roots_of.Given as goal

abbrev pub invariant-loop-item : goal.invariant-loop-item
invariant-loop-item l = l.roots.items ≡ raised_address (raised_of l.fn.raised) ∷ map
    (λ h. handled_address (handled_of h)) (take l.item-index l.handled)
