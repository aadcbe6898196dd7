use Rattle.std.proofs.Common.{arith, refl, ap, ◌∙◌, ◌∷◌, [], ◌++◌}
use Rattle.thread_exceptions.specs.Thread.{handled_address, handled_of, raised_address, raised_of}
use Rattle.thread_exceptions.proofs.Roots.{roots_done, roots_more}
use Rattle.thread_exceptions.proofs.thread.roots_of.Goals as goal

pub returns : goal.returns
returns c = roots_done (λ h. handled_address h) (λ h. handled_of h) c.args.handled.now c.loop-item.item-index
    (raised_address (raised_of c.args.raised)) c.loop-item.roots.items
    (omega (arith, c.loop-item-test.false)) c.loop-item.invariant
