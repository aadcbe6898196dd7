use Rattle.std.proofs.Common.{◌≡◌, ◌∙◌, sym, ap, arith}
use Rattle.std.specs.Prelude.{IfOk, Some}
use Rattle.process_memory.proofs.Reading.{reading_gives, reading_then}
use Rattle.gc_lists.specs.Heads.{held_by, is_held}
use Rattle.gc_lists.specs.Links.{links_at}
use Rattle.gc_lists.proofs.Said.{said}
use Rattle.gc_lists.proofs.standing.is_held.Goals as goal

pub returns-in-Some : goal.returns-in-Some
returns-in-Some g c = reading_gives _ _
    (reading_then (λ m. IfOk c.held_by.result (λ held. held ≡ is_held (links_at c.args.mask m) c.args.head)) c.in_ok-links.ensures c.held_by.ensures
    (λ m a b. said (λ x. x) c.held_by.result (held_by (Some c.in-Some.own) (links_at c.args.mask m) c.args.head) (is_held (links_at c.args.mask m) c.args.head)
    (ap (λ o. held_by o (links_at c.args.mask m) c.args.head) (sym c.in-Some.is ∙ a)) b)) (omega arith) (λ m h. h)

pub returns-in-None : goal.returns-in-None
returns-in-None g c = reading_gives _ _ c.in_ok-links.ensures (omega arith)
    (λ m a. ap (λ o. held_by o (links_at c.args.mask m) c.args.head) (sym c.in-None.is ∙ a))
