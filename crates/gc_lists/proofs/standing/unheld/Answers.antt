use Rattle.std.proofs.Common.{refl, arith}
use Rattle.process_memory.proofs.Reading.{reading_gives, reading_none}
use Rattle.gc_lists.specs.Heads.{first_unheld, heads_in, unheld}
use Rattle.gc_lists.specs.Links.{links_at}
use Rattle.gc_lists.proofs.Said.{said}
use Rattle.gc_lists.proofs.standing.unheld.Goals as goal

pub returns-then-not-places : goal.returns-then-not-places
returns-then-not-places g c = reading_none _ _ _ (λ m. rw c.if-not-places.true refl)

pub returns : goal.returns
returns g c = reading_gives 12 _ c.first_unheld.ensures (omega arith)
    (λ m a. said (λ x. x) c.first_unheld.result (first_unheld (links_at c.args.places.now.mask m) (heads_in c.args.own))
    (unheld c.args.places.now (links_at c.args.places.now.mask m) c.args.own) (rw c.if-not-places.false refl) a)
