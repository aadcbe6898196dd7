use Rattle.std.proofs.Common.{◌≡◌, ◌∙◌, sym, ap, arith}
use Rattle.std.specs.Prelude.{IfOk, Some}
use Rattle.std.proofs.lemmas.Result.{err_from_is_err_and}
use Rattle.process_memory.proofs.Reading.{reading_gives, reading_then}
use Rattle.gc_lists.specs.Links.{links_at}
use Rattle.gc_lists.specs.Rings.{list_at, list_by}
use Rattle.gc_lists.specs.Walks.{listing_of, most_members}
use Rattle.gc_lists.proofs.Said.{one_more, said}
use Rattle.gc_lists.proofs.walk.read_ring.Goals as goal

pub returns-in_err-links-clause-is : goal.returns-in_err-links-clause-is
returns-in_err-links-clause-is g c =
    let p = err_from_is_err_and c.from_residual.result c.from_residual.ensures.1 in
    rw p.1 (reading_gives _ _ c.in_err-links.ensures (omega arith) (λ m a. tt))

pub returns-in-Some-clause-is : goal.returns-in-Some-clause-is
returns-in-Some-clause-is g c =
    let heads = c.args.heads.now in
    let head = c.args.head in
    reading_gives _ _
    (reading_then (λ m. IfOk c.follow.result (λ list. listing_of list ≡ list_at (links_at c.args.mask m) heads most_members head)) c.in_ok-links.ensures c.follow.ensures.is
    (λ m a b. said listing_of c.follow.result (list_by (Some c.in-Some.first) (links_at c.args.mask m) heads most_members head)
    (list_at (links_at c.args.mask m) heads most_members head)
    (ap (λ o. list_by o (links_at c.args.mask m) heads most_members head) (sym c.in-Some.is ∙ a)) b))
    (one_more c.follow.result) (λ m h. h)

pub returns-in-None-clause-is : goal.returns-in-None-clause-is
returns-in-None-clause-is g c =
    reading_gives _ _ c.in_ok-links.ensures (omega arith)
    (λ m a. rw c.new.ensures.items (ap (λ o. list_by o (links_at c.args.mask m) c.args.heads.now most_members c.args.head) (sym c.in-None.is ∙ a)))
