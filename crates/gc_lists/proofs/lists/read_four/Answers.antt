use Rattle.std.proofs.Common.{◌≡◌, ◌∙◌, ap, arith}
use Rattle.std.proofs.lemmas.Result.{err_from_is_err_and}
use Rattle.process_memory.proofs.Reading.{reading_gives, reading_then}
use Rattle.gc_lists.specs.Links.{links_at}
use Rattle.gc_lists.specs.Lists.{four_at}
use Rattle.gc_lists.specs.Rings.{list_at}
use Rattle.gc_lists.specs.Walks.{listing_of, most_members}
use Rattle.gc_lists.proofs.lists.read_four.Goals as goal

pub returns-in_err-youngest : goal.returns-in_err-youngest
returns-in_err-youngest g c =
    let p = err_from_is_err_and c.from_residual.result c.from_residual.ensures.1 in
    rw p.1 (reading_gives _ _ c.in_err-youngest.ensures.is (omega arith) (λ m a. tt))

pub returns-in_err-middle : goal.returns-in_err-middle
returns-in_err-middle g c =
    let p = err_from_is_err_and c.from_residual-in_err-middle.result c.from_residual-in_err-middle.ensures.1 in
    rw p.1 (reading_gives _ _ (reading_then (λ m. Unit {0}) c.in_ok-youngest.ensures.is c.in_err-middle.ensures.is (λ m a b. tt))
    (omega (arith, c.in_ok-youngest.ensures.few)) (λ m h. tt))

pub returns-in_err-oldest : goal.returns-in_err-oldest
returns-in_err-oldest g c =
    let p = err_from_is_err_and c.from_residual-in_err-oldest.result c.from_residual-in_err-oldest.ensures.1 in
    rw p.1 (reading_gives _ _ (reading_then (λ m. Unit {0}) (reading_then (λ m. Unit {0}) c.in_ok-youngest.ensures.is c.in_ok-middle.ensures.is (λ m a b. tt))
    c.in_err-oldest.ensures.is (λ m a b. tt))
    (omega (arith, c.in_ok-youngest.ensures.few, c.in_ok-middle.ensures.few)) (λ m h. tt))

pub returns-in_err-permanent : goal.returns-in_err-permanent
returns-in_err-permanent g c =
    let p = err_from_is_err_and c.from_residual-in_err-permanent.result c.from_residual-in_err-permanent.ensures.1 in
    rw p.1 (reading_gives _ _ (reading_then (λ m. Unit {0}) (reading_then (λ m. Unit {0}) (reading_then (λ m. Unit {0}) c.in_ok-youngest.ensures.is c.in_ok-middle.ensures.is
    (λ m a b. tt)) c.in_ok-oldest.ensures.is (λ m a b. tt)) c.in_err-permanent.ensures.is (λ m a b. tt))
    (omega (arith, c.in_ok-youngest.ensures.few, c.in_ok-middle.ensures.few, c.in_ok-oldest.ensures.few)) (λ m h. tt))

pub returns : goal.returns
returns g c =
    let heads = c.args.heads.now in
    let own = c.args.own in
    let young = c.in_ok-youngest.youngest in
    let mid = c.in_ok-middle.middle in
    let old = c.in_ok-oldest.oldest in
    let last = c.in_ok-permanent.permanent in
    reading_gives _ _
    (reading_then (λ m. record { collecting = c.args.collecting; youngest = listing_of young; middle = listing_of mid; oldest = listing_of old; permanent = listing_of last }
    ≡ four_at (links_at c.args.mask m) heads own c.args.collecting)
    (reading_then (λ m. record { collecting = c.args.collecting; youngest = listing_of young; middle = listing_of mid; oldest = listing_of old; permanent = list_at (links_at c.args.mask m) heads most_members own.permanent }
    ≡ four_at (links_at c.args.mask m) heads own c.args.collecting)
    (reading_then (λ m. record { collecting = c.args.collecting; youngest = listing_of young; middle = listing_of mid; oldest = list_at (links_at c.args.mask m) heads most_members own.oldest; permanent = list_at (links_at c.args.mask m) heads most_members own.permanent }
    ≡ four_at (links_at c.args.mask m) heads own c.args.collecting)
    c.in_ok-youngest.ensures.is c.in_ok-middle.ensures.is
    (λ m a b.
    ap (λ x. record { collecting = c.args.collecting; youngest = x; middle = listing_of mid; oldest = list_at (links_at c.args.mask m) heads most_members own.oldest; permanent = list_at (links_at c.args.mask m) heads most_members own.permanent }) a
    ∙ ap (λ x. record { collecting = c.args.collecting; youngest = list_at (links_at c.args.mask m) heads most_members own.youngest; middle = x; oldest = list_at (links_at c.args.mask m) heads most_members own.oldest; permanent = list_at (links_at c.args.mask m) heads most_members own.permanent }) b))
    c.in_ok-oldest.ensures.is
    (λ m a b. ap (λ x. record { collecting = c.args.collecting; youngest = listing_of young; middle = listing_of mid; oldest = x; permanent = list_at (links_at c.args.mask m) heads most_members own.permanent }) b ∙ a))
    c.in_ok-permanent.ensures.is
    (λ m a b. ap (λ x. record { collecting = c.args.collecting; youngest = listing_of young; middle = listing_of mid; oldest = listing_of old; permanent = x }) b ∙ a))
    (omega arith) (λ m h. h)
