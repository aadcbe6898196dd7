use Rattle.std.proofs.Common.{arith}
use Rattle.std.proofs.lemmas.Result.{err_from_is_err_and}
use Rattle.process_memory.proofs.Reading.{reading_gives}
use Rattle.py_reprs.proofs.Listing.{listing_done, listing_init, listing_lost, listing_more}
use Rattle.py_reprs.proofs.places.read_places.Goals as goal

pub loop-number-init : goal.loop-number-init
loop-number-init g c = listing_init _ _ _ _ _ c.new-places.ensures.items

pub returns-in_err-place : goal.returns-in_err-place
returns-in_err-place g c =
    let p = err_from_is_err_and c.from_residual.result c.from_residual.ensures.1 in
    rw p.1 (reading_gives _ _ (listing_lost c.loop-number.invariant (omega arith) c.in_err-place.ensures
    (omega arith)) (omega arith) (λ m h. tt))

pub returns-in_err-push : goal.returns-in_err-push
returns-in_err-push g c =
    let p = err_from_is_err_and c.from_residual-in_err-push.result c.from_residual-in_err-push.ensures.1 in
    rw p.1 (reading_gives _ _ (listing_lost c.loop-number.invariant (omega arith) c.in_ok-place.ensures
    (omega arith)) (omega arith) (λ m h. tt))

pub loop-number-preserved : goal.loop-number-preserved
loop-number-preserved g c = listing_more _ c.loop-number.invariant (omega arith) c.in_ok-place.ensures
    c.in_ok-push.ensures.items

pub returns : goal.returns
returns g c = reading_gives _ _ (listing_done c.loop-number.invariant (omega arith)) (omega arith) (λ m h. h)
