use Rattle.std.proofs.Common.{◌*◌, ◌+◌, length, take, get_or, arith}
use Rattle.std.proofs.lemmas.List.{take_more}
use Rattle.std.proofs.lemmas.Result.{err_from_is_err_and}
use Rattle.process_memory.proofs.Reading.{reading_gives, reading_none, reading_then}
use Rattle.py_census.specs.Tallies.{AreTallied}
use Rattle.py_census.proofs.Tallying.{met_more, none_met}
use Rattle.py_census.proofs.tallies.meet_objects.Goals as goal

pub loop-object-init : goal.loop-object-init
loop-object-init g c = reading_none _ _ _
    (λ m. none_met c.args.layout.now c.args.places.now m c.args.tallies.now c.requires.none)

pub returns-in_err-lost : goal.returns-in_err-lost
returns-in_err-lost g c =
    let p = err_from_is_err_and c.from_residual.result c.from_residual.ensures.1 in
    rw p.1 (reading_gives (24 * length c.args.objects.now) _ (reading_then
    (λ m. Unit {0}) c.loop-object.invariant c.in_err-lost.ensures (λ m a b. tt))
    (omega (arith, c.loop-object-test.true)) (λ m h. tt))

pub loop-object-preserved : goal.loop-object-preserved
loop-object-preserved g c =
    let l = c.args.layout.now in
    let p = c.args.places.now in
    let i = c.loop-object.object-index in
    let xs = c.args.objects.now in
    let t = c.meet_object.new.tallies in
    reading_gives (24 * (i + 1)) _
    (reading_then (λ m. AreTallied l p m (take (i + 1) xs) t c.saturating_add-unreadable.result)
    c.loop-object.invariant c.in_ok-lost.ensures
    (λ m a b. rw (take_more xs i 0 c.loop-object-test.true, c.saturating_add-unreadable.ensures, c.from.ensures)
    (met_more l p m (take i xs) (get_or xs i 0) a b)))
    (omega arith) (λ m h. h)
