use Rattle.std.proofs.Common.{refl, arith}
use Rattle.std.specs.Prelude.{None}
use Rattle.std.proofs.lemmas.Result.{err_from_is_err_and}
use Rattle.object_reach.specs.Reading.{parts_told}
use Rattle.object_reach.proofs.PartSteps.{filling_init, filling_more, filling_done, filling_over, filling_out}
use Rattle.object_reach.proofs.PartSteps.{filling_lost}
use Rattle.object_reach.proofs.objects.read_words.Goals as goal

pub loop-number-init : goal.loop-number-init
loop-number-init g c = rw c.new-words.ensures.items (filling_init (parts_told c.args.parts.now) _ c.args.room)

pub returns-in-Err : goal.returns-in-Err
returns-in-Err g c = filling_lost c.in-Err.error c.broken.result c.loop-number.invariant c.loop-number-test.true c.in-Err.ensures c.broken.ensures

pub returns-then-number-room : goal.returns-then-number-room
returns-then-number-room g c = filling_over c.loop-number.invariant (omega (arith, c.if-number-room.true)) c.loop-number-test.true c.in-Ok.ensures

pub returns-in_err-add_words : goal.returns-in_err-add_words
returns-in_err-add_words g c =
    let p = err_from_is_err_and c.from_residual.result c.from_residual.ensures.1 in
    rw p.1 (filling_out p.0 p.2 c.loop-number.invariant c.in-Ok.ensures)

pub loop-number-preserved : goal.loop-number-preserved
loop-number-preserved g c =
    rw c.in_ok-add_words.ensures (filling_more c.loop-number.invariant (omega (arith, c.if-number-room.false)) c.in-Ok.ensures)

pub returns : goal.returns
returns g c =
    filling_done (record { slots = c.args.parts.now.count; words = c.loop-number.words; broken = None }) c.loop-number.invariant
    (omega (arith, c.loop-number.auto.number-end, c.loop-number-test.false)) refl refl refl
