use Rattle.std.proofs.Common.{arith, refl}
use Rattle.std.proofs.lemmas.Result.{err_from_is_err_and}
use Rattle.process_memory.proofs.Reading.{reading_gives}
use Rattle.core_unwind.specs.declared.end.End.TheVariants.{Cut}
use Rattle.core_unwind.specs.declared.end.Limit.TheVariants.{Frames}
use Rattle.core_unwind.specs.declared.frame.Next.TheVariants.{Caller, Stops}
use Rattle.core_unwind.specs.Marks.{IsStep}
use Rattle.core_unwind.proofs.StackLaws.{following_init, following_lost, following_more, following_stops, step_shown}
use Rattle.core_unwind.proofs.walk.follow.Goals as goal

pub frames-init : goal.frames-init
frames-init g c = rw c.new-frames.ensures.items (following_init
    (λ m. IsStep c.args.mappings.now c.args.manner.now m) c.args.limit c.args.first.now _ (omega arith))

pub returns-in_err-turn : goal.returns-in_err-turn
returns-in_err-turn g c =
    let p = err_from_is_err_and c.from_residual.result c.from_residual.ensures.1 in
    rw p.1 (following_lost _ c.frames.invariant c.in_err-turn.ensures (λ m. tt))

pub returns-in_err-push : goal.returns-in_err-push
returns-in_err-push g c =
    let p = err_from_is_err_and c.from_residual-in_err-push.result c.from_residual-in_err-push.ensures.1 in
    rw p.1 (following_lost _ c.frames.invariant c.in_ok-turn.ensures (λ m. tt))

pub returns-in-Stops : goal.returns-in-Stops
returns-in-Stops g c =
    let turned = reading_gives 8549 _ c.in_ok-turn.ensures (omega arith) (λ m h.
    step_shown (IsStep c.args.mappings.now c.args.manner.now m) c.frames.state c.in_ok-turn.turn (Stops c.in-Stops.end)
    c.in-Stops.is h) in
    following_stops c.in_ok-turn.turn.frame (Stops c.in-Stops.end) c.in-Stops.end c.frames.invariant turned
    c.in_ok-push.ensures.items refl

pub returns-then-len-limit : goal.returns-then-len-limit
returns-then-len-limit g c =
    let turned = reading_gives 8549 _ c.in_ok-turn.ensures (omega arith) (λ m h.
    step_shown (IsStep c.args.mappings.now c.args.manner.now m) c.frames.state c.in_ok-turn.turn
    (Caller c.in-Caller.caller) c.in-Caller.is h) in
    following_stops c.in_ok-turn.turn.frame (Caller c.in-Caller.caller) (Cut Frames) c.frames.invariant turned
    c.in_ok-push.ensures.items (omega arith, refl)

pub frames-preserved : goal.frames-preserved
frames-preserved g c =
    let turned = reading_gives 8549 _ c.in_ok-turn.ensures (omega arith) (λ m h.
    step_shown (IsStep c.args.mappings.now c.args.manner.now m) c.frames.state c.in_ok-turn.turn
    (Caller c.in-Caller.caller) c.in-Caller.is h) in
    following_more c.in_ok-turn.turn.frame c.in-Caller.caller c.frames.invariant turned c.in_ok-push.ensures.items
    (omega arith)
