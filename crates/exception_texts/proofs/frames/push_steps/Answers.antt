use Rattle.std.proofs.Common.{string_bytes}
use Rattle.exception_texts.proofs.Steps.{none, one_more}
use Rattle.exception_texts.proofs.frames.push_steps.Goals as goal

pub loop-init : goal.loop-init
loop-init c = none (string_bytes c.args.text.now)

pub loop-preserved : goal.loop-preserved
loop-preserved c = one_more (string_bytes c.args.text.now) (string_bytes c.loop.text) _ c.loop.counter c.loop.invariant
    c.in_ok-push_str.ensures.bytes
