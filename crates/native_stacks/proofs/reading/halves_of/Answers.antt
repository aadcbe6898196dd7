use Rattle.std.proofs.Common.{arith, refl}
use Rattle.process_memory.proofs.Reading.{reading_gives, reading_none}
use Rattle.native_frames.specs.Limits.{thread_most}
use Rattle.native_frames.specs.Threads.{stack_shown, stack_shown_if}
use Rattle.native_stacks.proofs.Following.{halves_are}
use Rattle.native_stacks.proofs.reading.halves_of.Goals as goal

pub returns-in-None-clause-is : goal.returns-in-None-clause-is
returns-in-None-clause-is g c = reading_none thread_most _ _ (λ m. rw c.in-None.is (refl, refl))

pub returns-in_ok-parts-in-Some-clause-is : goal.returns-in_ok-parts-in-Some-clause-is
returns-in_ok-parts-in-Some-clause-is g c = reading_gives thread_most _ c.in_ok-parts-in-Some.ensures.is (omega arith)
    (λ m h. halves_are c.args.mappings.now c.args.code_bits m c.args.strict c.args.left c.args.standing c.in-Some.machine
    c.in-Some.state (stack_shown c.in_ok-parts-in-Some.parts.stack) (stack_shown_if c.in_ok-parts-in-Some.parts.guessed)
    c.in-Some.is h)
