use Rattle.memory_builder.specs.Mirror.{frame_in}
use Rattle.memory_builder.specs.Sizes.{frame_size}
use Rattle.py_stacks.specs.Lines.{family_of}
use Rattle.memory_builder.specs.Validity.{IsValidFrame}
use Rattle.memory_builder.proofs.Firsts.{item_held}
use Rattle.memory_builder.proofs.Sums.{all_capped, more_capped}
use Rattle.memory_builder.proofs.sizes.frames_size.Goals as goal

pub frame_size-requires-clause-valid : goal.frame_size-requires-clause-valid
frame_size-requires-clause-valid c =
    item_held (IsValidFrame (family_of c.args.layout.now.lines)) frame_in c.args.frames.now c.loop-frame.frame-index
    c.frame-item.result
    c.loop-frame-test.true c.frame-item.is (c.requires.valid c.loop-frame.frame-index)

pub loop-frame-preserved : goal.loop-frame-preserved
loop-frame-preserved c =
    more_capped (frame_size c.args.layout.now) frame_in c.args.frames.now c.loop-frame.frame-index c.frame-item.result
    c.loop-frame.total c.in_ok-frame_size.field-0 c.saturating_add-total.result
    c.loop-frame-test.true c.frame-item.is c.loop-frame.invariant c.in_ok-frame_size.ensures
    c.saturating_add-total.ensures

pub returns : goal.returns
returns c = all_capped (frame_size c.args.layout.now) frame_in c.args.frames.now c.loop-frame.frame-index
    c.loop-frame.total c.loop-frame-test.false c.loop-frame.invariant
