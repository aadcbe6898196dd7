use Rattle.std.proofs.Common.{map, below_more, IsTrue}
use Rattle.memory_builder.specs.Mirror.{frame_in}
use Rattle.memory_builder.specs.Validity.{IsValidCall, IsValidFrame}
use Rattle.memory_builder.proofs.Firsts.{each_there, item_held, item_holds}
use Rattle.memory_builder.proofs.validity.first_invalid_frame.Goals as goal

pub returns-then-not-branch : goal.returns-then-not-branch
returns-then-not-branch c = record {
  fails = λ h.
      let valid = item_held (IsValidFrame c.args.family) frame_in c.args.frames.now c.loop-i.i c.index-frames-i.result
      c.loop-i-test.true c.index-frames-i.is h in
      let yes : IsTrue c.in_ok-is_valid_frame.field-0 = c.in_ok-is_valid_frame.ensures.1 valid in
      cc;
  before = c.loop-i.invariant;
}

pub loop-i-preserved : goal.loop-i-preserved
loop-i-preserved c =
    let here = item_holds (IsValidFrame c.args.family) frame_in c.args.frames.now c.loop-i.i c.index-frames-i.result
    c.loop-i-test.true c.index-frames-i.is
    (c.in_ok-is_valid_frame.ensures.0 c.if-not-branch.false) in
    below_more (IsValidCall c.args.family (map frame_in c.args.frames.now)) c.loop-i.i c.loop-i.invariant here

pub returns : goal.returns
returns c = each_there (IsValidFrame c.args.family) frame_in c.args.frames.now c.loop-i.i c.loop-i-test.false
    c.loop-i.invariant
