use Rattle.std.proofs.Common.{◌∙◌, sym, ap, map}
use Rattle.image_builder.specs.Generated.{frame_of}
use Rattle.memory_builder.specs.Mirror.{frame_in}
use Rattle.image_builder.proofs.Each.{each_none, one_more}
use Rattle.image_builder.proofs.seeded.thread_of.Goals as goal

pub loop-frame-init : goal.loop-frame-init
loop-frame-init c = ap (map frame_in) c.new-frames.ensures.items ∙ sym (each_none (frame_of c.args.seed c.args.thread))

pub loop-frame-preserved : goal.loop-frame-preserved
loop-frame-preserved c =
    one_more frame_in (frame_of c.args.seed c.args.thread) c.loop-frame.frame c.loop-frame.frames.items
    c.push.new.self.items c.in_ok-frame_of.field-0
    c.in_ok-push.ensures.items c.loop-frame.invariant c.in_ok-frame_of.ensures
