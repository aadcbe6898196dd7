use Rattle.std.proofs.Common.{◌∙◌, ap, arith, length, sym}
use Rattle.std.proofs.lemmas.List.{take_all}
use Rattle.std.proofs.lemmas.List.Folds.{flat_map-map}
use Rattle.std.specs.Prelude.{flat_map}
use Rattle.py_stacks.specs.Frames.{Call, call_of}
use Rattle.py_stacks.specs.declared.trace.Frame.{Frame}
use Rattle.core_report.specs.Stacked.{locals_in}
use Rattle.core_report.specs.Stacks.{locals_of}
use Rattle.core_report.proofs.reach_command.roots_of.Goals as goal

pub returns : goal.returns
returns c =
    let frames = c.args.trace.now.frames.items in
    let all = take_all c.loop-frame.frame-index frames (omega (arith, c.loop-frame-test.false, ap length c.deref-frame-items.ensures.value)) in
    c.loop-frame.invariant ∙ ap (λ fs. flat_map (λ (f : Frame). locals_in (locals_of f.locals)) fs) all
    ∙ sym (flat_map-map (λ (f : Call). locals_in f.locals) call_of frames)
