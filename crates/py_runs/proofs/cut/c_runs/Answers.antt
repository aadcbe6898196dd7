use Rattle.std.proofs.Common.{drop, add-one}
use Rattle.std.proofs.Math.Seq.{drop-cons}
use Rattle.std.proofs.lemmas.List.{drop_all}
use Rattle.py_runs.specs.Cuts.{c_runs}
use Rattle.py_runs.proofs.Cuts.{taken_done, taken_step}
use Rattle.py_runs.proofs.cut.c_runs.Goals as goal

pub loop-frame-preserved : goal.loop-frame-preserved
loop-frame-preserved c = rw (add-one c.loop-frame.frame-index) (taken_step (c_runs c.args.frames.now c.args.spans.now)
    c.loop-frame.runs.items c.push_taken.new.runs.items (drop c.loop-frame.frame-index c.args.frames.now) _
    c.loop-frame.left.now
    c.in_ok-left.left.now _ (drop-cons c.args.frames.now c.loop-frame.frame-index _ c.loop-frame-test.true)
    c.loop-frame.invariant c.in_ok-left.ensures.adds c.in_ok-left.ensures.left)

pub returns : goal.returns
returns c = taken_done (c_runs c.args.frames.now c.args.spans.now) c.loop-frame.runs.items c.push_plain.new.runs.items
    (drop c.loop-frame.frame-index c.args.frames.now) c.loop-frame.left.now
    (drop_all c.loop-frame.frame-index c.args.frames.now c.loop-frame-test.false) c.loop-frame.invariant
    c.in_ok-push_plain.ensures
