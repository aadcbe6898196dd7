use Rattle.std.proofs.Common.{◌≡◌, ◌++◌, ◌-◌, ◌+◌, ◌∙◌, refl, sym, arith}
use Rattle.std.proofs.Math.Nat.{sub-zero}
use Rattle.std.proofs.lemmas.Result.{err_from_is_err_and}
use Rattle.process_memory.proofs.Reading.{reading_gives, reading_none, reading_then}
use Rattle.py_runs.specs.Members.{c_frames_from}
use Rattle.py_runs.proofs.Chains.{c_frames_cut, c_frames_end, c_frames_lost, c_frames_more}
use Rattle.py_runs.proofs.c_frame.read_c_frames.Goals as goal

pub loop-at-init : goal.loop-at-init
loop-at-init g c = record {
  within = omega arith;
  reading = rw c.new-frames.ensures.items (reading_none 0 _ _ (λ m. rw sub-zero refl));
}

pub returns-then-met-most : goal.returns-then-met-most
returns-then-met-most g c =
    reading_gives _ _ c.loop-at.invariant.reading (omega (arith, c.loop-at.invariant.within))
    (λ m w. c_frames_cut c.args.current c.args.previous m c.args.most c.loop-at.met c.loop-at.at _ c.loop-at.frames.items
    (omega (arith, c.if-met-most.true)) w)

pub returns-in_err-found : goal.returns-in_err-found
returns-in_err-found g c =
    let p = err_from_is_err_and c.from_residual.result c.from_residual.ensures.1 in
    rw p.1 (reading_gives _ _ (reading_then (λ m. Unit {0}) c.loop-at.invariant.reading c.in_err-found.ensures
    (λ m a b. tt)) (omega (arith, c.loop-at.invariant.within, c.if-met-most.false)) (λ m h. tt))

pub returns-in_err-push : goal.returns-in_err-push
returns-in_err-push g c =
    let p = err_from_is_err_and c.from_residual-in_err-push.result c.from_residual-in_err-push.ensures.1 in
    rw p.1 (reading_gives _ _ (reading_then (λ m. Unit {0}) c.loop-at.invariant.reading c.in_ok-found.ensures
    (λ m a b. tt)) (omega (arith, c.loop-at.invariant.within, c.if-met-most.false)) (λ m h. tt))

pub returns-in-None : goal.returns-in-None
returns-in-None g c = reading_gives _ _
    (reading_then (λ m. c.loop-at.frames.items ≡ c_frames_from c.args.current c.args.previous m c.args.most c.args.first)
    c.loop-at.invariant.reading c.in_ok-found.ensures
    (λ m w h. c_frames_lost c.args.current c.args.previous m c.args.most c.loop-at.met c.loop-at.at _ c.loop-at.frames.items
    c.loop-at-test.true
    (omega (arith, c.loop-at.invariant.within, c.if-met-most.false)) w (sym c.in-None.is ∙ h)))
    (omega (arith, c.loop-at.invariant.within, c.if-met-most.false)) (λ m h. h)

pub loop-at-preserved : goal.loop-at-preserved
loop-at-preserved g c = record {
  within = omega (arith, c.loop-at.invariant.within, c.if-met-most.false);
  reading = reading_gives _ _
      (reading_then (λ m. c_frames_from c.args.current c.args.previous m c.args.most c.args.first
      ≡ c.push.new.self.items ++ c_frames_from c.args.current c.args.previous m (c.args.most - (c.loop-at.met + 1))
      c.in-Some.found.1) c.loop-at.invariant.reading c.in_ok-found.ensures
      (λ m w h. c_frames_more c.args.current c.args.previous m c.args.most c.loop-at.met c.loop-at.at _
      c.loop-at.frames.items c.push.new.self.items
      c.in-Some.found.0 c.in-Some.found.1 c.loop-at-test.true
      (omega (arith, c.loop-at.invariant.within, c.if-met-most.false)) w
      (sym c.in-Some.is ∙ h) c.in_ok-push.ensures.items))
      (omega arith) (λ m h. h);
}

pub returns : goal.returns
returns g c = reading_gives _ _ c.loop-at.invariant.reading (omega (arith, c.loop-at.invariant.within))
    (λ m w. c_frames_end c.args.current c.args.previous m c.args.most c.loop-at.met c.loop-at.at _ c.loop-at.frames.items
    c.loop-at-test.false w)
