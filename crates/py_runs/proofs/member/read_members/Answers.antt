use Rattle.std.proofs.Common.{◌≡◌, ◌++◌, ◌-◌, ◌+◌, refl, arith}
use Rattle.std.proofs.Math.Nat.{sub-zero}
use Rattle.std.proofs.lemmas.Result.{err_from_is_err_and}
use Rattle.process_memory.proofs.Reading.{reading_gives, reading_none, reading_then}
use Rattle.py_runs.specs.Members.{members_from}
use Rattle.py_runs.proofs.Chains.{members_cut, members_end, members_lost, members_more}
use Rattle.py_runs.proofs.member.read_members.Goals as goal

pub loop-at-init : goal.loop-at-init
loop-at-init g c = record {
  within = omega arith;
  reading = rw c.new-members.ensures.items (reading_none 0 _ _ (λ m. rw sub-zero refl));
}

pub returns-then-met-count : goal.returns-then-met-count
returns-then-met-count g c = reading_gives _ _ c.loop-at.invariant.reading (omega (arith, c.loop-at.invariant.within))
    (λ m w. members_cut c.args.layout.now c.args.end m c.args.count c.loop-at.met c.loop-at.at _ c.loop-at.members.items
    (omega (arith, c.if-met-count.true)) w)

pub returns-in_err-step : goal.returns-in_err-step
returns-in_err-step g c =
    let p = err_from_is_err_and c.from_residual.result c.from_residual.ensures.1 in
    rw p.1 (reading_gives _ _ (reading_then (λ m. Unit {0}) c.loop-at.invariant.reading c.in_err-step.ensures
    (λ m a b. tt)) (omega (arith, c.loop-at.invariant.within, c.if-met-count.false)) (λ m h. tt))

pub returns-in_err-push : goal.returns-in_err-push
returns-in_err-push g c =
    let p = err_from_is_err_and c.from_residual-in_err-push.result c.from_residual-in_err-push.ensures.1 in
    rw p.1 (reading_gives _ _ (reading_then (λ m. Unit {0}) c.loop-at.invariant.reading c.in_ok-step.ensures
    (λ m a b. tt)) (omega (arith, c.loop-at.invariant.within, c.if-met-count.false)) (λ m h. tt))

pub returns-in-None : goal.returns-in-None
returns-in-None g c = reading_gives _ _
    (reading_then (λ m. c.push.new.self.items ≡ members_from c.args.layout.now c.args.end m c.args.count c.args.first)
    c.loop-at.invariant.reading c.in_ok-step.ensures
    (λ m w h. members_lost c.args.layout.now c.args.end m c.args.count c.loop-at.met c.loop-at.at _
    c.loop-at.members.items c.push.new.self.items
    c.in_ok-step.step c.loop-at-test.true (omega (arith, c.loop-at.invariant.within, c.if-met-count.false)) w h
    c.in_ok-push.ensures.items c.in-None.is))
    (omega (arith, c.loop-at.invariant.within, c.if-met-count.false)) (λ m h. h)

pub loop-at-preserved : goal.loop-at-preserved
loop-at-preserved g c = record {
  within = omega (arith, c.loop-at.invariant.within, c.if-met-count.false);
  reading = reading_gives _ _
      (reading_then (λ m. members_from c.args.layout.now c.args.end m c.args.count c.args.first
      ≡ c.push.new.self.items ++ members_from c.args.layout.now c.args.end m (c.args.count - (c.loop-at.met + 1))
      c.in-Some.back) c.loop-at.invariant.reading c.in_ok-step.ensures
      (λ m w h. members_more c.args.layout.now c.args.end m c.args.count c.loop-at.met c.loop-at.at _
      c.loop-at.members.items c.push.new.self.items
      c.in_ok-step.step c.in-Some.back c.loop-at-test.true
      (omega (arith, c.loop-at.invariant.within, c.if-met-count.false)) w h c.in_ok-push.ensures.items c.in-Some.is))
      (omega arith) (λ m h. h);
}

pub returns : goal.returns
returns g c = reading_gives _ _ c.loop-at.invariant.reading (omega (arith, c.loop-at.invariant.within))
    (λ m w. members_end c.args.layout.now c.args.end m c.args.count c.loop-at.met c.loop-at.at _ c.loop-at.members.items
    c.loop-at-test.false w)
