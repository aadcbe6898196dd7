use Rattle.std.proofs.Common.{ℕ, ◌↔◌, arith, map, subst}
use Rattle.std.specs.List.{Contains}
use Rattle.std.proofs.lemmas.List.{take_all}
use Rattle.task_edges.specs.Waits.{task_of}
use Rattle.task_edges.proofs.Answering.{tasks_more}
use Rattle.task_edges.proofs.Sets.{set_added}
use Rattle.task_edges.proofs.waits.tasks_of.Goals as goal

pub loop-one-init : goal.loop-one-init
loop-one-init c = λ a. rw c.new-tasks.ensures.empty ((λ h. h), (λ h. h))

pub loop-one-preserved : goal.loop-one-preserved
loop-one-preserved c =
    tasks_more c.args.waiting.now c.loop-one.one-index c.loop-one.tasks.keys c.insert.new.self.keys
    c.loop-one-test.true c.loop-one.invariant
    (set_added c.loop-one.tasks c.insert.new.self _ c.in_ok-insert.ensures.updates)

pub returns : goal.returns
returns c =
    subst (λ ws. (a : ℕ) → Contains c.loop-one.tasks.keys a ↔ Contains (map task_of ws) a)
    (take_all c.loop-one.one-index c.args.waiting.now
    (omega (arith, c.loop-one-test.false, c.loop-one.auto.one-index-end))) c.loop-one.invariant
