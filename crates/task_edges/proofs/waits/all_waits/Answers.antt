use Rattle.std.proofs.Common.{arith, map, subst}
use Rattle.std.proofs.lemmas.List.{take_all}
use Rattle.task_edges.specs.Edges.{sources_in}
use Rattle.task_edges.specs.Leading.{before}
use Rattle.task_edges.specs.Waits.{AllWait, answer_of, task_of}
use Rattle.task_edges.proofs.Answering.{waits_more}
use Rattle.task_edges.proofs.waits.all_waits.Goals as goal

pub loop-one-preserved : goal.loop-one-preserved
loop-one-preserved c =
    rw c.in_ok-push.ensures.items
    (waits_more (before (sources_in c.args.index.now) c.args.tasks.now.keys) (map task_of c.args.waiting.now)
    c.args.limit c.args.waiting.now c.loop-one.one-index c.loop-one.list.items c.in_ok-waits.waits
    c.loop-one-test.true c.loop-one.invariant c.in_ok-waits.ensures)

pub returns : goal.returns
returns c =
    subst (λ ws. AllWait (before (sources_in c.args.index.now) c.args.tasks.now.keys) (map task_of c.args.waiting.now)
    c.args.limit ws (map answer_of c.loop-one.list.items))
    (take_all c.loop-one.one-index c.args.waiting.now
    (omega (arith, c.loop-one-test.false, c.loop-one.auto.one-index-end))) c.loop-one.invariant
