use Rattle.std.proofs.Common.{subst}
use Rattle.std.proofs.lemmas.List.{take_all}
use Rattle.image_memory.specs.Backed.{regions_of}
use Rattle.process_memory.specs.Memory.{byte_at}
use Rattle.memory_sections.specs.Each.{EachTold}
use Rattle.memory_sections.specs.Told.{AreTasksOf}
use Rattle.memory_sections.proofs.Each.{each_next, each_none}
use Rattle.memory_sections.proofs.tasks.each_tasks.Goals as goal

pub loop-interpreter-init : goal.loop-interpreter-init
loop-interpreter-init c =
    let m = byte_at (regions_of c.args.process.now.dump) in
    each_none (AreTasksOf c.args.process.now.layout c.args.records.now m c.args.slots) c.args.interpreters.now _
    c.new-told.ensures.items

pub loop-interpreter-preserved : goal.loop-interpreter-preserved
loop-interpreter-preserved c =
    let m = byte_at (regions_of c.args.process.now.dump) in
    rw c.in_ok-push.ensures.items (each_next (AreTasksOf c.args.process.now.layout c.args.records.now m c.args.slots)
    c.args.interpreters.now
    c.loop-interpreter.told.items c.loop-interpreter.interpreter-index c.interpreter-item.result
    c.interpreter-item.result _ c.loop-interpreter-test.true c.interpreter-item.is c.loop-interpreter.invariant
    c.in_ok-tasks_of.ensures)

pub returns : goal.returns
returns c =
    let m = byte_at (regions_of c.args.process.now.dump) in
    subst (λ xs. EachTold (AreTasksOf c.args.process.now.layout c.args.records.now m c.args.slots) xs c.loop-interpreter.told.items)
    (take_all c.loop-interpreter.interpreter-index c.args.interpreters.now c.loop-interpreter-test.false)
    c.loop-interpreter.invariant
