use Rattle.std.proofs.Common.{subst}
use Rattle.std.proofs.lemmas.List.{take_all}
use Rattle.image_memory.specs.Backed.{regions_of}
use Rattle.process_memory.specs.Memory.{byte_at}
use Rattle.memory_sections.specs.Each.{EachTold}
use Rattle.memory_sections.specs.Exceptions.{IsThreadTold}
use Rattle.memory_sections.proofs.Each.{each_next, each_none}
use Rattle.memory_sections.proofs.exceptions.each_thread.Goals as goal

pub loop-thread-init : goal.loop-thread-init
loop-thread-init c =
    let m = byte_at (regions_of c.args.process.now.dump) in
    each_none (IsThreadTold c.args.process.now.layout c.args.places.now m) c.args.threads.now _
    c.new-told.ensures.items

pub loop-thread-preserved : goal.loop-thread-preserved
loop-thread-preserved c =
    let m = byte_at (regions_of c.args.process.now.dump) in
    rw c.in_ok-push.ensures.items (each_next (IsThreadTold c.args.process.now.layout c.args.places.now m)
    c.args.threads.now
    c.loop-thread.told.items c.loop-thread.thread-index c.thread-item.result
    c.thread-item.result _ c.loop-thread-test.true c.thread-item.is c.loop-thread.invariant
    c.in_ok-thread_told.ensures)

pub returns : goal.returns
returns c =
    let m = byte_at (regions_of c.args.process.now.dump) in
    subst (λ xs. EachTold (IsThreadTold c.args.process.now.layout c.args.places.now m) xs c.loop-thread.told.items)
    (take_all c.loop-thread.thread-index c.args.threads.now c.loop-thread-test.false)
    c.loop-thread.invariant
