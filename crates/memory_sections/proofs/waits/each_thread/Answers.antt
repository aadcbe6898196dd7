use Rattle.std.proofs.Common.{subst}
use Rattle.std.proofs.lemmas.List.{take_all}
use Rattle.image_memory.specs.Backed.{regions_of}
use Rattle.process_memory.specs.Memory.{byte_at}
use Rattle.memory_sections.specs.Each.{EachTold}
use Rattle.memory_sections.specs.Waits.{IsWaitOf}
use Rattle.memory_sections.proofs.Each.{each_next, each_none}
use Rattle.memory_sections.proofs.waits.each_thread.Goals as goal

pub loop-thread-init : goal.loop-thread-init
loop-thread-init c =
    let m = byte_at (regions_of c.args.process.now.dump) in
    each_none (IsWaitOf c.args.standings.now c.args.process.now.layout m c.args.found.places c.args.found.gil)
    c.args.threads.now _ c.new-told.ensures.items

pub loop-thread-preserved : goal.loop-thread-preserved
loop-thread-preserved c =
    let m = byte_at (regions_of c.args.process.now.dump) in
    rw c.in_ok-push.ensures.items (each_next
    (IsWaitOf c.args.standings.now c.args.process.now.layout m c.args.found.places c.args.found.gil)
    c.args.threads.now c.loop-thread.told.items c.loop-thread.thread-index c.thread-item.result c.thread-item.result _
    c.loop-thread-test.true c.thread-item.is c.loop-thread.invariant c.in_ok-thread_wait.ensures)

pub returns : goal.returns
returns c =
    let m = byte_at (regions_of c.args.process.now.dump) in
    subst (λ xs. EachTold (IsWaitOf c.args.standings.now c.args.process.now.layout m c.args.found.places
    c.args.found.gil) xs c.loop-thread.told.items)
    (take_all c.loop-thread.thread-index c.args.threads.now c.loop-thread-test.false) c.loop-thread.invariant
