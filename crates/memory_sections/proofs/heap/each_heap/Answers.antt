use Rattle.std.proofs.Common.{subst}
use Rattle.std.proofs.lemmas.List.{take_all}
use Rattle.image_memory.specs.Backed.{regions_of}
use Rattle.process_memory.specs.Memory.{byte_at}
use Rattle.memory_sections.specs.Each.{EachTold}
use Rattle.memory_sections.specs.Heap.{IsHeapOf}
use Rattle.memory_sections.proofs.Each.{each_next, each_none}
use Rattle.memory_sections.proofs.heap.each_heap.Goals as goal

pub loop-interpreter-init : goal.loop-interpreter-init
loop-interpreter-init c =
    let m = byte_at (regions_of c.args.process.now.dump) in
    each_none (IsHeapOf c.args.process.now.layout c.args.places.now c.args.bases.now m) c.args.interpreters.now _
    c.new-told.ensures.items

pub loop-interpreter-preserved : goal.loop-interpreter-preserved
loop-interpreter-preserved c =
    let m = byte_at (regions_of c.args.process.now.dump) in
    rw c.in_ok-push.ensures.items (each_next (IsHeapOf c.args.process.now.layout c.args.places.now c.args.bases.now m)
    c.args.interpreters.now c.loop-interpreter.told.items c.loop-interpreter.interpreter-index c.interpreter-item.result
    c.interpreter-item.result _ c.loop-interpreter-test.true c.interpreter-item.is c.loop-interpreter.invariant
    c.in_ok-interpreter_heap.ensures)

pub returns : goal.returns
returns c =
    let m = byte_at (regions_of c.args.process.now.dump) in
    subst (λ xs. EachTold (IsHeapOf c.args.process.now.layout c.args.places.now c.args.bases.now m) xs
    c.loop-interpreter.told.items)
    (take_all c.loop-interpreter.interpreter-index c.args.interpreters.now c.loop-interpreter-test.false)
    c.loop-interpreter.invariant
