use Rattle.std.proofs.Common.{subst}
use Rattle.std.proofs.lemmas.List.{take_all}
use Rattle.image_memory.specs.Backed.{regions_of}
use Rattle.process_memory.specs.Memory.{byte_at}
use Rattle.memory_sections.specs.Each.{EachTold}
use Rattle.memory_sections.specs.Told.{AreNamesOf}
use Rattle.memory_sections.proofs.Each.{each_next, each_none}
use Rattle.memory_sections.proofs.names.each_names.Goals as goal

pub loop-interpreter-init : goal.loop-interpreter-init
loop-interpreter-init c =
    let m = byte_at (regions_of c.args.process.now.dump) in
    each_none (AreNamesOf c.args.process.now.layout c.args.rule.now m) c.args.interpreters.now _ c.new-names.ensures.items

pub loop-interpreter-preserved : goal.loop-interpreter-preserved
loop-interpreter-preserved c =
    let m = byte_at (regions_of c.args.process.now.dump) in
    rw c.in_ok-push.ensures.items (each_next (AreNamesOf c.args.process.now.layout c.args.rule.now m) c.args.interpreters.now
    c.loop-interpreter.names.items c.loop-interpreter.interpreter-index c.interpreter-item.result
    c.interpreter-item.result _ c.loop-interpreter-test.true c.interpreter-item.is c.loop-interpreter.invariant
    c.in_ok-names_of.ensures)

pub returns : goal.returns
returns c =
    let m = byte_at (regions_of c.args.process.now.dump) in
    subst (λ xs. EachTold (AreNamesOf c.args.process.now.layout c.args.rule.now m) xs c.loop-interpreter.names.items)
    (take_all c.loop-interpreter.interpreter-index c.args.interpreters.now c.loop-interpreter-test.false)
    c.loop-interpreter.invariant
