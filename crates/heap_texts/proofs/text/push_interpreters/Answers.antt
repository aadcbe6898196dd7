use Rattle.std.proofs.Common.{string_bytes}
use Rattle.heap_texts.specs.Text.{interpreter_text}
use Rattle.salvage_texts.proofs.Parts.{push_more}
use Rattle.heap_texts.proofs.text.push_interpreters.Goals as goal

pub loop-heap-preserved : goal.loop-heap-preserved
loop-heap-preserved c =
    push_more (λ x. interpreter_text x) (string_bytes c.args.text.now) _ _ c.args.heaps.now
    c.loop-heap.heap-index c.heap-item.result c.heap-item.result c.loop-heap-test.true
    c.heap-item.is c.loop-heap.invariant c.in_ok-push_interpreter.ensures
