use Rattle.std.proofs.Common.{arith}
use Rattle.process_memory.proofs.Reading.{reads_known, reads_same}
use Rattle.py_builtins.proofs.DictSteps.{held_values, held_dict, held_nothing}
use Rattle.py_builtins.proofs.managed.read_held.Goals as goal

pub returns-then-held-ne0-clause-answer : goal.returns-then-held-ne0-clause-answer
returns-then-held-ne0-clause-answer g c =
    let l = c.args.layout.now in
    let h = c.args.heap.now in
    let rest = rw c.values_of-values.ensures.value at c.read_shared.ensures.answer in
    reads_same _ _ (λ m. held_values l m h c.args.addr c.args.tp_addr c.args.flags c.args.held.values c.args.held.dict (omega arith)) rest

pub returns-then-held-ne0-2-clause-answer : goal.returns-then-held-ne0-2-clause-answer
returns-then-held-ne0-2-clause-answer g c =
    let l = c.args.layout.now in
    let h = c.args.heap.now in
    reads_same _ _ (λ m. held_dict l m h c.args.addr c.args.tp_addr c.args.flags c.args.held.values c.args.held.dict (omega arith) (omega arith)) c.read_dict.ensures.answer

pub returns-clause-answer : goal.returns-clause-answer
returns-clause-answer g c =
    let l = c.args.layout.now in
    let h = c.args.heap.now in
    reads_known 2 _ _ (λ m. record { is = held_nothing l m h c.args.addr c.args.tp_addr c.args.flags c.args.held.values c.args.held.dict (omega arith) (omega arith) })
