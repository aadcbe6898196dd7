use Rattle.std.proofs.Common.{arith}
use Rattle.std.proofs.lemmas.Result.{err_from_is_err_and}
use Rattle.process_memory.proofs.Reading.{reads_next, reads_halt}
use Rattle.py_fields.proofs.ObjectFields.{heap_fits}
use Rattle.py_builtins.specs.Dicts.{shared_slots}
use Rattle.py_builtins.specs.Consulted.IsRecordSize.{Heap}
use Rattle.py_builtins.proofs.Consulted.{consults_record}
use Rattle.py_builtins.proofs.managed.read_shared.Goals as goal

pub u64_in-keys-requires : goal.u64_in-keys-requires
u64_in-keys-requires g c = omega (arith, (heap_fits c.requires.sound c.args.heap.now c.requires.heap).cached_keys, c.requires.object, c.record_in.auto.buf)

pub returns-in_err-record_in-clause-answer : goal.returns-in_err-record_in-clause-answer
unfolding shared_slots
returns-in_err-record_in-clause-answer g c =
    let p = err_from_is_err_and c.from_residual.result c.from_residual.ensures.1 in
    let one = consults_record c.args.layout.now (Heap c.args.heap.now c.requires.heap) (rw c.requires.object at c.in_err-record_in.ensures.answer) in
    rw p.1 (reads_halt 2 p.0 _ one p.2 (omega arith))

pub returns-clause-answer : goal.returns-clause-answer
unfolding shared_slots
returns-clause-answer g c =
    let one = consults_record c.args.layout.now (Heap c.args.heap.now c.requires.heap) (rw c.requires.object at c.in_ok-record_in.ensures.answer) in
    let rest = rw c.u64_in-keys.ensures at c.read_keys.ensures.answer in
    reads_next 2 _ one rest (omega arith)
