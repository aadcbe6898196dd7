use Rattle.std.proofs.Common.{arith}
use Rattle.std.proofs.lemmas.Result.{err_from_is_err_and}
use Rattle.process_memory.proofs.Reading.{reads_halt, reads_known, reads_next}
use Rattle.py_builtins.specs.Consulted.IsRecordSize.{Keys}
use Rattle.py_builtins.proofs.Consulted.{consults_record}
use Rattle.py_builtins.proofs.keys.read_keys_record.Goals as goal

pub returns-in_err-record_in-clause-answer : goal.returns-in_err-record_in-clause-answer
returns-in_err-record_in-clause-answer g c =
    let p = err_from_is_err_and c.from_residual.result c.from_residual.ensures.1 in
    let one = consults_record c.args.layout.now (Keys c.args.keys.now c.requires.keys) (rw c.requires.object at c.in_err-record_in.ensures.answer) in
    rw p.1 (reads_halt 1 p.0 _ one p.2 (omega arith))

pub returns-clause-answer : goal.returns-clause-answer
returns-clause-answer g c =
    let one = consults_record c.args.layout.now (Keys c.args.keys.now c.requires.keys) (rw c.requires.object at c.in_ok-record_in.ensures.answer) in
    reads_next 1 _ one (reads_known 0 _ _ (λ m. c.slots_in.ensures.answer)) (omega arith)
