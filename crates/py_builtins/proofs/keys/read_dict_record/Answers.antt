use Rattle.std.proofs.Common.{arith}
use Rattle.std.proofs.lemmas.Result.{err_from_is_err_and}
use Rattle.process_memory.proofs.Reading.{reads_halt, reads_next}
use Rattle.py_fields.proofs.ObjectFields.{dict_fits}
use Rattle.py_builtins.specs.Consulted.IsRecordSize.{Dict}
use Rattle.py_builtins.proofs.Consulted.{consults_record}
use Rattle.py_builtins.proofs.keys.read_dict_record.Goals as goal

pub u64_in-keys-requires : goal.u64_in-keys-requires
u64_in-keys-requires g c = omega (arith, (dict_fits c.requires.sound c.args.dict.now c.requires.dict).keys, c.requires.object, c.record_in.auto.buf)

pub u64_in-values-requires : goal.u64_in-values-requires
u64_in-values-requires g c = omega (arith, (dict_fits c.requires.sound c.args.dict.now c.requires.dict).values, c.requires.object, c.record_in.auto.buf)

pub returns-in_err-record_in-clause-answer : goal.returns-in_err-record_in-clause-answer
returns-in_err-record_in-clause-answer g c =
    let p = err_from_is_err_and c.from_residual.result c.from_residual.ensures.1 in
    let one = consults_record c.args.layout.now (Dict c.args.dict.now c.requires.dict) (rw c.requires.object at c.in_err-record_in.ensures.answer) in
    rw p.1 (reads_halt 2 p.0 _ one p.2 (omega arith))

pub returns-clause-answer : goal.returns-clause-answer
returns-clause-answer g c =
    let one = consults_record c.args.layout.now (Dict c.args.dict.now c.requires.dict) (rw c.requires.object at c.in_ok-record_in.ensures.answer) in
    let rest = rw (c.u64_in-keys.ensures, c.u64_in-values.ensures) at c.read_keys.ensures.answer in
    reads_next 2 _ one rest (omega arith)
