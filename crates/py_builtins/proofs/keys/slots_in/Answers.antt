use Rattle.std.proofs.Common.{refl, ap, arith}
use Rattle.std.proofs.lemmas.Result.{err_from_is_err_and}
use Rattle.process_memory.proofs.Reading.{answers_then, answers_stop}
use Rattle.py_fields.proofs.ObjectFields.{keys_fits}
use Rattle.py_builtins.specs.ObjectError.{object_fault}
use Rattle.py_builtins.specs.Dicts.{slots_in}
use Rattle.py_builtins.proofs.keys.slots_in.Goals as goal

pub u64_in-requires : goal.u64_in-requires
u64_in-requires c = omega (arith, (keys_fits c.requires.sound c.args.keys.now c.requires.keys).used, c.requires.object)

pub returns-in_err-count-clause-answer : goal.returns-in_err-count-clause-answer
unfolding slots_in
returns-in_err-count-clause-answer c =
    let p = err_from_is_err_and c.from_residual.result c.from_residual.ensures.1 in
    let count = rw c.u64_in.ensures at c.in_err-count.ensures.answer in
    rw p.1 (answers_stop object_fault p.0 _ count (ap object_fault p.2))

pub returns-in_err-index-clause-answer : goal.returns-in_err-index-clause-answer
unfolding slots_in
returns-in_err-index-clause-answer c =
    let p = err_from_is_err_and c.from_residual-in_err-index.result c.from_residual-in_err-index.ensures.1 in
    let count = rw c.u64_in.ensures at c.in_ok-count.ensures.answer in
    rw p.1 (answers_then _ count (answers_stop object_fault p.0 _ c.in_err-index.ensures.answer (ap object_fault p.2)))

pub returns-clause-answer : goal.returns-clause-answer
unfolding slots_in
returns-clause-answer c =
    let count = rw c.u64_in.ensures at c.in_ok-count.ensures.answer in
    answers_then _ count (answers_then _ c.in_ok-index.ensures.answer (record { is = refl }))
