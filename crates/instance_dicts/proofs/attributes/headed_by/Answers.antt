use Rattle.std.proofs.Common.{ap, arith}
use Rattle.std.proofs.lemmas.Result.{err_from_is_err_and}
use Rattle.process_memory.proofs.Reading.{reads_next, reads_halt, reads_known}
use Rattle.py_builtins.specs.ObjectError.{object_fault}
use Rattle.py_builtins.specs.Consulted.IsWidth.{Word}
use Rattle.py_builtins.proofs.Consulted.{consults_field}
use Rattle.instance_dicts.specs.Attributes.{behind_header}
use Rattle.instance_dicts.proofs.attributes.headed_by.Goals as goal

pub returns-in_err-keys-clause-answer : goal.returns-in_err-keys-clause-answer
returns-in_err-keys-clause-answer g c =
    let p = err_from_is_err_and c.from_residual.result c.from_residual.ensures.1 in
    rw p.1 (reads_halt 3 p.0 _ (consults_field c.args.layout.now Word c.in_err-keys.ensures.answer) p.2 (omega arith))

pub returns-in_err-word-clause-answer : goal.returns-in_err-word-clause-answer
returns-in_err-word-clause-answer g c =
    let p = err_from_is_err_and c.from_residual-in_err-word.result c.from_residual-in_err-word.ensures.1 in
    rw p.1 (reads_next 3 _ (consults_field c.args.layout.now Word c.in_ok-keys.ensures.answer)
    (reads_halt 2 p.0 _ (consults_field c.args.layout.now Word c.in_err-word.ensures.answer) p.2 (omega arith))
    (omega arith))

pub returns-in_err-values-clause-answer : goal.returns-in_err-values-clause-answer
returns-in_err-values-clause-answer g c =
    let p = err_from_is_err_and c.from_residual-in_err-values.result c.from_residual-in_err-values.ensures.1 in
    rw p.1 (reads_next 3 _ (consults_field c.args.layout.now Word c.in_ok-keys.ensures.answer)
    (reads_next 2 _ (consults_field c.args.layout.now Word c.in_ok-word.ensures.answer)
    (reads_halt 1 p.0 _ (reads_known 0 (λ m. behind_header c.in_ok-word.word) _ (λ m. c.in_err-values.ensures))
    (ap object_fault p.2) (omega arith)) (omega arith)) (omega arith))

pub returns-clause-answer : goal.returns-clause-answer
returns-clause-answer g c =
    reads_next 3 _ (consults_field c.args.layout.now Word c.in_ok-keys.ensures.answer)
    (reads_next 2 _ (consults_field c.args.layout.now Word c.in_ok-word.ensures.answer)
    (reads_next 1 _ (reads_known 0 (λ m. behind_header c.in_ok-word.word) _ (λ m. c.in_ok-values.ensures))
    c.from_keys.ensures.answer (omega arith)) (omega arith)) (omega arith)
