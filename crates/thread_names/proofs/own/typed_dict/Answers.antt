use Rattle.std.proofs.Common.{arith}
use Rattle.std.proofs.lemmas.Result.{err_from_is_err_and}
use Rattle.process_memory.proofs.Reading.{reads_same, reads_within}
use Rattle.py_builtins.proofs.Consulted.{consulting_short}
use Rattle.py_names.proofs.TypedSteps.{plain_stop, plain_then, reads_fail, reads_pass, typed_managed, typed_plain}
use Rattle.thread_names.proofs.own.typed_dict.Goals as goal

pub returns-in_err-cursor-clause-answer : goal.returns-in_err-cursor-clause-answer
returns-in_err-cursor-clause-answer g c =
    let p = err_from_is_err_and c.from_residual.result c.from_residual.ensures.1 in
    rw p.1 (reads_same _ _ (λ m. typed_managed c.args.layout.now m c.args.addr c.args.class c.if-class-ne0.true)
    (reads_fail p.0 (consulting_short c.in_err-cursor.ensures.answer) p.2.0))

pub returns-then-class-ne0-clause-answer : goal.returns-then-class-ne0-clause-answer
returns-then-class-ne0-clause-answer g c =
    reads_same _ _ (λ m. typed_managed c.args.layout.now m c.args.addr c.args.class c.if-class-ne0.true)
    (reads_pass (consulting_short c.in_ok-cursor.ensures.answer))

pub returns-in_err-dict-clause-answer : goal.returns-in_err-dict-clause-answer
returns-in_err-dict-clause-answer g c =
    let p = err_from_is_err_and c.from_residual-in_err-dict.result c.from_residual-in_err-dict.ensures.1 in
    let plain = plain_stop c.args.layout.now c.args.addr c.args.class c.in_err-dict.ensures in
    rw p.1 (reads_same _ _ (λ m. typed_plain c.args.layout.now m c.args.addr c.args.class c.if-class-ne0.false)
    (reads_within 4 (reads_fail p.0 (consulting_short plain) p.2.0) (omega arith)))

pub returns-in_err-plain-clause-answer : goal.returns-in_err-plain-clause-answer
returns-in_err-plain-clause-answer g c =
    let p = err_from_is_err_and c.from_residual-in_err-plain.result c.from_residual-in_err-plain.ensures.1 in
    let plain = plain_then c.args.layout.now c.args.addr c.args.class c.in_ok-dict.ensures
    c.in_err-plain.ensures.answer in
    rw p.1 (reads_same _ _ (λ m. typed_plain c.args.layout.now m c.args.addr c.args.class c.if-class-ne0.false)
    (reads_within 4 (reads_fail p.0 (consulting_short plain) p.2.0) (omega arith)))

pub returns-clause-answer : goal.returns-clause-answer
returns-clause-answer g c =
    let plain = plain_then c.args.layout.now c.args.addr c.args.class c.in_ok-dict.ensures
    c.in_ok-plain.ensures.answer in
    reads_same _ _ (λ m. typed_plain c.args.layout.now m c.args.addr c.args.class c.if-class-ne0.false)
    (reads_within 4 (reads_pass (consulting_short plain)) (omega arith))
