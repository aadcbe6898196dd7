use Rattle.std.proofs.Common.{ap, arith}
use Rattle.std.proofs.lemmas.Result.{err_from_is_err_and}
use Rattle.process_memory.proofs.Reading.{reads_known, reads_same, reads_next, reads_halt}
use Rattle.py_builtins.specs.Dicts.{managed_slots, managed_by}
use Rattle.py_builtins.specs.Consulted.IsWidth.{Word}
use Rattle.py_builtins.proofs.Consulted.{consults_field}
use Rattle.py_builtins.proofs.managed.read_managed.Goals as goal

pub returns-in_err-values-in-Some-clause-answer : goal.returns-in_err-values-in-Some-clause-answer
unfolding managed_slots
returns-in_err-values-in-Some-clause-answer g c =
    let p = err_from_is_err_and c.from_residual.result c.from_residual.ensures.1 in
    rw p.1
    (reads_same _ _ (λ m. ap (managed_by c.args.layout.now m c.args.addr c.args.tp_addr c.args.flags) c.in-Some.is)
    (reads_halt 4 p.0 _ (consults_field c.args.layout.now Word c.in_err-values-in-Some.ensures.answer) p.2 (omega arith)))

pub returns-in_err-dict-in-Some-clause-answer : goal.returns-in_err-dict-in-Some-clause-answer
unfolding managed_slots
returns-in_err-dict-in-Some-clause-answer g c =
    let p = err_from_is_err_and c.from_residual-in_err-dict-in-Some.result c.from_residual-in_err-dict-in-Some.ensures.1 in
    rw p.1
    (reads_same _ _ (λ m. ap (managed_by c.args.layout.now m c.args.addr c.args.tp_addr c.args.flags) c.in-Some.is)
    (reads_next 4 _ (consults_field c.args.layout.now Word c.in_ok-values-in-Some.ensures.answer)
    (reads_halt 1 p.0 _ (consults_field c.args.layout.now Word c.in_err-dict-in-Some.ensures.answer) p.2 (omega arith))
    (omega arith)))

pub returns-in_ok-dict-in-Some-clause-answer : goal.returns-in_ok-dict-in-Some-clause-answer
unfolding managed_slots
returns-in_ok-dict-in-Some-clause-answer g c =
    let rest = rw c.held_by-held.ensures.held at c.read_held.ensures.answer in
    reads_same _ _ (λ m. ap (managed_by c.args.layout.now m c.args.addr c.args.tp_addr c.args.flags) c.in-Some.is)
    (reads_next 4 _ (consults_field c.args.layout.now Word c.in_ok-values-in-Some.ensures.answer)
    (reads_next 3 _ (consults_field c.args.layout.now Word c.in_ok-dict-in-Some.ensures.answer) rest (omega arith))
    (omega arith))

pub returns-in-None-clause-answer : goal.returns-in-None-clause-answer
unfolding managed_slots
returns-in-None-clause-answer g c =
    reads_known 4 _ _ (λ m. record { is = ap (managed_by c.args.layout.now m c.args.addr c.args.tp_addr c.args.flags) c.in-None.is })
