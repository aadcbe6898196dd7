use Rattle.std.proofs.Common.{refl, arith}
use Rattle.std.specs.Prelude.{Ok}
use Rattle.std.proofs.lemmas.Result.{err_from_is_err_and}
use Rattle.process_memory.proofs.Reading.{reads_known, reads_same, reads_halt, reads_next, reads_end}
use Rattle.py_builtins.specs.declared.dicts.Slot.TheVariants.{Entry}
use Rattle.py_builtins.proofs.DictSteps.{slot_empty, slot_beside, slot_apart}
use Rattle.py_builtins.proofs.dicts.read_value.Goals as goal

pub returns-then-key-eq0-clause-answer : goal.returns-then-key-eq0-clause-answer
returns-then-key-eq0-clause-answer g c =
    reads_known 1 _ _ (λ m. record { is = slot_empty m c.args.values c.args.number c.args.key c.args.value (omega arith) })

pub returns-then-values-eq0-clause-answer : goal.returns-then-values-eq0-clause-answer
returns-then-values-eq0-clause-answer g c =
    reads_known 1 _ _ (λ m. record { is = slot_beside m c.args.values c.args.number c.args.key c.args.value (omega arith) (omega arith) })

pub returns-in_err-value-clause-answer : goal.returns-in_err-value-clause-answer
returns-in_err-value-clause-answer g c =
    let p = err_from_is_err_and c.from_residual.result c.from_residual.ensures.1 in
    rw p.1
    (reads_same _ _ (λ m. slot_apart m c.args.values c.args.number c.args.key c.args.value (omega arith) (omega arith))
    (reads_halt 1 p.0 (λ m held. Ok (Entry c.args.key held)) c.in_err-value.ensures.answer p.2 (omega arith)))

pub returns-clause-answer : goal.returns-clause-answer
returns-clause-answer g c =
    reads_same _ _ (λ m. slot_apart m c.args.values c.args.number c.args.key c.args.value (omega arith) (omega arith))
    (reads_next 1 (λ m held. Ok (Entry c.args.key held)) c.in_ok-value.ensures.answer (reads_end 0 refl) (omega arith))
