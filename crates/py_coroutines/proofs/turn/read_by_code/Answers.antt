use Rattle.std.proofs.Common.{ap, arith, refl, sym, ◌∙◌}
use Rattle.std.proofs.lemmas.Result.{err_from_is_err_and}
use Rattle.process_memory.proofs.Reading.{reading_short, reads_end, reads_halt, reads_next, reads_same}
use Rattle.process_memory.specs.Seen.{read_fault}
use Rattle.py_coroutines.specs.Objects.{code_turn_at, if_awaits, resumes}
use Rattle.py_coroutines.proofs.turn.read_by_code.Goals as goal

pub returns-in_err-pair : goal.returns-in_err-pair
unfolding code_turn_at
returns-in_err-pair g c =
    let p = err_from_is_err_and c.from_residual.result c.from_residual.ensures.1 in
    rw p.1 (reads_halt 2 p.0 _ (reading_short c.in_err-pair.ensures.answer) (ap read_fault p.2) (omega arith))

pub returns-then-awaits : goal.returns-then-awaits
unfolding code_turn_at
returns-then-awaits g c =
    let is = ap (resumes c.args.code.now) (sym c.deref.ensures.value) ∙ sym c.resumes-awaits.ensures ∙ c.if-awaits.true in
    reads_next 2 _ (reading_short c.in_ok-pair.ensures.answer)
    (reads_same _ _ (λ m. ap (if_awaits m c.args.top) is) c.read_top.ensures) (omega arith)

pub returns : goal.returns
unfolding code_turn_at
returns g c =
    let is = ap (resumes c.args.code.now) (sym c.deref.ensures.value) ∙ sym c.resumes-awaits.ensures ∙ c.if-awaits.false in
    reads_next {k = 0} 2 _ (reading_short c.in_ok-pair.ensures.answer)
    (reads_same _ _ (λ m. ap (if_awaits m c.args.top) is) (reads_end 0 refl)) (omega arith)
