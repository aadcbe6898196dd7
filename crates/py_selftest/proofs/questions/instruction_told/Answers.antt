use Rattle.std.proofs.Common.{ap, sym, refl, arith}
use Rattle.std.proofs.lemmas.Result.{err_from_is_err_and}
use Rattle.process_memory.specs.Seen.{read_fault}
use Rattle.process_memory.proofs.Reading.{reads_next, reads_halt, reads_end, reads_same, reading_short}
use Rattle.py_selftest.specs.Questions.{instruction_told}
use Rattle.std.specs.Prelude.{Some}
use Rattle.py_selftest.proofs.questions.instruction_told.Goals as goal

pub returns-in-None : goal.returns-in-None
unfolding instruction_told
returns-in-None g c =
    reads_same _ _ (λ m. ap (λ o. instruction_told c.args.layout.now m o c.args.frame c.args.code) c.in-None.is)
    (reads_end 1 refl)

pub returns-in_err-at-in-Some : goal.returns-in_err-at-in-Some
unfolding instruction_told
returns-in_err-at-in-Some g c =
    let p = err_from_is_err_and c.from_residual.result c.from_residual.ensures.1 in
    rw p.1 (reads_same _ _ (λ m. ap (λ o. instruction_told c.args.layout.now m o c.args.frame c.args.code)
    c.in-Some.is)
    (reads_halt 1 p.0 _ (reading_short c.in_err-at-in-Some.ensures.answer) (ap read_fault p.2) (omega arith)))

pub returns-in_ok-at-in-Some : goal.returns-in_ok-at-in-Some
unfolding instruction_told
returns-in_ok-at-in-Some g c =
    (reads_same _ _ (λ m. ap (λ o. instruction_told c.args.layout.now m o c.args.frame c.args.code) c.in-Some.is)
    (reads_next 1 _ (reading_short c.in_ok-at-in-Some.ensures.answer)
    (reads_end 0 (ap (λ b. Some b) (sym c.stands_in.ensures))) (omega arith)))
