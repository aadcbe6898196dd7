use Rattle.std.proofs.Common.{ap, arith}
use Rattle.std.proofs.lemmas.Result.{err_from_is_err_and}
use Rattle.process_memory.specs.Seen.{read_fault}
use Rattle.process_memory.proofs.Reading.{reads_next, reads_halt}
use Rattle.py_selftest.proofs.Keeping.{reads_kept}
use Rattle.py_selftest.specs.Walking.{code_at, frame_step}
use Rattle.py_selftest.specs.Telling.{word_told}
use Rattle.py_selftest.proofs.walking.frame_step.Goals as goal

pub returns-in_err-back : goal.returns-in_err-back
unfolding frame_step
returns-in_err-back g c =
    let p = err_from_is_err_and c.from_residual.result c.from_residual.ensures.1 in
    rw p.1 (reads_halt 45 p.0 _ (reads_kept (λ m. word_told m c.args.met.at c.args.layout.now.frame.back)
    c.in_err-back.ensures c.word_told.ensures) (ap read_fault p.2) (omega arith))

pub returns-in_err-code : goal.returns-in_err-code
unfolding frame_step
returns-in_err-code g c =
    let p = err_from_is_err_and c.from_residual-in_err-code.result c.from_residual-in_err-code.ensures.1 in
    rw p.1 (reads_next 45 _ (reads_kept (λ m. word_told m c.args.met.at c.args.layout.now.frame.back)
    c.in_ok-back.ensures c.word_told.ensures)
    (reads_halt 44 p.0 _ (reads_kept (λ m. code_at c.args.layout.now m c.args.met.at) c.in_err-code.ensures
    c.code_of.ensures) (ap read_fault p.2) (omega arith)) (omega arith))

pub returns : goal.returns
unfolding frame_step
returns g c =
    (reads_next 45 _ (reads_kept (λ m. word_told m c.args.met.at c.args.layout.now.frame.back) c.in_ok-back.ensures
    c.word_told.ensures)
    (reads_next 44 _ (reads_kept (λ m. code_at c.args.layout.now m c.args.met.at) c.in_ok-code.ensures
    c.code_of.ensures)
    (rw c.or_null.ensures at c.code_step.ensures) (omega arith)) (omega arith))
