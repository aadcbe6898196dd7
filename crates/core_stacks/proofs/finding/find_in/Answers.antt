use Rattle.std.proofs.Common.{ap, refl, arith, ◌∙◌}
use Rattle.std.specs.Prelude.{Err}
use Rattle.std.proofs.lemmas.Result.{err_from_is_err_and}
use Rattle.process_memory.proofs.Reading.{reading_gives, reading_then}
use Rattle.py_process.specs.Facts.{known_of}
use Rattle.py_process.proofs.Sections.{searching}
use Rattle.core_stacks.specs.Seen.{finding_in}
use Rattle.core_stacks.proofs.Steps.{lock_fails, lock_hits, search_fails, search_hits}
use Rattle.core_stacks.proofs.finding.find_in.Goals as goal

pub returns-in_err-interpreter-clause-finds : goal.returns-in_err-interpreter-clause-finds
returns-in_err-interpreter-clause-finds g c =
    let p = err_from_is_err_and c.from_residual.result c.from_residual.ensures.1 in
    reading_gives _ _ c.in_err-interpreter.ensures.none (omega arith)
    (λ m h. search_fails m _ _ _ _ _ c.in_err-interpreter.field-0.0 p.0 _ p.2 h (ap finding_in p.1))

pub returns-in_err-lock-clause-finds : goal.returns-in_err-lock-clause-finds
returns-in_err-lock-clause-finds g c =
    let p = err_from_is_err_and c.from_residual-in_err-lock.result c.from_residual-in_err-lock.ensures.1 in
    reading_then _ c.in_ok-interpreter.ensures.first (searching (known_of c.args.info.now) c.in_err-lock.ensures)
    (λ m a b. search_hits m m _ _ _ _ _ c.in_ok-interpreter.interpreter _ a refl
    (lock_fails m _ _ _ _ _ c.in_err-lock.field-0.0 _ b (ap finding_in p.1 ∙ ap (λ e. Err e) p.2)))

pub returns-clause-finds : goal.returns-clause-finds
returns-clause-finds g c =
    reading_then _ c.in_ok-interpreter.ensures.first (searching (known_of c.args.info.now) c.in_ok-lock.ensures)
    (λ m a b. search_hits m m _ _ _ _ _ c.in_ok-interpreter.interpreter _ a refl
    (lock_hits m _ _ _ _ _ c.in_ok-lock.lock _ b refl))
