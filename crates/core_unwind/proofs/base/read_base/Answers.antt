use Rattle.std.proofs.Common.{◌∙◌, arith, sym}
use Rattle.std.proofs.lemmas.Result.{err_from_is_err_and}
use Rattle.process_memory.proofs.Reading.{reading_gives, reading_none, reading_then}
use Rattle.core_unwind.proofs.MarkSteps.{based_is, no_base}
use Rattle.core_unwind.proofs.base.read_base.Goals as goal

pub returns-in_default : goal.returns-in_default
returns-in_default g c = reading_none 2 _ _ (λ m. no_base c.args.mappings.now c.args.machine m c.args.state.now
    (sym c.in_default.ensures))

pub returns-in_err-before : goal.returns-in_err-before
returns-in_err-before g c =
    let p = err_from_is_err_and c.from_residual-in_err-before.result c.from_residual-in_err-before.ensures.1 in
    rw p.1 (reading_gives 2 _ (reading_then (λ m. Unit {0}) c.in_ok-word.ensures c.in_err-before.ensures
    (λ m a b. tt)) (omega arith) (λ m h. tt))

pub returns : goal.returns
returns g c = reading_gives 2 _ (reading_then _ c.in_ok-word.ensures c.in_ok-before.ensures
    (λ m p q. based_is c.args.mappings.now c.args.machine m c.args.state.now c.in-Some.base c.in-Some-word.word
    c.in_ok-before.before c.based_on-going.result (sym c.in-Some.ensures) (sym p ∙ c.in-Some-word.is)
    c.if-not-is_in_code.ensures q c.based_on-going.ensures)) (omega arith) (λ m h. h)
