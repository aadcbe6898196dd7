use Rattle.std.proofs.Common.{ap, arith, ◌∙◌}
use Rattle.std.proofs.lemmas.Result.{err_from_is_err_and}
use Rattle.process_memory.proofs.Reading.{reading_gives}
use Rattle.thread_exceptions.specs.Thread.{named}
use Rattle.thread_exceptions.proofs.thread.read_named.Goals as goal

pub returns-in_err-is : goal.returns-in_err-is
returns-in_err-is g c =
    let p = err_from_is_err_and c.from_residual.result c.from_residual.ensures.1 in
    rw p.1 (reading_gives _ _ c.in_err-is.ensures (omega arith) (λ m h. tt))

pub returns : goal.returns
returns g c = reading_gives _ _ c.in_ok-is.ensures (omega arith) (λ m h. c.named.ensures ∙ ap (named c.args.addr) h)
