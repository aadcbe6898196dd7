use Rattle.std.proofs.Common.{ap, arith, refl, sym, ◌∙◌}
use Rattle.std.proofs.lemmas.Result.{err_from_is_err_and}
use Rattle.process_memory.proofs.Reading.{reading_gives, reading_then}
use Rattle.thread_exceptions.specs.Groups.{members_if}
use Rattle.thread_exceptions.proofs.groups.read_if_group.Goals as goal

pub returns-in_err-is : goal.returns-in_err-is
returns-in_err-is g c =
    let p = err_from_is_err_and c.from_residual.result c.from_residual.ensures.1 in
    rw p.1 (reading_gives _ _ c.in_err-is.ensures (omega arith) (λ m h. tt))

pub returns-then-is : goal.returns-then-is
returns-then-is g c = reading_gives 260 _ (reading_then _ c.in_ok-is.ensures c.read_members.ensures
    (λ m p q. rw (sym p ∙ c.if-is.true) q)) (omega arith) (λ m h. h)

pub returns : goal.returns
returns g c = reading_gives 260 _ c.in_ok-is.ensures (omega arith) (λ m p. rw (sym p ∙ c.if-is.false) refl)
