use Rattle.std.proofs.Common.{subst, length}
use Rattle.std.specs.Prelude.{Ok, Err}
use Rattle.frame_rows.specs.declared.program.Flow.{Flow}
use Rattle.frame_rows.specs.declared.program.Flow.TheVariants.{Goes, Reached}
use Rattle.frame_rows.specs.Answer.{FollowsBoth}
use Rattle.frame_rows.proofs.Both.{row_is, one_row}
use Rattle.frame_rows.proofs.answer.row_at.Goals as goal

pub returns-in-Ok-Goes-clause-right : goal.returns-in-Ok-Goes-clause-right
returns-in-Ok-Goes-clause-right c =
    let follows = subst (λ (f : Flow). FollowsBoth c.args.convention.now c.args.initial.now c.args.own.now c.args.begin
    c.args.address (length c.args.kept.now) c.flow.new.kept (Ok f)) c.in-Ok-Goes.field-0-is c.in-Ok-Goes.ensures in
    row_is c.args.convention.now c.args.initial.now c.args.own.now c.args.begin c.args.address (length c.args.kept.now)
    c.flow.new.kept (Ok (Goes c.in-Ok-Goes.walk)) follows

pub returns-in-Ok-Goes-clause-only : goal.returns-in-Ok-Goes-clause-only
returns-in-Ok-Goes-clause-only c = λ other is.
    one_row c.args.convention.now c.args.initial.now c.args.own.now c.args.begin c.args.address (length c.args.kept.now)
    _ _ is (returns-in-Ok-Goes-clause-right c)

pub returns-in-Ok-Reached-clause-right : goal.returns-in-Ok-Reached-clause-right
returns-in-Ok-Reached-clause-right c =
    let follows = subst (λ (f : Flow). FollowsBoth c.args.convention.now c.args.initial.now c.args.own.now c.args.begin
    c.args.address (length c.args.kept.now) c.flow.new.kept (Ok f)) c.in-Ok-Reached.field-0-is c.in-Ok-Reached.ensures
    in
    row_is c.args.convention.now c.args.initial.now c.args.own.now c.args.begin c.args.address (length c.args.kept.now)
    c.flow.new.kept (Ok (Reached c.in-Ok-Reached.row)) follows

pub returns-in-Ok-Reached-clause-only : goal.returns-in-Ok-Reached-clause-only
returns-in-Ok-Reached-clause-only c = λ other is.
    one_row c.args.convention.now c.args.initial.now c.args.own.now c.args.begin c.args.address (length c.args.kept.now)
    _ _ is (returns-in-Ok-Reached-clause-right c)

pub returns-in-Err-clause-right : goal.returns-in-Err-clause-right
returns-in-Err-clause-right c = row_is c.args.convention.now c.args.initial.now c.args.own.now c.args.begin
    c.args.address (length c.args.kept.now) c.flow.new.kept (Err c.in-Err.error) c.in-Err.ensures

pub returns-in-Err-clause-only : goal.returns-in-Err-clause-only
returns-in-Err-clause-only c = λ other is.
    one_row c.args.convention.now c.args.initial.now c.args.own.now c.args.begin c.args.address (length c.args.kept.now)
    _ _ is (returns-in-Err-clause-right c)
