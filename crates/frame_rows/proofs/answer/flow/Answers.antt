use Rattle.std.proofs.Common.{◌≡◌, ◌∙◌, ap, refl, subst, length, rules}
use Rattle.std.specs.Prelude.{Ok, Err}
use Rattle.frame_rows.specs.declared.program.Flow.{Flow}
use Rattle.frame_rows.specs.declared.program.Walk.{Walk}
use Rattle.frame_rows.specs.declared.program.Flow.TheVariants.{Goes, Reached}
use Rattle.frame_rows.specs.Programs.{State, Holds, Runs}
use Rattle.frame_rows.specs.Answer.{frame_of}
use Rattle.frame_rows.proofs.Both.{begins, refused_first, arrived_first, gone_on}
use Rattle.frame_rows.proofs.answer.flow.Goals as goal

pub returns-in-Err : goal.returns-in-Err
returns-in-Err c =
    let a = c.args.convention.now in
    let initial = c.args.initial.now in
    let own = c.args.own.now in
    let frame = c.frame_at-frame.result in
    let walk : Walk = record { location = c.args.begin; row = c.new-2.result; depth = 0 } in
    let is = c.frame_at-frame.ensures ∙ ap (frame_of a c.args.address) c.new.ensures in
    refused_first a initial own c.args.begin c.args.address c.args.kept.now c.run.new.kept c.in-Err.error
    (begins a initial own c.args.begin c.args.address frame walk c.args.kept.now c.run.new.kept (Err c.in-Err.error) is
    refl c.new-2.ensures refl c.in-Err.ensures.runs)

pub returns-in-Ok-Reached : goal.returns-in-Ok-Reached
returns-in-Ok-Reached c =
    let a = c.args.convention.now in
    let initial = c.args.initial.now in
    let own = c.args.own.now in
    let frame = c.frame_at-frame.result in
    let walk : Walk = record { location = c.args.begin; row = c.new-2.result; depth = 0 } in
    let is = c.frame_at-frame.ensures ∙ ap (frame_of a c.args.address) c.new.ensures in
    let runs = λ (s : State) (holds : Holds c.args.kept.now walk s). subst
    (λ (f : Flow). Runs frame c.args.kept.now s 0 initial c.run.new.kept (Ok f)) c.in-Ok-Reached.field-0-is
    (c.in-Ok-Reached.ensures.runs s holds) in
    arrived_first a initial own c.args.begin c.args.address c.args.kept.now c.run.new.kept c.in-Ok-Reached.row
    (begins a initial own c.args.begin c.args.address frame walk c.args.kept.now c.run.new.kept
    (Ok (Reached c.in-Ok-Reached.row)) is refl c.new-2.ensures refl runs)

pub returns-in-Ok-Goes : goal.returns-in-Ok-Goes
returns-in-Ok-Goes c =
    let a = c.args.convention.now in
    let initial = c.args.initial.now in
    let own = c.args.own.now in
    let frame = c.frame_at-frame.result in
    let walk : Walk = record { location = c.args.begin; row = c.new-2.result; depth = 0 } in
    let w = c.in-Ok-Goes.walk in
    let later = c.frame_at-later.result in
    let is = c.frame_at-frame.ensures ∙ ap (frame_of a c.args.address) c.new.ensures in
    let later_is = c.frame_at-later.ensures in
    let runs = λ (s : State) (holds : Holds c.args.kept.now walk s). subst
    (λ (f : Flow). Runs frame c.args.kept.now s 0 initial c.run.new.kept (Ok f)) c.in-Ok-Goes.field-0-is
    (c.in-Ok-Goes.ensures.runs s holds) in
    let long : length c.run.new.kept ≡ length c.args.kept.now = search rules in
    gone_on a initial own c.args.begin c.args.address c.args.kept.now c.run.new.kept c.run-in-Ok-Goes.new.kept later w
    c.run-in-Ok-Goes.result
    (begins a initial own c.args.begin c.args.address frame walk c.args.kept.now c.run.new.kept (Ok (Goes w)) is refl
    c.new-2.ensures refl runs)
    later_is long c.run-in-Ok-Goes.ensures.runs
