use Rattle.std.proofs.Common.{◌≡◌, ◌∙◌, ◌≢◌, ◌+◌, ◌≤◌, ℕ, List, length, arith, ap, sym, refl, subst, rules}
use Rattle.std.specs.Prelude.{Ok, Err}
use Rattle.std.proofs.lemmas.List.{take_rest, length-drop}
use Rattle.std.proofs.lemmas.Bool.Decides.{nat_tests}
use Rattle.frame_rows.specs.declared.program.Flow.TheVariants.{Goes, Reached}
use Rattle.frame_rows.specs.Instructions.{instruction_in}
use Rattle.frame_rows.specs.Programs.{Course, Going, Arrived, Refused, Follows, IsWithin, does}
use Rattle.frame_rows.specs.declared.program.Flow.{Flow}
use Rattle.frame_rows.specs.declared.program.RowError.{RowError}
use Rattle.frame_rows.proofs.Programs.{IsAhead, course, listing, walk_refused, walk_ends, walk_arrives, walk_stops}
use Rattle.frame_rows.proofs.Programs.{walk_goes, refusal, arrival, going}
use Rattle.frame_rows.proofs.Runs.{runs_is}
use Rattle.frame_rows.proofs.program.Frame.run.Goals as goal

pub returns-in-Err-clause-runs : goal.returns-in-Err-clause-runs
returns-in-Err-clause-runs c = λ s holds.
    let frame = c.args.self.now in
    let kept = c.loop-rest.kept in
    let walk = c.loop-rest.walk in
    let at = c.loop-rest.at in
    let rest = c.loop-rest.rest.now in
    let some : length rest ≢ 0 = grind (arith, nat_tests) in
    let read : instruction_in rest ≡ Err c.in-Err.flaw = sym c.instruction_in.ensures.value ∙ c.in-Err.is in
    let target = course frame (length c.args.kept.now) (Going s)
    (listing (length c.args.program.now) c.args.base c.args.program.now) in
    let is = walk_refused frame kept walk at rest target (c.loop-rest.invariant.ahead s holds) c.in-Err.flaw some read
    in
    let error : RowError = record { at = at; flaw = c.in-Err.flaw } in
    let same : Follows kept (Err error) (Refused at c.in-Err.flaw) = (refl, refl) in
    runs_is frame c.args.kept.now s c.args.base c.args.program.now kept (Err error)
    (subst (λ (x : Course). Follows kept (Err error) x) (sym is) same)

pub returns-in-Ok-Reached-clause-runs : goal.returns-in-Ok-Reached-clause-runs
returns-in-Ok-Reached-clause-runs c = λ s holds.
    let frame = c.args.self.now in
    let kept = c.loop-rest.kept in
    let walk = c.loop-rest.walk in
    let at = c.loop-rest.at in
    let rest = c.loop-rest.rest.now in
    let r = c.in-Ok.read in
    let read : instruction_in rest ≡ Ok r = sym c.instruction_in.ensures.value ∙ c.in-Ok.is in
    let room = c.in-Ok.ensures.whole in
    let target = course frame (length c.args.kept.now) (Going s)
    (listing (length c.args.program.now) c.args.base c.args.program.now) in
    let ahead = c.loop-rest.invariant.ahead s holds in
    let next = does frame (length kept) ahead.state at (at + r.size) r.instruction in
    let row = c.in-Ok-Reached.row in
    let follows = subst (λ (f : Flow). Follows c.step.new.kept (Ok f) next) c.in-Ok-Reached.field-0-is
    (c.in-Ok-Reached.ensures.follows ahead.state ahead.holds) in
    let is = walk_arrives frame kept walk at rest target ahead r row read room
    (arrival c.step.new.kept row next follows) in
    let same : Follows c.step.new.kept (Ok (Reached row)) (Arrived row) = refl in
    runs_is frame c.args.kept.now s c.args.base c.args.program.now c.step.new.kept (Ok (Reached row))
    (subst (λ (x : Course). Follows c.step.new.kept (Ok (Reached row)) x) (sym is) same)

pub returns-in-Err-step-clause-runs : goal.returns-in-Err-step-clause-runs
returns-in-Err-step-clause-runs c = λ s holds.
    let frame = c.args.self.now in
    let kept = c.loop-rest.kept in
    let walk = c.loop-rest.walk in
    let at = c.loop-rest.at in
    let rest = c.loop-rest.rest.now in
    let r = c.in-Ok.read in
    let read : instruction_in rest ≡ Ok r = sym c.instruction_in.ensures.value ∙ c.in-Ok.is in
    let room = c.in-Ok.ensures.whole in
    let target = course frame (length c.args.kept.now) (Going s)
    (listing (length c.args.program.now) c.args.base c.args.program.now) in
    let ahead = c.loop-rest.invariant.ahead s holds in
    let next = does frame (length kept) ahead.state at (at + r.size) r.instruction in
    let error = c.in-Err-step.error in
    let follows = c.in-Err-step.ensures.follows ahead.state ahead.holds in
    let is = walk_stops frame kept walk at rest target ahead r error.at error.flaw read room
    (refusal c.step.new.kept error next follows) in
    let same : Follows c.step.new.kept (Err error) (Refused error.at error.flaw) = (refl, refl) in
    runs_is frame c.args.kept.now s c.args.base c.args.program.now c.step.new.kept (Err error)
    (subst (λ (x : Course). Follows c.step.new.kept (Err error) x) (sym is) same)

pub loop-rest-preserved : goal.loop-rest-preserved
loop-rest-preserved c =
    let within = subst (λ (f : Flow). IsWithin (length c.loop-rest.kept) f) c.in-Ok-Goes.field-0-is
    c.in-Ok-Goes.ensures.within in
    let long : length c.step.new.kept ≡ length c.loop-rest.kept = search rules in
    record {
      within = (let bound : c.in-Ok-Goes.next.depth ≤ length c.loop-rest.kept = within in omega (arith, bound, long));
      room = omega (
        arith,
        length-drop {A = ℕ},
        ap length (take_rest c.loop-rest.rest.now c.in-Ok.read.size),
        c.loop-rest.invariant.room,
        c.in-Ok.ensures.whole.ends,
      );
      long = long ∙ c.loop-rest.invariant.long;
      ahead = λ s holds.
          let frame = c.args.self.now in
          let kept = c.loop-rest.kept in
          let walk = c.loop-rest.walk in
          let at = c.loop-rest.at in
          let rest = c.loop-rest.rest.now in
          let r = c.in-Ok.read in
          let read : instruction_in rest ≡ Ok r = sym c.instruction_in.ensures.value ∙ c.in-Ok.is in
          let room = c.in-Ok.ensures.whole in
          let target = course frame (length c.args.kept.now) (Going s)
          (listing (length c.args.program.now) c.args.base c.args.program.now) in
          let ahead = c.loop-rest.invariant.ahead s holds in
          let next = does frame (length kept) ahead.state at (at + r.size) r.instruction in
          let w = c.in-Ok-Goes.next in
          let follows = subst (λ (f : Flow). Follows c.step.new.kept (Ok f) next) c.in-Ok-Goes.field-0-is
          (c.in-Ok-Goes.ensures.follows ahead.state ahead.holds) in
          let on = going c.step.new.kept w next follows in
          let later = walk_goes frame kept walk at rest target ahead r c.step.new.kept w on.0 read room on.1 on.2 long
          in
          subst (λ (l : List ℕ). IsAhead frame c.step.new.kept w (at + r.size) l target) (sym (take_rest rest r.size))
          later;
    }

pub returns-clause-runs : goal.returns-clause-runs
returns-clause-runs c = λ s holds.
    let frame = c.args.self.now in
    let kept = c.loop-rest.kept in
    let walk = c.loop-rest.walk in
    let at = c.loop-rest.at in
    let rest = c.loop-rest.rest.now in
    let none : length rest ≡ 0 = grind (arith, nat_tests) in
    let target = course frame (length c.args.kept.now) (Going s)
    (listing (length c.args.program.now) c.args.base c.args.program.now) in
    let ahead = c.loop-rest.invariant.ahead s holds in
    let is = walk_ends frame kept walk at rest target ahead none in
    runs_is frame c.args.kept.now s c.args.base c.args.program.now kept (Ok (Goes walk))
    (subst (λ (x : Course). Follows kept (Ok (Goes walk)) x) (sym is) ahead.holds)
