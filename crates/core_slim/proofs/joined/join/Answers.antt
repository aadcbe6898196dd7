use Rattle.std.proofs.Common.{arith, ◌+◌, ap, sym, ◌∙◌, ◌++◌, get_or, subst}
use Rattle.std.specs.Prelude.{Vec}
use Rattle.std.specs.Global.{Global}
use Rattle.std.proofs.lemmas.List.{drop_all}
use Rattle.process_memory.specs.declared.memory.Span.{Span}
use Rattle.core_slim.specs.Joined.{joined}
use Rattle.core_slim.proofs.Joining.{IsJoining, joins_apart, joins_in, next_fits, next_range}
use Rattle.core_slim.proofs.joined.join.Goals as goal
use Rattle.core_slim.proofs.joined.join.Goals.{then-range-last, else-range-last+in_ok-push}

pub loop-range-init : goal.loop-range-init
loop-range-init c = record {
  joins = ap (λ ps. ps ++ joined c.args.first c.args.others.now) c.new-pieces.ensures.items;
  some = c.requires.some;
  ascends = c.requires.ascends;
  fits = c.requires.first_fits c.requires.some;
}

pub overflow_add-last : goal.overflow_add-last
overflow_add-last c = omega (arith, c.loop-range.invariant.fits)

pub both-last-requires : goal.both-last-requires
both-last-requires c =
    let i = c.loop-range.invariant in
    let h =
    next_range c.loop-range.last.start c.loop-range.range-index c.args.others.now (record { start = 0; len = 0 })
    c.loop-range-test.true i.ascends in
    record {
      ascends = h.0;
      fits =
          next_fits c.loop-range.last.start c.loop-range.range-index c.args.others.now
          (record { start = 0; len = 0 }) c.loop-range-test.true i.ascends c.requires.fit;
    }

pub loop-range-preserved : goal.loop-range-preserved
loop-range-preserved c =
    let i = c.loop-range.invariant in
    let others = c.args.others.now in
    let number = c.loop-range.range-index in
    let range = get_or others number (record { start = 0; len = 0 }) in
    let Joining = λ (v : Vec Span Global) (last : Span). IsJoining c.args.first others v.items last (number + 1) in
    elim c.if-range-last.branch [
      | then-range-last w ↦
          let is =
          joins_in c.args.first others c.loop-range.pieces.items c.loop-range.last number
          (record { start = 0; len = 0 }) c.loop-range-test.true i c.requires.fit w.if-range-last.true in
          subst (λ v. Joining v c.if-range-last.last) (sym w.pieces-is)
          (subst (λ last. Joining c.loop-range.pieces last) (sym (w.last-is ∙ w.both-last.ensures)) is)
      | else-range-last+in_ok-push w ↦
          let is =
          joins_apart c.args.first others c.loop-range.pieces.items c.loop-range.last number
          (record { start = 0; len = 0 }) c.loop-range-test.true i c.requires.fit w.if-range-last.false in
          subst (λ v. Joining v c.if-range-last.last) (sym w.pieces-is)
          (subst (λ last. Joining w.push.new.self last) (sym w.last-is)
          (subst (λ items. IsJoining c.args.first others items range (number + 1)) (sym w.in_ok-push.ensures.items) is))
    ]

pub returns : goal.returns
returns c =
    let i = c.loop-range.invariant in
    let gone = drop_all c.loop-range.range-index c.args.others.now (omega arith) in
    c.in_ok-push-2.ensures.items ∙ ap (λ ps. c.loop-range.pieces.items ++ joined c.loop-range.last ps) (sym gone)
    ∙ i.joins
