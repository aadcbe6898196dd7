use Rattle.std.proofs.Common.{◌≡◌, ◌∙◌, ◌∷◌, length, ap, sym, arith}
use Rattle.std.proofs.lemmas.List.{nil_from_length}
use Rattle.std.proofs.lemmas.Option.{MatchOption-at_none}
use Rattle.py_lines.proofs.Coding.{unordered_here, unordered_later, unordered_nowhere}
use Rattle.py_lines.proofs.encoding.first_unordered.Goals as goal

pub returns-then-not-can_stand : goal.returns-then-not-can_stand
returns-then-not-can_stand c =
    unordered_here c.args.family c.loop-range.at c.loop-range.index c.loop-range.rest.now _ c.loop-range.invariant.same
    c.in-Some.range.now c.in-Some.later.now c.in-Some.ensures.cases.0 (sym c.can_stand.ensures ∙ c.if-not-can_stand.true)

pub loop-range-preserved : goal.loop-range-preserved
loop-range-preserved c =
    let split : c.loop-range.rest.now ≡ c.in-Some.range.now ∷ c.in-Some.later.now = c.in-Some.ensures.cases.0 in
    record {
      count = omega (arith, c.loop-range.invariant.count, ap length split);
      same = unordered_later c.args.family c.loop-range.at c.loop-range.index c.loop-range.rest.now _ c.loop-range.invariant.same
          c.in-Some.range.now c.in-Some.later.now split (sym c.can_stand.ensures ∙ c.if-not-can_stand.false);
    }

pub returns : goal.returns
returns c =
    unordered_nowhere c.args.family c.loop-range.at c.loop-range.index c.loop-range.rest.now _ c.loop-range.invariant.same
    (nil_from_length c.loop-range.rest.now (MatchOption-at_none _ _ c.in_default.is c.split_first.ensures.cases))
