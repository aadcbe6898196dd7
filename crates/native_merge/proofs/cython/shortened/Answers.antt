use Rattle.std.proofs.Common.{rules}
use Rattle.native_merge.specs.CythonNames.IsShortened.{Stops}
use Rattle.native_merge.proofs.Fronts.{ends, goes}
use Rattle.native_merge.proofs.cython.shortened.Goals as goal

pub returns-in_default-next_place : goal.returns-in_default-next_place
returns-in_default-next_place c =
    c.loop-turn.invariant.goes_on c.in-Some.turn.rest.now
    (ends c.loop-turn.place.now c.loop-turn.name.now c.in-Some.turn c.in-Some.ensures c.in_default-next_place.ensures)

pub loop-turn-preserved : goal.loop-turn-preserved
loop-turn-preserved c = record {
  place_text = search rules;
  name_text = search rules;
  goes_on = λ answer more. c.loop-turn.invariant.goes_on answer
      (goes c.loop-turn.place.now c.loop-turn.name.now c.in-Some-next_place.next.now answer c.in-Some.turn c.in-Some.ensures
      c.in-Some-next_place.ensures.0 c.in-Some-next_place.ensures.1 more);
}

pub returns : goal.returns
returns c = c.loop-turn.invariant.goes_on c.loop-turn.name.now (Stops c.in_default.ensures)
