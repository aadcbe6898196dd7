use Rattle.std.proofs.Common.{ℕ, List, length}
use denote.Shadow.{shadow}
use denote.Text.{Utf8}
use Rattle.native_merge.specs.CythonNames.{IsShortened}
use Rattle.native_merge.proofs.cython.shortened.Given as goal

abbrev pub invariant-loop-turn : goal.invariant-loop-turn
invariant-loop-turn l = record {
  place_text : shadow (Utf8 l.place);
  name_text : shadow (Utf8 l.name);
  goes_on : (answer : List ℕ) → IsShortened l.place l.name answer → IsShortened l.left l.left answer;
}

abbrev pub decreases-loop-turn : goal.decreases-loop-turn
decreases-loop-turn l = length l.place
