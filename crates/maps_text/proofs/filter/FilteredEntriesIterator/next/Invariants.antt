use Rattle.std.proofs.Common.{◌≤◌, List, length, Option, Result}
use Rattle.maps_text.specs.declared.entry.MapsEntry.{MapsEntry}
use Rattle.maps_text.specs.declared.error.MapsError.{MapsError}
use Rattle.maps_text.specs.Relevance.{KeptFirst}
use Rattle.maps_text.specs.RestKept.{unfiltered}
use Rattle.maps_text.proofs.filter.FilteredEntriesIterator.next.Given as goal

abbrev pub invariant-loop-answer : goal.invariant-loop-answer
invariant-loop-answer l = record {
  kept : (item : Option (Result MapsEntry MapsError)) (left : List (Result MapsEntry MapsError))
      → KeptFirst (unfiltered l.self) item left → KeptFirst (unfiltered l.initial.self) item left;
  fewer : length (unfiltered l.self) ≤ length (unfiltered l.initial.self);
}

abbrev pub decreases-loop-answer : goal.decreases-loop-answer
decreases-loop-answer l = length (unfiltered l.self)
