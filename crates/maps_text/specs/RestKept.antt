-- What a filtered iterator has left.
use Rattle.std.specs.Prelude.{List, Option, Result}
use Rattle.maps_text.specs.declared.entry.MapsEntry.{MapsEntry}
use Rattle.maps_text.specs.declared.error.MapsError.{MapsError}
use Rattle.maps_text.specs.declared.filter.FilteredEntries.{FilteredEntries}
use Rattle.maps_text.specs.Relevance.{KeptFirst}
use Rattle.maps_text.specs.Rest.{answers_left}

-- the right answers of the lines that are left, also of those that will not be kept
abbrev pub unfiltered : FilteredEntries → List (Result MapsEntry MapsError)
unfiltered filtered = answers_left filtered.entries

-- the first that was kept came
abbrev pub AnswersKept : FilteredEntries → Option (Result MapsEntry MapsError) → FilteredEntries → Type 0
AnswersKept old item new = KeptFirst (unfiltered old) item (unfiltered new)
