-- What an iterator over lines has left.
use Rattle.std.specs.Prelude.{◌≡◌, List, [], ◌∷◌, Option, Result, MatchOption}
use Rattle.elf64_core.specs.Outcomes.{IsUnless}
use Rattle.maps_text.specs.declared.entry.MapsEntry.{MapsEntry}
use Rattle.maps_text.specs.declared.error.MapsError.{MapsError}
use Rattle.maps_text.specs.declared.error.MapsError.TheVariants.{OutOfMemory}
use Rattle.maps_text.specs.declared.lines.MapsEntryIter.{MapsEntryIter}
use Rattle.maps_text.specs.Texts.{answers_of}

-- the right answers of the lines that are left
abbrev pub answers_left : MapsEntryIter → List (Result MapsEntry MapsError)
answers_left entries = answers_of entries.pid entries.rest.now

-- the first line that was left was answered, or there was none
abbrev pub AnswersFirst : MapsEntryIter → Option (Result MapsEntry MapsError) → MapsEntryIter → Type 0
AnswersFirst old item new = MatchOption item ((answers_left old ≡ []) × (answers_left new ≡ []))
    (λ result. (right : Result MapsEntry MapsError)
    × (answers_left old ≡ right ∷ answers_left new) × IsUnless OutOfMemory right result)
