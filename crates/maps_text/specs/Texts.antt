-- The lines of a text, and what they say.
use Rattle.std.specs.Prelude.{ℕ, ◌==◌, Bool, if◌then◌else◌, List, [], ◌∷◌, Result, map}
use Rattle.std.specs.List.{onto_first}
use Rattle.maps_text.specs.declared.entry.MapsEntry.{MapsEntry}
use Rattle.maps_text.specs.declared.error.MapsError.{MapsError}
use Rattle.maps_text.specs.Lines.{maps_line_of}

-- whether a byte is a line feed
abbrev pub is_newline : ℕ → Bool
is_newline byte = byte == 10

-- the lines: each ends with a newline, which is no part of it, and which the last one need not have
abbrev pub lines_of : List ℕ → List (List ℕ)
lines_of [] = []
lines_of (byte ∷ text) = if is_newline byte then [] ∷ lines_of text else onto_first byte (lines_of text)

-- what the lines say of the maps of a process, in order
abbrev pub answers_of : ℕ → List ℕ → List (Result MapsEntry MapsError)
answers_of pid text = map (maps_line_of pid) (lines_of text)
