-- Which map a C file of sources has, by its path. That a file that can't be read has none is py-spy's rule; that such
-- an answer is told apart from the others is this project's own.
use Rattle.std.specs.Prelude.{◌≡◌, ℕ, ◌<◌, ◌⊎◌, true, false, List, length, Option, Some, None}
use Rattle.std.specs.Str.{IsUtf8}
use Rattle.std.specs.Str.Lines.{lines}
use Rattle.outside.specs.Counts.{Rose}
use Rattle.outside.specs.Files.{Gives}
use Rattle.native_merge.specs.Paths.{cython_file}
use Rattle.native_merge.specs.SourceMaps.{IsSourceMap, line_limit}
use Rattle.native_merge.specs.Sources.{SourcesSeen}
use Rattle.native_merge.specs.declared.source_map.FileMap.{FileMap}
use Rattle.native_merge.specs.declared.source_map.FileMap.TheVariants.{Known, Unread}
use Rattle.native_merge.specs.declared.source_map.SourceMark.{SourceMark}

-- a map or none, as it is kept
abbrev pub MapOrNone : Type 0
MapOrNone = Option (List SourceMark)

-- bytes have a map: they are UTF-8, and have few enough lines
pub record HasMap (bytes : List ℕ) : Type 0 where
  pub utf8 : IsUtf8 bytes
  pub short : length (lines bytes) < line_limit

-- the map of a C file's bytes, or none exactly where they have none
abbrev pub IsMapOfBytes : (List ℕ → List ℕ) → List ℕ → MapOrNone → Type 0
IsMapOfBytes file_of bytes None = HasMap bytes → ⊥
IsMapOfBytes file_of bytes (Some map) = HasMap bytes × IsSourceMap file_of bytes map

-- sources have bytes for a path: it exists, and where they tell its bytes, these are they
pub record HasBytes (seen : SourcesSeen) (path bytes : List ℕ) : Type 0 where
  pub exists : seen.exists path ≡ true
  pub told : Gives seen.told path bytes

-- the map that a path has: none where it doesn't exist, else that of its bytes
abbrev pub IsMapOfFile : SourcesSeen → List ℕ → Option (List ℕ) → MapOrNone → Type 0
IsMapOfFile seen path module_name answer = ((seen.exists path ≡ false) × (answer ≡ None))
    ⊎ ((bytes : List ℕ) × HasBytes seen path bytes
    × IsMapOfBytes (cython_file seen.exists path module_name) bytes answer)

-- a path exists, and could not be read
pub record FailsToRead (before now : SourcesSeen) (path : List ℕ) : Type 0 where
  pub exists : before.exists path ≡ true
  pub rose : Rose before.faults now.faults

-- the map that was made of a path, or none; a file that could not be read has none
abbrev pub IsNewMap : SourcesSeen → SourcesSeen → List ℕ → Option (List ℕ) → MapOrNone → Type 0
IsNewMap before now path module_name answer =
    IsMapOfFile before path module_name answer ⊎ (FailsToRead before now path × (answer ≡ None))

-- where the bytes are told, a path has one map, or none
abbrev pub FilesMapOnce : Type 0
FilesMapOnce = (seen : SourcesSeen) (files : List (List ℕ × List ℕ)) (path : List ℕ) (module_name : Option (List ℕ))
    (answer other : MapOrNone) → seen.told ≡ Some files → IsMapOfFile seen path module_name answer
    → IsMapOfFile seen path module_name other → answer ≡ other

-- ---- what the reader answers

-- the map of a path, or that its file could not be read
abbrev pub IsReadMap : SourcesSeen → SourcesSeen → List ℕ → Option (List ℕ) → FileMap → Type 0
IsReadMap before now path module_name (Known answer) = IsMapOfFile before path module_name answer
IsReadMap before now path module_name Unread = FailsToRead before now path
