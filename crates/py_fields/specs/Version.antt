-- Versions of three numbers alone, and how a version is written.
use Rattle.std.specs.Prelude.{ℕ, ◌==◌, Bool, List, [], ◌++◌, Option, Some, None, codes, encode_utf8_all}
use Rattle.std.specs.Fmt.{decimal}
use Rattle.py_fields.specs.declared.version.Version.{Version}

-- a dot, which stands between the numbers of a version
abbrev pub is_dot : ℕ → Bool
is_dot c = c == 46

-- the version of three numbers alone, with no flags and no metadata
abbrev pub release : (major minor patch : ℕ) → Version
release major minor patch =
    record { major = major; minor = minor; patch = patch; release_flags = []; build_metadata = None }

-- `+` and the metadata, where there is some
abbrev pub metadata_text : Option (List ℕ) → List ℕ
metadata_text None = []
metadata_text (Some metadata) = codes "+" ++ encode_utf8_all metadata

-- `major.minor.patch`, the flags and the metadata
abbrev pub version_text : Version → List ℕ
version_text v = decimal v.major ++ (codes "." ++ (decimal v.minor ++ (codes "." ++ (decimal v.patch
    ++ (encode_utf8_all v.release_flags ++ metadata_text v.build_metadata)))))
