-- Where a process tells which version of Python runs in it, and what is told there. `Py_Version` is CPython's
-- number (PY_VERSION_HEX); the text is that of its `Py_GetVersion`. Which of them counts is this project's own
-- rule, after py-spy.
use Rattle.std.specs.Prelude.{◌≡◌, ℕ, ◌/◌, ◌%◌, ◌^◌, ◌==◌, if◌then◌else◌, List, [], ◌∷◌, ◌++◌, Option, Some, None}
use Rattle.std.specs.Prelude.{Result, Ok, Err, ⊤, codes, decimal}
use Rattle.std.specs.Int.{w32, from_le_bytes}
use Rattle.std.specs.Option.{option_or}
use Rattle.process_memory.specs.Memory.{Found, Memory, ◌>>=◌, record_at}
use Rattle.process_memory.specs.Memory.Fault.{Missing}
use Rattle.py_fields.specs.Spelling.{IsLeftmost, SpellsNone}
use Rattle.py_fields.specs.declared.version.Version.{Version}
use Rattle.py_process.specs.Facts.{Facts, Known, symbol_known}
use Rattle.py_process.specs.FileVersions.{file_version}
use Rattle.py_process.specs.declared.version_error.VersionError.{VersionError}
use Rattle.py_process.specs.declared.version_error.VersionError.TheVariants.{Unreadable, NotFound, OutOfMemory}

-- what may tell a version
pub data VersionSource : Type 0 where
  -- the number at an address
  Number : (addr : ℕ) → VersionSource
  -- the text among the 128 bytes at an address
  Text : (addr : ℕ) → VersionSource
  -- a text somewhere in a section
  Section : (addr size : ℕ) → VersionSource
  -- the path of the program
  Path : (path : List ℕ) → VersionSource

-- ---- what is told there

-- the letters of a release that isn't final, and its serial number; nothing for a final one
abbrev pub flags_of : (level serial : ℕ) → List ℕ
flags_of level serial =
    if level == 10 then codes "a" ++ decimal serial
    else (if level == 11 then codes "b" ++ decimal serial
    else (if level == 12 then codes "rc" ++ decimal serial else []))

-- the version of a number: major, minor and patch in its three high bytes, the level in the high half of the low
-- byte, the serial in its low half
unfoldable pub version_of_number : ℕ → Version
version_of_number n = record {
  major = n / 2 ^ 24 % 256;
  minor = n / 2 ^ 16 % 256;
  patch = n / 2 ^ 8 % 256;
  release_flags = flags_of (n / 2 ^ 4 % 16) (n % 16);
  build_metadata = None;
}

-- the number of the 4 bytes at an address tells its version
abbrev pub version_number_at : Memory → ℕ → Found (Option Version)
version_number_at m addr = record_at m addr 4 >>= (λ bytes. Ok (Some (version_of_number (from_le_bytes w32 bytes))))

-- some bytes tell the version that is spelled leftmost in them, or none where none is spelled
abbrev pub BytesTell : List ℕ → Option Version → Type 0
BytesTell bytes None = SpellsNone bytes
BytesTell bytes (Some version) = IsLeftmost bytes version

-- so do the bytes of a text; bytes that aren't in memory tell none
abbrev pub TextTells : Found (List ℕ) → Found (Option Version) → Type 0
TextTells (Ok bytes) (Ok version) = BytesTell bytes version
TextTells (Ok bytes) (Err fault) = ⊥
TextTells (Err missing) told = told ≡ Ok None

-- so do those of a section; bytes that aren't in memory are a fault
abbrev pub SectionTells : Found (List ℕ) → Found (Option Version) → Type 0
SectionTells (Ok bytes) (Ok version) = BytesTell bytes version
SectionTells (Ok bytes) (Err fault) = ⊥
SectionTells (Err missing) told = told ≡ Err missing

-- a source tells a version, or none, or it can't be read
abbrev pub TellsVersion : Memory → VersionSource → Found (Option Version) → Type 0
TellsVersion m (Number addr) told = told ≡ version_number_at m addr
TellsVersion m (Text addr) told = TextTells (record_at m addr 128) told
TellsVersion m (Section addr size) told = SectionTells (record_at m addr size) told
TellsVersion m (Path path) told = told ≡ Ok (file_version path)

-- ---- which of them counts

-- where one tells none, those behind it count
abbrev pub TellsBefore : Found (Option Version) → (Found (Option Version) → Type 0) → Found (Option Version) → Type 0
TellsBefore (Ok None) Others told = Others told
TellsBefore (Ok (Some version)) Others told = told ≡ Ok (Some version)
TellsBefore (Err fault) Others told = told ≡ Err fault

-- what the first of some sources tells that tells a version or can't be read; none where there is no such one
unfoldable pub FirstTells : Memory → List VersionSource → Found (Option Version) → Type 0
FirstTells m [] told = told ≡ Ok None
FirstTells m (source ∷ sources) told =
    (own : Found (Option Version)) × TellsVersion m source own × TellsBefore own (FirstTells m sources) told

-- ---- the sources of a process

-- the text at an address as a source of the version, where the address is known
abbrev pub text_source_at : Option ℕ → List VersionSource
text_source_at None = []
text_source_at (Some addr) = Text addr ∷ []

-- the bss of an image as a source of the version, where there is the image
abbrev pub bss_of : Option Facts → List VersionSource
bss_of None = []
bss_of (Some facts) = Section facts.bss_addr facts.bss_size ∷ []

-- the number at an address alone, where it is known, else the other sources
abbrev pub number_or : Option ℕ → List VersionSource → List VersionSource
number_or None others = others
number_or (Some addr) others = Number addr ∷ []

-- the text is at `Py_GetVersion.version`, or at `version` where that one is no symbol
abbrev pub text_symbol : Known → Option ℕ
text_symbol k = option_or (symbol_known k (codes "Py_GetVersion.version")) (symbol_known k (codes "version"))

-- the bss of the library, and the program's path
abbrev pub library_sources : Known → List VersionSource
library_sources k = bss_of k.library ++ Path k.path ∷ []

-- the bss of the program, then that of the library, then the program's path
abbrev pub section_sources : Known → List VersionSource
section_sources k = bss_of k.program ++ library_sources k

-- the sources where `Py_Version` is no symbol: the text of `Py_GetVersion` first
abbrev pub other_sources : Known → List VersionSource
other_sources k = text_source_at (text_symbol k) ++ section_sources k

-- `Py_Version` alone, where it is a symbol, and else those
unfoldable pub sources_of : Known → List VersionSource
sources_of k = number_or (symbol_known k (codes "Py_Version")) (other_sources k)

-- a result of the search is what the sources tell; out of memory may always be answered
abbrev pub VersionIs : Memory → List VersionSource → Result Version VersionError → Type 0
VersionIs m sources (Ok version) = FirstTells m sources (Ok (Some version))
VersionIs m sources (Err (Unreadable addr len)) = FirstTells m sources (Err (Missing addr len))
VersionIs m sources (Err NotFound) = FirstTells m sources (Ok None)
VersionIs m sources (Err OutOfMemory) = ⊤

-- a result is what was told, out of memory aside
abbrev pub IsVersionTold : Found (Option Version) → Result Version VersionError → Type 0
IsVersionTold told (Ok version) = told ≡ Ok (Some version)
IsVersionTold told (Err (Unreadable addr len)) = told ≡ Err (Missing addr len)
IsVersionTold told (Err NotFound) = told ≡ Ok None
IsVersionTold told (Err OutOfMemory) = ⊤

-- a reader answers what its definition allows; it has nothing that is not found, and out of memory may always be
-- answered
abbrev pub ToldBy : (Found (Option Version) → Type 0) → Result (Option Version) VersionError → Type 0
ToldBy Allows (Ok version) = Allows (Ok version)
ToldBy Allows (Err (Unreadable addr len)) = Allows (Err (Missing addr len))
ToldBy Allows (Err NotFound) = ⊥
ToldBy Allows (Err OutOfMemory) = ⊤
