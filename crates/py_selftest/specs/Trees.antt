-- The JSON of what a process says of a layout. The keys of an object stand in the order of their bytes.
use Rattle.std.specs.Prelude.{ℕ, ◌++◌, Bool, true, false, if◌then◌else◌, List, []}
use Rattle.std.specs.Prelude.{◌∷◌, Option, Some, None, codes, length}
use Rattle.serde_json.specs.Data.{Data, array, member, no_members, null, number, object, string, unsigned}
use Rattle.serde_json.specs.View.{items_of}
use Rattle.py_selftest.specs.declared.checking.Verdict.{Verdict}
use Rattle.py_selftest.specs.declared.checking.Verdict.TheVariants.{Agrees, Differs, Doubtful, Silent, NotDescribed}
use Rattle.py_selftest.specs.declared.trusting.Build.{Build}
use Rattle.py_selftest.specs.declared.trusting.Build.TheVariants.{FreeThreaded, TraceRefs}
use Rattle.py_selftest.specs.declared.questions.Answer.{Answer}
use Rattle.py_selftest.specs.declared.questions.Counted.TheVariants.{Right}
use Rattle.py_selftest.specs.declared.telling.Release.{Release}
use Rattle.py_selftest.specs.Questions.{count_known, has_no_right_frame}
use Rattle.py_selftest.specs.Checking.{CheckShown, KeyShown, differs}
use Rattle.py_selftest.specs.Text.{is_told}
use Rattle.py_selftest.specs.declared.tree.Listed.{Listed}
use Rattle.py_selftest.specs.declared.tree.Listed.TheVariants.{Told, Differing, Untold}

-- the JSON of a number; null where there is none
abbrev pub number_tree : Option ℕ → Data
number_tree (Some n) = number (unsigned n)
number_tree None = null

-- the JSON of a number by its key, with what the layout and the process say
abbrev pub key_tree : KeyShown → Data
key_tree k = object (
    member (codes "key") (string k.name) (
    member (codes "layout") (number_tree k.layout) (
    member (codes "process") (number_tree k.process) no_members)))

-- whether a number stands in this list
abbrev pub is_listed : Listed → KeyShown → Bool
is_listed Told k = is_told true k
is_listed Differing k = differs k
is_listed Untold k = is_told false k

-- what stands for a number in a list: its key alone, where it is not told
abbrev pub listed_tree : Listed → KeyShown → Data
listed_tree Told k = key_tree k
listed_tree Differing k = key_tree k
listed_tree Untold k = string k.name

-- what stands for a number in this list; nothing where it isn't listed
abbrev pub listed_of : Listed → KeyShown → List Data
listed_of listed k = if is_listed listed k then listed_tree listed k ∷ [] else []

-- those of the numbers that are listed, in order
unfoldable pub listed_from : Listed → List KeyShown → List Data
listed_from listed [] = []
listed_from listed (k ∷ ks) = listed_of listed k ++ listed_from listed ks

-- the JSON of this list of numbers
abbrev pub list_tree : Listed → List KeyShown → Data
list_tree listed keys = array (items_of (listed_from listed keys))

-- the JSON of a build; null for the usual ones
abbrev pub build_tree : Option Build → Data
build_tree None = null
build_tree (Some FreeThreaded) = string (codes "free-threaded")
build_tree (Some TraceRefs) = string (codes "trace-refs")

-- the JSON of how many known answers are right, of how many
abbrev pub right_tree : ℕ → ℕ → Data
right_tree right of = object (
    member (codes "of") (number (unsigned of)) (
    member (codes "right") (number (unsigned right)) no_members))

-- how many known answers are right, and how many there are
abbrev pub known_tree : List Answer → Data
known_tree [] = null
known_tree (a ∷ rest) = right_tree (count_known Right (a ∷ rest)) (length (a ∷ rest))

-- the JSON of a version by its first two numbers
abbrev pub numbers_tree : ℕ → ℕ → Data
numbers_tree major minor = object (
    member (codes "major") (number (unsigned major)) (
    member (codes "minor") (number (unsigned minor)) no_members))

-- a version
abbrev pub release_tree : Option Release → Data
release_tree None = null
release_tree (Some release) = numbers_tree release.major release.minor

-- why a layout is doubted, where it is
abbrev pub doubt_word : Bool → List ℕ
doubt_word by_frames = if by_frames then codes "frames" else codes "type"

-- the JSON of why a layout is doubted; null where it isn't
abbrev pub doubt_tree : Verdict → Bool → Data
doubt_tree Agrees by_frames = null
doubt_tree Differs by_frames = null
doubt_tree Doubtful by_frames = string (doubt_word by_frames)
doubt_tree Silent by_frames = null
doubt_tree NotDescribed by_frames = null

-- the word of what is said of a layout
abbrev pub verdict_word : Verdict → List ℕ
verdict_word Agrees = codes "agrees"
verdict_word Differs = codes "differs"
verdict_word Doubtful = codes "doubtful"
verdict_word Silent = codes "silent"
verdict_word NotDescribed = codes "not described"

-- the JSON of the check of a layout
abbrev pub check_tree : CheckShown → Data
check_tree c = object (
    member (codes "build") (build_tree c.build) (
    member (codes "differ") (list_tree Differing c.keys) (
    member (codes "doubt") (doubt_tree c.verdict (has_no_right_frame c.frames c.known)) (
    member (codes "known") (known_tree c.known) (
    member (codes "not_told") (list_tree Untold c.keys) (
    member (codes "other_table") (release_tree c.other_table) (
    member (codes "told") (list_tree Told c.keys) (
    member (codes "verdict") (string (verdict_word c.verdict)) no_members))))))))
