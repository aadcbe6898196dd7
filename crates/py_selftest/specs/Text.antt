-- The lines that say what a process says of a layout.
use Rattle.std.specs.Prelude.{ℕ, ◌+◌, ◌++◌, ◌&&◌, Bool, true, false, if◌then◌else◌, List, [], ◌∷◌, codes}
use Rattle.std.specs.Prelude.{Option, Some, None, is_none, is_some, decimal, length}
use Rattle.py_selftest.specs.declared.checking.Verdict.{Verdict}
use Rattle.py_selftest.specs.declared.checking.Verdict.TheVariants.{Agrees, Differs, Doubtful, Silent, NotDescribed}
use Rattle.py_selftest.specs.declared.trusting.Build.{Build}
use Rattle.py_selftest.specs.declared.trusting.Build.TheVariants.{FreeThreaded, TraceRefs}
use Rattle.py_selftest.specs.declared.questions.Answer.{Answer}
use Rattle.py_selftest.specs.declared.questions.Counted.TheVariants.{Right}
use Rattle.py_selftest.specs.declared.telling.Release.{Release}
use Rattle.py_selftest.specs.Checking.{CheckShown, KeyShown, differs}
use Rattle.py_selftest.specs.Questions.{count_known, has_no_right_frame, one_if}

-- whether the process tells a number, or tells none, as it is asked
abbrev pub is_as_asked : Bool → Option ℕ → Bool
is_as_asked told process = if told then is_some process else is_none process

-- a number that the layout has is told, or is not told
abbrev pub is_told : Bool → KeyShown → Bool
is_told told k = is_some k.layout && is_as_asked told k.process

-- how many are
unfoldable pub count_told : Bool → List KeyShown → ℕ
count_told told [] = 0
count_told told (k ∷ ks) = one_if (is_told told k) + count_told told ks

-- the end of a line: how many keys are told, and how many are not
abbrev pub told_text : ℕ → ℕ → List ℕ
told_text told untold =
    codes ": " ++ (decimal told ++ (codes " keys told, " ++ (decimal untold ++ codes " not told\n")))

-- the end of a line with how many of these keys are told, and how many are not
abbrev pub counts_text : List KeyShown → List ℕ
counts_text keys = told_text (count_told true keys) (count_told false keys)

-- the line of a number that differs, with what the layout and the process say
abbrev pub numbers_text : List ℕ → ℕ → ℕ → List ℕ
numbers_text name layout process = codes "Layout differs: " ++ (name ++ (codes " is " ++ (decimal layout
    ++ (codes ", the process says " ++ (decimal process ++ codes "\n")))))

-- the line of a number that both the layout and the process have; else nothing
abbrev pub numbers_of : List ℕ → Option ℕ → Option ℕ → List ℕ
numbers_of name None process = []
numbers_of name (Some layout) None = []
numbers_of name (Some layout) (Some process) = numbers_text name layout process

-- the line of a number, if the process says another one
abbrev pub differ_text : KeyShown → List ℕ
differ_text k = if differs k then numbers_of k.name k.layout k.process else []

-- the lines of all numbers that the process says otherwise
unfoldable pub differing_text : List KeyShown → List ℕ
differing_text [] = []
differing_text (k ∷ ks) = differ_text k ++ differing_text ks

-- the line of a build that is none of the usual ones
abbrev pub build_text : Option Build → List ℕ
build_text None = []
build_text (Some FreeThreaded) = codes "The process is of a free-threaded build\n"
build_text (Some TraceRefs) = codes "The process is of a build with trace refs\n"

-- the line of a table that says it is of another version
abbrev pub release_text : ℕ → ℕ → List ℕ
release_text major minor = codes "The process has a table of places (_Py_DebugOffsets) that says it is of "
    ++ (decimal major ++ (codes "." ++ (decimal minor ++ codes ": nothing is read by it\n")))

-- of which version a table says that it is, where its form is not known
abbrev pub table_text : Option Release → List ℕ
table_text None = []
table_text (Some release) = release_text release.major release.minor

-- the line of how many known answers are right
abbrev pub right_text : ℕ → ℕ → List ℕ
right_text right of =
    codes "Known answers: " ++ (decimal right ++ (codes " of " ++ (decimal of ++ codes " are right\n")))

-- how many known answers are right, where there are some
abbrev pub known_text : List Answer → List ℕ
known_text [] = []
known_text (a ∷ rest) = right_text (count_known Right (a ∷ rest)) (length (a ∷ rest))

-- why a layout is doubted
abbrev pub doubt_text : Bool → List ℕ
doubt_text by_frames = if by_frames then codes "Layout doubtful, no known answer of a frame is right"
    else codes "Layout not confirmed, type's own table is none that is known"

-- what is said of a layout by its numbers
abbrev pub verdict_text : Verdict → ℕ → List Answer → List KeyShown → List ℕ
verdict_text Agrees frames known keys = codes "Layout agrees" ++ counts_text keys
verdict_text Differs frames known keys = differing_text keys
verdict_text Doubtful frames known keys = doubt_text (has_no_right_frame frames known) ++ counts_text keys
verdict_text Silent frames known keys = codes "Layout not confirmed" ++ counts_text keys
verdict_text NotDescribed frames known keys = codes "Layout not confirmed: this version's types are not known\n"

-- all lines of the check of a layout
abbrev pub check_text : CheckShown → List ℕ
check_text c = build_text c.build
    ++ (table_text c.other_table ++ (verdict_text c.verdict c.frames c.known c.keys ++ known_text c.known))
