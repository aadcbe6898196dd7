-- What a frame of Python's own native code is, by the pieces of its function's name. The names are CPython's, and
-- which count is py-spy's rule.
use Rattle.std.specs.Prelude.{ℕ, ◌==◌, ◌||◌, not, Bool, true, false, if◌then◌else◌, List, [], ◌∷◌, codes, bytes_eq}
use Rattle.std.specs.Prelude.{take, drop}
use Rattle.std.specs.Prelude.{◌&&◌, Option, Some, None}
use Rattle.std.specs.List.{prefix_len}
use Rattle.native_pairs.specs.declared.kind.FunctionKind.{FunctionKind}
use Rattle.native_pairs.specs.declared.kind.FunctionKind.TheVariants.{Step, Native, LeftOut}

-- what stands between the pieces of a name: `_` and `.`
abbrev pub is_gap : ℕ → Bool
is_gap c = c == 95 || c == 46

-- whether a character is one of a piece
abbrev pub is_inner : ℕ → Bool
is_inner c = not (is_gap c)

-- a character in front of the first of some pieces
abbrev pub onto_piece : ℕ → List (List ℕ) → List (List ℕ)
onto_piece c [] = (c ∷ []) ∷ []
onto_piece c (p ∷ ps) = (c ∷ p) ∷ ps

-- a character in front of a text that has these pieces
abbrev pub grown : ℕ → List ℕ → List (List ℕ) → List (List ℕ)
grown c [] ps = (c ∷ []) ∷ []
grown c (d ∷ ds) ps = if is_gap d then (c ∷ []) ∷ ps else onto_piece c ps

-- the pieces of a name: the longest ones without gaps that aren't empty, in order
unfoldable pub pieces : List ℕ → List (List ℕ)
pieces [] = []
pieces (c ∷ cs) = if is_gap c then pieces cs else grown c cs (pieces cs)

-- the second pieces of a function that runs a Python frame
abbrev pub is_evaluation : List ℕ → Bool
is_evaluation piece = bytes_eq piece (codes "EvalFrameDefault") || bytes_eq piece (codes "EvalFrameEx")

-- the first pieces of functions that are shown
abbrev pub is_shown_alone : List ℕ → Bool
is_shown_alone piece = bytes_eq piece (codes "time") || bytes_eq piece (codes "sys") || bytes_eq piece (codes "gc")
    || bytes_eq piece (codes "os") || bytes_eq piece (codes "unicode") || bytes_eq piece (codes "thread")
    || bytes_eq piece (codes "stringio") || bytes_eq piece (codes "sre") || bytes_eq piece (codes "PyGilState")
    || bytes_eq piece (codes "PyThread") || bytes_eq piece (codes "lock")

-- what a frame is, by the first piece of its function's name alone
abbrev pub kind_by_first : List ℕ → FunctionKind
kind_by_first piece = if is_shown_alone piece then Native else LeftOut

-- what a frame is, by the first and the second piece of its function's name
abbrev pub kind_by_two : List ℕ → List ℕ → FunctionKind
kind_by_two first second = if bytes_eq first (codes "PyEval")
    then (if is_evaluation second then Step else LeftOut) else kind_by_first first

-- the first of some pieces; nothing, which is no name, where there is none
abbrev pub head_of : List (List ℕ) → List ℕ
head_of [] = []
head_of (p ∷ ps) = p

-- all of some pieces but the first
abbrev pub tail_of : List (List ℕ) → List (List ℕ)
tail_of [] = []
tail_of (p ∷ ps) = ps

-- what a frame is, by the pieces of its function's name
abbrev pub kind_by_pieces : List (List ℕ) → FunctionKind
kind_by_pieces ps = kind_by_two (head_of ps) (head_of (tail_of ps))

-- what a frame of a function is; one whose function is not known is left out
abbrev pub function_kind : Option (List ℕ) → FunctionKind
function_kind None = LeftOut
function_kind (Some name) = kind_by_pieces (pieces name)

-- ---- which frames are hidden

-- whether a frame is shown as a native one
abbrev pub is_native : FunctionKind → Bool
is_native Native = true
is_native other = false

-- the functions of Cython that only hand a call on; py-spy leaves them out wherever they are
abbrev pub is_call_glue : List ℕ → Bool
is_call_glue name = bytes_eq name (codes "__Pyx_PyFunction_FastCallDict")
    || bytes_eq name (codes "__Pyx_PyObject_CallOneArg") || bytes_eq name (codes "__Pyx_PyObject_Call")
    || bytes_eq name (codes "__pyx_FusedFunction_call")

-- whether a function only hands a call on; not so where its name is not known
abbrev pub hands_on : Option (List ℕ) → Bool
hands_on None = false
hands_on (Some name) = is_call_glue name

-- a frame is hidden where its function only hands a call on; and of Python's own code, where py-spy's rule shows it
-- only as the Python frames that it runs, or not at all
abbrev pub is_hidden : (is_own : Bool) → Option (List ℕ) → Bool
is_hidden is_own name = hands_on name || (is_own && not (is_native (function_kind name)))

-- ---- the first piece, by what stands in front of it and behind it

-- a text without the gaps in front
abbrev pub behind_gap : List ℕ → List ℕ
behind_gap text = drop (prefix_len is_gap text) text

-- the first piece of a text; empty where there is none
abbrev pub first_piece : List ℕ → List ℕ
first_piece text = take (prefix_len is_inner (behind_gap text)) (behind_gap text)

-- what stands behind the first piece of a text
abbrev pub behind_first : List ℕ → List ℕ
behind_first text = drop (prefix_len is_inner (behind_gap text)) (behind_gap text)
