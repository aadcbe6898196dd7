-- The lines of one stack: each Python frame and each native one has a line of its own, in the order in which they were
-- paired. A native frame's ends in ` [C]`.
use Rattle.std.specs.Prelude.{ℕ, ◌-◌, ◌++◌, ◌==◌, min, max, if◌then◌else◌, Bool, true, false, List, [], length, map, take}
use Rattle.std.specs.Prelude.{drop, Option, Some, None, slice_get, codes, decimal}
use Rattle.std.specs.List.{concat}
use Rattle.native_frames.specs.Text.{behind_text, frame_line}
use Rattle.native_frames.specs.Threads.{StackShown}
use Rattle.native_frames.specs.declared.stacks.NativeFrame.{NativeFrame}
use Rattle.native_pairs.specs.declared.item.Item.{Item}
use Rattle.native_pairs.specs.declared.item.Item.TheVariants.{Python, Native, NotFound, Beside}
use Rattle.native_stacks.specs.Threads.{NativeShown}
use Rattle.paired_stacks.specs.Frames.{frames_of}
use Rattle.py_fronts.specs.declared.frame_front.FramesFront.{FramesFront}
use Rattle.py_fronts.specs.declared.standing.Standing.{Standing}
use Rattle.salvage_texts.specs.Standings.{standing_line}
use Rattle.stack_texts.specs.Fronts.{standing_at}

-- the line of a native frame, with its mark
abbrev pub marked_text : List (List ℕ) → (is_guess : Bool) → NativeFrame → List ℕ
marked_text files is_guess f = frame_line files is_guess f ++ codes " [C]\n"

-- the line of a native frame that follows from a guess
abbrev pub guessed_text : List (List ℕ) → Option NativeFrame → List ℕ
guessed_text files (Some f) = marked_text files true f
guessed_text files None = []

-- the line of a native frame, else of one that follows from a guess
abbrev pub native_or : List (List ℕ) → NativeShown → ℕ → Option NativeFrame → List ℕ
native_or files t n (Some f) = marked_text files false f
native_or files t n None = guessed_text files (slice_get (frames_of t.guessed) (n - length (frames_of t.stack)))

-- the native frame of a number: of the stack, and behind it of what follows by a guess
abbrev pub native_text : List (List ℕ) → NativeShown → ℕ → List ℕ
native_text files t n = native_or files t n (slice_get (frames_of t.stack) n)

-- the line of a Python frame, or that it isn't shown
abbrev pub standing_text : Option Standing → List ℕ
standing_text (Some standing) = standing_line standing
standing_text None = codes "    ... a Python frame that is not shown\n"

-- the Python frame of a number
abbrev pub python_text : Option FramesFront → ℕ → List ℕ
python_text (Some frames) n = standing_text (standing_at frames n)
python_text None n = standing_text None

-- the line of a frame, or of a mark
abbrev pub item_text : List (List ℕ) → NativeShown → Option FramesFront → Item → List ℕ
item_text files t frames (Python n) = python_text frames n
item_text files t frames (Native n) = native_text files t n
item_text files t frames NotFound = codes "    ... native frames not found for these\n"
item_text files t frames Beside = codes "    ... where these stand among the native frames is not known\n"

-- the lines of items, in order
abbrev pub items_text : List (List ℕ) → NativeShown → Option FramesFront → List Item → List ℕ
items_text files t frames items = concat (map (λ i. item_text files t frames i) items)

-- ---- of a long one the first, how many stand between, and the last

-- the first items that are shown
abbrev pub first_items : (limit : ℕ) → List Item → List Item
first_items limit items = take (min limit (length items)) items

-- the last items that are shown
abbrev pub last_items : (limit : ℕ) → List Item → List Item
last_items limit items = drop (min (max limit (length items - limit)) (length items)) items

-- how many items are left out between them
abbrev pub items_between : (limit : ℕ) → List Item → ℕ
items_between limit items = (length items - limit) - limit

-- the line that says how many are left out
abbrev pub more_text : ℕ → List ℕ
more_text between = if between == 0 then [] else codes "    ... " ++ (decimal between ++ codes " more lines\n")

-- how native frames end, and by what those that follow were guessed
abbrev pub end_text : List (List ℕ) → Option StackShown → List ℕ
end_text files (Some s) = behind_text files s
end_text files None = []

-- the text of one stack: its first and last items, and how the native stack ends
abbrev pub stack_text : List (List ℕ) → (limit : ℕ) → NativeShown → Option FramesFront → List Item → List ℕ
stack_text files limit t frames items =
    items_text files t frames (first_items limit items) ++ (more_text (items_between limit items)
    ++ (items_text files t frames (last_items limit items) ++ (end_text files t.stack ++ end_text files t.guessed)))
