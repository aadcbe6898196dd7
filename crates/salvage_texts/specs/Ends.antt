-- The lines that say how a chain ends.
use Rattle.std.specs.Prelude.{ℕ, ◌++◌, ◌==◌, if◌then◌else◌, List, [], codes, decimal}
use Rattle.py_fronts.specs.declared.chain_end.ChainEnd.{ChainEnd}
use Rattle.core_texts.specs.Parts.{address_text}
use Rattle.py_fronts.specs.declared.chain_end.ChainEnd.TheVariants.{Whole, Cut, Unreadable, Stray}

-- a range that isn't in memory
abbrev pub missing_text : (addr len : ℕ) → List ℕ
missing_text addr len = codes "unreadable at " ++ (address_text addr ++ (codes ", " ++ (decimal len ++ codes " bytes")))

-- the end of a thread's frames, of which so many members were met; nothing is said where it is null
abbrev pub frames_end_text : ChainEnd → ℕ → List ℕ
frames_end_text Whole met = []
frames_end_text Cut met = codes "    ... cut after " ++ (decimal met ++ codes " members\n")
frames_end_text (Unreadable addr len) met = codes "    ... " ++ (missing_text addr len ++ codes "\n")
frames_end_text (Stray interpreter) met =
    codes "    ... of the interpreter at " ++ (address_text interpreter ++ codes "\n")

-- the end of an interpreter's threads
abbrev pub threads_end_text : ChainEnd → List ℕ
threads_end_text Whole = []
threads_end_text Cut = codes "... more than 4096 threads\n"
threads_end_text (Unreadable addr len) = codes "... threads " ++ (missing_text addr len ++ codes "\n")
threads_end_text (Stray interpreter) =
    codes "... threads of the interpreter at " ++ (address_text interpreter ++ codes "\n")

-- the frames that stand between the first and the last
abbrev pub more_text : ℕ → List ℕ
more_text between = if between == 0 then [] else codes "    ... " ++ (decimal between ++ codes " more frames\n")
