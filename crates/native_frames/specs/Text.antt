-- The lines of a native stack.
use Rattle.std.specs.Prelude.{ℕ, ◌+◌, ◌-◌, ◌++◌, ◌==◌, min, max, if◌then◌else◌, Bool, true, false, List, [], ◌∷◌}
use Rattle.std.specs.Prelude.{length, map, take, drop, Option, Some, None, slice_get, slice_index_or, codes, decimal}
use Rattle.std.specs.Fmt.{digits}
use Rattle.std.specs.List.{concat}
use Rattle.bstr.specs.Utf8.{lossy_chars}
use Rattle.core_unwind.specs.declared.end.End.{End}
use Rattle.core_unwind.specs.declared.end.End.TheVariants as how
use Rattle.core_unwind.specs.declared.end.Limit.{Limit}
use Rattle.core_unwind.specs.declared.end.Limit.TheVariants as most
use Rattle.core_unwind.specs.declared.end.Refusal.{Refusal}
use Rattle.core_unwind.specs.declared.end.Refusal.TheVariants as why
use Rattle.core_unwind.specs.declared.mark.Mark.{Mark}
use Rattle.core_unwind.specs.declared.mark.Mark.TheVariants as by
use Rattle.core_unwind.specs.declared.place.CodePlace.{CodePlace}
use Rattle.native_frames.specs.declared.stacks.Function.{Function}
use Rattle.native_frames.specs.declared.stacks.NativeFrame.{NativeFrame}
use Rattle.native_frames.specs.Escape.{escaped}
use Rattle.native_frames.specs.Threads.{StackShown}

-- an address, as in 0x1f
abbrev pub address_text : ℕ → List ℕ
address_text n = codes "0x" ++ digits 16 false n

-- what stands behind the last slash of a path, of which the part behind the last one so far is `base`
unfoldable pub base_from : (base path : List ℕ) → List ℕ
base_from base [] = base
base_from base (byte ∷ path) = base_from (if byte == 47 then path else base) path

-- the same, by one byte alone
abbrev pub base_behind : (base path : List ℕ) → (index : ℕ) → List ℕ
base_behind base path index = if slice_index_or path index 0 == 47 then drop (index + 1) path else base

-- what stands behind the last slash of a path; the whole path where there is none
abbrev pub base_name : List ℕ → List ℕ
base_name path = base_from path path

-- a name, in which nothing ends the line
abbrev pub name_text : List ℕ → List ℕ
name_text name = escaped true (lossy_chars name)

-- the name of a frame's file in parentheses, without its directories; nothing where it is not known
abbrev pub file_text : Option (List ℕ) → List ℕ
file_text (Some path) = codes " (" ++ (name_text (base_name path) ++ codes ")")
file_text None = []

-- a function, and how far into it the frame stands, as in `main+0x1f`
abbrev pub function_text : Function → List ℕ
function_text f = name_text f.name ++ (codes "+0x" ++ digits 16 false f.offset)

-- the function, or else the address in the file
abbrev pub where_text : Option Function → CodePlace → List ℕ
where_text (Some f) place = function_text f
where_text None place = address_text place.address

-- where a frame stands
abbrev pub place_text : List (List ℕ) → NativeFrame → Option CodePlace → List ℕ
place_text files f (Some place) = where_text f.function place ++ file_text (slice_get files place.file)
place_text files f None = codes "(in no file)"

-- a mark, where it holds; else nothing
abbrev pub mark_text : Bool → List ℕ → List ℕ
mark_text true mark = mark
mark_text false mark = []

-- by what else than tables the caller of a frame was found
abbrev pub found_text : Option Mark → List ℕ
found_text (Some by.Trampoline) = codes " <signal trampoline>"
found_text (Some by.Epilogue) = codes " <epilogue>"
found_text (Some by.FramePointer) = codes " <frame pointer>"
found_text (Some by.Jump) = codes " <jump>"
found_text None = []

-- by what the frames that follow were guessed
abbrev pub guess_text : Mark → List ℕ
guess_text by.Trampoline = codes "signal trampoline"
guess_text by.Epilogue = codes "epilogue"
guess_text by.FramePointer = codes "frame pointer"
guess_text by.Jump = codes "jumped to no code"

-- how the line before guessed frames begins
unfoldable pub guess_word : List ℕ
guess_word = codes "    ... guess: "

-- the line before guessed frames: by what they were guessed
abbrev pub guess_line : Mark → List ℕ
guess_line mark = guess_word ++ (guess_text mark ++ codes "\n")

-- that line, where the frames are guessed
abbrev pub lead_text : Option Mark → List ℕ
lead_text (Some mark) = guess_line mark
lead_text None = []

-- the line of a frame, but for its end
abbrev pub frame_line : List (List ℕ) → (is_guess : Bool) → NativeFrame → List ℕ
frame_line files is_guess f =
    codes "    0x" ++ (digits 16 false f.frame.pc ++ (codes " " ++ (place_text files f f.frame.place
    ++ (mark_text f.frame.is_signal (codes " <signal>") ++ (found_text f.frame.mark
    ++ mark_text is_guess (codes " <guess>"))))))

-- the line of a native frame, with its line feed
abbrev pub frame_text : List (List ℕ) → (is_guess : Bool) → NativeFrame → List ℕ
frame_text files is_guess f = frame_line files is_guess f ++ codes "\n"

-- the lines of some frames
abbrev pub frames_text : List (List ℕ) → (is_guess : Bool) → List NativeFrame → List ℕ
frames_text files is_guess frames = concat (map (λ f. frame_text files is_guess f) frames)

-- the frames that stand between the first and the last
abbrev pub more_text : ℕ → List ℕ
more_text between = if between == 0 then [] else codes "    ... " ++ (decimal between ++ codes " more frames\n")

-- ---- ends

-- at an address whose file is not at hand, or that is in none
abbrev pub no_file_text : List (List ℕ) → (at : ℕ) → Option ℕ → List ℕ
no_file_text files at (Some file) =
    codes "    ... 0x" ++ (digits 16 false at ++ (codes " is in a file that is not at hand"
    ++ (file_text (slice_get files file) ++ codes "\n")))
no_file_text files at None = codes "    ... 0x" ++ (digits 16 false at ++ codes " is in no file\n")

-- why a frame's table does not say how it goes on
abbrev pub refusal_text : Refusal → List ℕ
refusal_text (why.Table error) = codes "the table of its file can't be read"
refusal_text (why.Record error) = codes "its record can't be read"
refusal_text (why.Row error) = codes "its rules can't be read"
refusal_text why.Cfa = codes "its canonical frame address is not known"
refusal_text why.ReturnAddress = codes "its return address is not known"

-- at which limit a stack was cut
abbrev pub limit_text : Limit → List ℕ
limit_text most.Frames = codes "cut: no more frames are read"
limit_text most.Signals = codes "cut: no more frames of signals are read"
limit_text most.Bytes = codes "cut: no more rules are read"

-- nothing is said of a whole stack
abbrev pub end_text : List (List ℕ) → Option ℕ → End → List ℕ
end_text files missing how.Whole = []
end_text files missing (how.NoTable at) = codes "    ... no table covers 0x" ++ (digits 16 false at ++ codes "\n")
end_text files missing (how.NoFile at) = no_file_text files at missing
end_text files missing (how.Unreadable at) =
    codes "    ... unreadable at 0x" ++ (digits 16 false at ++ codes ", 8 bytes\n")
end_text files missing (how.Refused refusal) = codes "    ... " ++ (refusal_text refusal ++ codes "\n")
end_text files missing how.NotAbove = codes "    ... its caller's frame is not above it\n"
end_text files missing (how.Cut limit) = codes "    ... " ++ (limit_text limit ++ codes "\n")

-- ---- a stack

-- the first frames, at most so many
abbrev pub first_frames : (limit : ℕ) → List NativeFrame → List NativeFrame
first_frames limit frames = take (min limit (length frames)) frames

-- the last of those behind them, at most so many
abbrev pub last_frames : (limit : ℕ) → List NativeFrame → List NativeFrame
last_frames limit frames = drop (min (max limit (length frames - limit)) (length frames)) frames

-- how many frames stand between the first so many and the last so many
abbrev pub frames_between : (limit : ℕ) → List NativeFrame → ℕ
frames_between limit frames = (length frames - limit) - limit

-- the lines of a stack: its first frames, how many are left out, its last ones, and how it ends
abbrev pub stack_text : List (List ℕ) → (is_guess : Bool) → (limit : ℕ) → StackShown → List ℕ
stack_text files is_guess limit s =
    lead_text s.guess ++ (frames_text files is_guess (first_frames limit s.frames)
    ++ (more_text (frames_between limit s.frames)
    ++ (frames_text files is_guess (last_frames limit s.frames) ++ end_text files s.missing s.end)))

-- how a stack ends whose frames stand elsewhere, and by what its newest frame was guessed
abbrev pub behind_text : List (List ℕ) → StackShown → List ℕ
behind_text files s = lead_text s.guess ++ end_text files s.missing s.end
