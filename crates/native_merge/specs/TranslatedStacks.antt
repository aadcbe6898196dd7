-- Merged frames, in the files that they come from.
use Rattle.std.specs.Prelude.{◌≡◌, ℕ, Bool, true, false, List, [], ◌∷◌, Result, Ok, Err, Vec}
use Rattle.std.specs.Global.{Global}
use Rattle.py_stacks.specs.declared.trace.Frame.{Frame}
use Rattle.py_stacks.specs.Frames.{Call}
use Rattle.native_merge.specs.declared.merge_error.MergeError.{MergeError}
use Rattle.native_merge.specs.KeptMaps.{AddsMap, Kept, translated, wants_map}
use Rattle.native_merge.specs.Merges.{IsMerged}
use Rattle.native_merge.specs.PythonFrames.{calls}
use Rattle.native_merge.specs.Sources.{SourcesSeen, Stay}
use Rattle.native_merge.specs.SymbolCaches.{HeldFrames}
use Rattle.native_merge.specs.Symbols.{SymbolsSeen}

-- a frame is put where its file's map tells, and what is kept of maps grows where a map is wanted
pub record IsTranslated (seen : SourcesSeen) (kept : Kept) (frame : Frame) (now : SourcesSeen) (new : Kept)
    (shown : Frame) : Type 0 where
  pub frame_is : shown ≡ translated new frame
  pub adds : wants_map kept frame ≡ true → AddsMap seen now frame kept new
  pub same : wants_map kept frame ≡ false → new ≡ kept
  pub stay : Stay seen now

-- so is each of some frames, one after the other
pub data AreTranslated : SourcesSeen → Kept → List Frame → SourcesSeen → Kept → List Frame → Type 0 where
  NoMore : {seen : SourcesSeen} {kept : Kept} → AreTranslated seen kept [] seen kept []
  More : {seen mid now : SourcesSeen} {kept between new : Kept} {frame shown : Frame} {frames rest : List Frame}
      → IsTranslated seen kept frame mid between shown → AreTranslated mid between frames now new rest
      → AreTranslated seen kept (frame ∷ frames) now new (shown ∷ rest)

-- merged frames are so; frames that don't fit leave what is kept
abbrev pub TranslatesAnswer : SourcesSeen → Kept → Result (List Frame) MergeError → SourcesSeen → Kept
    → Result (List Frame) MergeError → Type 0
TranslatesAnswer seen kept (Ok frames) now new (Ok shown) = AreTranslated seen kept frames now new shown
TranslatesAnswer seen kept (Ok frames) now new (Err error) = ⊥
TranslatesAnswer seen kept (Err e) now new (Ok shown) = ⊥
TranslatesAnswer seen kept (Err e) now new (Err error) = (error ≡ e) × (new ≡ kept)

-- an answer with its frames as a list
abbrev pub frames_of_answer : Result (Vec Frame Global) MergeError → Result (List Frame) MergeError
frames_of_answer (Ok v) = Ok v.items
frames_of_answer (Err e) = Err e

-- an answer with the calls of its frames
abbrev pub calls_in : Result (List Frame) MergeError → Result (List Call) MergeError
calls_in (Ok frames) = Ok (calls frames)
calls_in (Err e) = Err e

-- The answer is that of the frames merged with the native ones, put in the files that they come from
pub record IsMergedStack (old new : SymbolsSeen) (seen now : SourcesSeen) (python : ℕ → Bool) (frames : List Frame)
    (addrs : List ℕ) (held after : HeldFrames) (kept keeps : Kept)
    (answer : Result (List Frame) MergeError) : Type 0 where
  pub before : Result (List Frame) MergeError
  pub mid : SourcesSeen
  pub stay : Stay seen mid
  pub merges : IsMerged old new seen.exists python frames addrs held after (calls_in before)
  pub translates : TranslatesAnswer mid kept before now keeps answer
