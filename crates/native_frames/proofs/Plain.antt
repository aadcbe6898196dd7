-- The tree of a stack has no float.
use Rattle.std.proofs.Common.{◌≡◌, false, ℕ, List, [], ◌∷◌, map, Option, Some, None, refl, ap, ◌∙◌}
use Rattle.std.specs.Prelude.{◌||◌, slice_get}
use Rattle.serde_json.specs.View.{items_of}
use Rattle.serde_json.specs.Written.{has_float, items_have_float}
use Rattle.core_unwind.specs.declared.end.End.{End}
use Rattle.core_unwind.specs.declared.mark.Mark.{Mark}
use Rattle.native_frames.specs.declared.stacks.Function.{Function}
use Rattle.native_frames.specs.declared.stacks.NativeFrame.{NativeFrame}
use Rattle.native_frames.specs.Text.{first_frames, last_frames}
use Rattle.native_frames.specs.Threads.{StackShown}
use Rattle.native_frames.specs.Trees.{address_tree, end_address, end_tree, file_tree, frame_tree, frames_tree}
use Rattle.native_frames.specs.Trees.{function_name_tree, mark_tree, missing_tree, offset_tree, place_address, place_file}
use Rattle.native_frames.specs.Trees.{stack_tree}

address : (a : Option ℕ) → has_float (address_tree a) ≡ false
address (Some a) = refl
address None = refl

missing : (path : Option (List ℕ)) → has_float (missing_tree path) ≡ false
missing (Some path) = refl
missing None = refl

file : (files : List (List ℕ)) (number : Option ℕ) → has_float (file_tree files number) ≡ false
file files (Some number) = missing (slice_get files number)
file files None = refl

function_name : (f : Option Function) → has_float (function_name_tree f) ≡ false
function_name (Some f) = refl
function_name None = refl

offset : (f : Option Function) → has_float (offset_tree f) ≡ false
offset (Some f) = refl
offset None = refl

mark : (m : Option Mark) → has_float (mark_tree m) ≡ false
mark (Some m) = refl
mark None = refl

frame : (files : List (List ℕ)) (f : NativeFrame) → has_float (frame_tree files f) ≡ false
frame files f = λ i. address (place_address f.frame.place) i || (address f.frame.cfa i || (false
    || (file files (place_file f.frame.place) i || (function_name f.function i || (mark f.frame.mark i
    || (offset f.function i || (false || (false || false))))))))

frames : (files : List (List ℕ)) (fs : List NativeFrame) → has_float (frames_tree files fs) ≡ false
frames files [] = refl
frames files (f ∷ fs) =
    ap (λ b. b || items_have_float (items_of (map (λ x. frame_tree files x) fs))) (frame files f) ∙ frames files fs

end : (files : List (List ℕ)) (e : End) (number : Option ℕ) → has_float (end_tree files e number) ≡ false
end files e number = λ i. address (end_address e) i || (file files number i || (false || false))

pub stack : (files : List (List ℕ)) (limit : ℕ) (s : StackShown) → has_float (stack_tree files limit s) ≡ false
stack files limit s = λ i. false || (end files s.end s.missing i
    || (frames files (first_frames limit s.frames) i || (mark s.guess i
    || (frames files (last_frames limit s.frames) i || false))))
