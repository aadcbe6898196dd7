-- What is right is one answer.
use Rattle.std.proofs.Common.{◌≡◌, ℕ, Bool, false, List, [], ◌∷◌, Option, Some, None, Result, Ok, Err, refl, sym, ap}
use Rattle.std.proofs.Common.{subst, ◌∙◌, encode_utf8_all}
use Rattle.std.specs.List.{AllZip}
use Rattle.std.specs.Str.{chars}
use Rattle.py_stacks.specs.Frames.{Call}
use Rattle.native_merge.specs.ImageSymbols.{FilesMapped}
use Rattle.native_merge.specs.MergedStacks.{MergedFrame, Misfit, merged}
use Rattle.native_merge.specs.MergedStacks.MergedFrame.{Native, Python}
use Rattle.native_merge.specs.Merges.{ShowsMerged, all_items}
use Rattle.native_merge.specs.NativesShown.{IsNameOf, NativeItem, ShowsFrame, ShowsNative, file_of_native}
use Rattle.native_merge.specs.NativesShown.{line_of_native, native_call}
use Rattle.native_merge.specs.NativesShown.NativeItem.{OfFault, OfFrame}
use Rattle.native_merge.specs.PythonFrames.{ends_part}
use Rattle.native_merge.specs.SymbolCaches.{Answer}
use Rattle.native_merge.specs.declared.native_frame.NativeFrame.{NativeFrame}
use Rattle.native_merge.specs.declared.merge_error.MergeError.{MergeError}
use Rattle.native_merge.specs.declared.symbol_fault.SymbolFault.TheVariants.{NoBinary, Failed, OutOfMemory}
use Rattle.native_merge.proofs.Fronts.{demangles_once}
use Rattle.native_merge.proofs.ImagesRead.{image_once}
use Rattle.core_merge.specs.ImageMerges.{IsImageAnswer, IsImageMerge, nothing_exists}

AllZip-once : {A B : Type 0} (R : A → B → Type 0) → ((x : A) (y z : B) → R x y → R x z → y ≡ z) → (xs : List A) (ys zs : List B)
    → AllZip R xs ys → AllZip R xs zs → ys ≡ zs
AllZip-once R one [] [] [] h k = refl
AllZip-once R one [] [] (z ∷ zs) h k = absurd k
AllZip-once R one [] (y ∷ ys) zs h k = absurd h
AllZip-once R one (x ∷ xs) [] zs h k = absurd h
AllZip-once R one (x ∷ xs) (y ∷ ys) [] h k = absurd k
AllZip-once R one (x ∷ xs) (y ∷ ys) (z ∷ zs) h k =
    ap (λ w. w ∷ ys) (one x y z h.0 k.0) ∙ ap (λ ws. z ∷ ws) (AllZip-once R one xs ys zs h.1 k.1)

-- ---- what images show

image_answer_once : (files : FilesMapped) (addr : ℕ) (a b : Answer) → IsImageAnswer files addr a → IsImageAnswer files addr b → a ≡ b
image_answer_once files addr (Ok fs) (Ok gs) h k = ap (λ x. Ok x) (image_once files refl addr false fs gs h k)
image_answer_once files addr (Ok fs) (Err NoBinary) h k = absurd (k h.path h.place h.bytes h.file)
image_answer_once files addr (Ok fs) (Err Failed) h k = absurd k
image_answer_once files addr (Ok fs) (Err OutOfMemory) h k = absurd k
image_answer_once files addr (Err NoBinary) (Ok gs) h k = absurd (h k.path k.place k.bytes k.file)
image_answer_once files addr (Err NoBinary) (Err NoBinary) h k = refl
image_answer_once files addr (Err NoBinary) (Err Failed) h k = absurd k
image_answer_once files addr (Err NoBinary) (Err OutOfMemory) h k = absurd k
image_answer_once files addr (Err Failed) b h k = absurd h
image_answer_once files addr (Err OutOfMemory) b h k = absurd h

name_once : (addr : ℕ) (function : Option (List ℕ)) (n m : List ℕ) → IsNameOf addr function n → IsNameOf addr function m → n ≡ m
name_once addr None n m h k = h ∙ sym k
name_once addr (Some f) n m h k = h.2 ∙ ap chars (demangles_once (encode_utf8_all f) h.0 k.0 h.1 k.1) ∙ sym k.2

native_once : (exists : List ℕ → Bool) (f : NativeFrame) (c d : Call) → ShowsNative exists f c → ShowsNative exists f d → c ≡ d
native_once exists f c d h k =
    h.others ∙ ap (λ n. native_call n (file_of_native exists f f.function) (Some f.«module») (line_of_native f f.function))
    (name_once f.addr f.function c.name d.name h.name k.name) ∙ sym k.others

frame_once : (exists : List ℕ → Bool) (m : MergedFrame Call NativeItem) (c d : Call) → ShowsFrame exists m c → ShowsFrame exists m d → c ≡ d
frame_once exists (Python x) c d h k = h ∙ sym k
frame_once exists (Native (OfFrame f)) c d h k = native_once exists f c d h k
frame_once exists (Native (OfFault addr)) c d h k = h ∙ sym k

merged_once : (exists : List ℕ → Bool) (m : Result (List (MergedFrame Call NativeItem)) Misfit) (a b : Result (List Call) MergeError)
    → ShowsMerged exists m a → ShowsMerged exists m b → a ≡ b
merged_once exists (Ok ms) (Ok x) (Ok y) h k = ap (λ z. Ok z) (AllZip-once (ShowsFrame exists) (frame_once exists) ms x y h k)
merged_once exists (Ok ms) (Ok x) (Err e) h k = absurd k
merged_once exists (Ok ms) (Err e) b h k = absurd h
merged_once exists (Err e) (Ok x) b h k = absurd h
merged_once exists (Err e) (Err x) (Ok y) h k = absurd k
merged_once exists (Err e) (Err x) (Err y) h k = ap (λ z. Err z) (h ∙ sym k)

pub image_merge_once : (files : FilesMapped) (python : ℕ → Bool) (frames : List Call) (addrs : List ℕ)
    (a b : Result (List Call) MergeError) → IsImageMerge files python frames addrs a → IsImageMerge files python frames addrs b → a ≡ b
image_merge_once files python frames addrs a b h k =
    let answers = AllZip-once (IsImageAnswer files) (image_answer_once files) addrs h.answers k.answers h.each k.each in
    merged_once nothing_exists (merged ends_part frames (all_items python addrs k.answers)) a b
    (subst (λ xs. ShowsMerged nothing_exists (merged ends_part frames (all_items python addrs xs)) a) answers h.shows) k.shows
