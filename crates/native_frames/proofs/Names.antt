-- Frames with their functions, one by one; and the symbols that are kept.
use Rattle.std.proofs.Common.{◌≡◌, ℕ, ◌+◌, ◌<◌, List, [], ◌∷◌, ◌++◌, length, drop, get_or, refl, sym, ap, ◌∙◌, subst}
use Rattle.std.proofs.Common.{append_assoc, append-nil}
use Rattle.native_frames.specs.Naming.{Each}
use Rattle.native_frames.specs.Text.{base_behind, base_from}
use Rattle.native_frames.proofs.Rest.{next}

-- where the rest are related to more, all are to those so far and then these
abbrev pub SoFar : {X Y : Type 0} → (X → Y → Type 0) → (all rest : List X) → List Y → Type 0
SoFar {X} {Y} R all rest ys = (more : List Y) → Each R rest more → Each R all (ys ++ more)

pub far_more : {X Y : Type 0} (R : X → Y → Type 0) (all rest : List X) (x : X) (behind : List X) (ys after : List Y)
    (y : Y) → rest ≡ x ∷ behind → after ≡ ys ++ y ∷ [] → R x y → SoFar R all rest ys → SoFar R all behind after
unfolding Each
far_more R all rest x behind ys after y is added here inv = λ more h.
    subst (Each R all) (sym (append_assoc ys (y ∷ []) more) ∙ ap (λ t. t ++ more) (sym added))
    (inv (y ∷ more) (rw is ((y, more, refl, here, h))))

pub far_end : {X Y : Type 0} (R : X → Y → Type 0) (all rest : List X) (ys : List Y) → rest ≡ [] → SoFar R all rest ys
    → Each R all ys
unfolding Each
far_end R all rest ys is inv = subst (Each R all) (append-nil ys) (inv [] (rw is refl))

-- ---- the part of a path behind its last slash, byte by byte

pub base_more : (base path : List ℕ) (i : ℕ) → i < length path
    → base_from base (drop i path) ≡ base_from (base_behind base path i) (drop (i + 1) path)
unfolding base_from
base_more base path i lt = ap (base_from base) (next path i (get_or path i 0) 0 lt refl)
