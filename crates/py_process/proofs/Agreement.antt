-- Steps of which each has one right answer, out of memory aside.
use Rattle.std.proofs.Common.{◌≡◌, ◌⊎◌, refl, sym, ap, subst, ◌∙◌, inl, inr}
use Rattle.std.specs.Prelude.{Result, Ok, Err}
use Rattle.py_process.specs.Steps.{Then}
use Rattle.py_process.specs.declared.core_error.CoreError.{CoreError}
use Rattle.py_process.specs.declared.core_error.CoreError.TheVariants as core

-- an answer that isn't out of memory
abbrev pub IsKept : {T : Type 0} → Result T CoreError → Type 0
IsKept r = ¬ (r ≡ Err core.OutOfMemory)

-- two right answers are one
abbrev pub Agree : {T : Type 0} → (Result T CoreError → Type 0) → Type 0
Agree {T} R = (a b : Result T CoreError) → R a → R b → IsKept a → IsKept b → a ≡ b

pub ok_kept : {T : Type 0} (x : T) → IsKept {T = T} (Ok x)
ok_kept x e = absurd (cc)

-- an error that comes of another step
pub err_kept : {T U : Type 0} (r : Result U CoreError) (e : CoreError) → r ≡ Err e → IsKept r → IsKept {T = T} (Err e)
err_kept r e is kept same = kept (is ∙ ap (λ x. Err x) (of_err same))
  where
    of_err : {T : Type 0} {a b : CoreError} → ◌≡◌ {A = Result T CoreError} (Err a) (Err b) → a ≡ b
    of_err e = cc

pub ok_not_err : {T : Type 0} (x : T) (e : CoreError) → ◌≡◌ {A = Result T CoreError} (Ok x) (Err e) → ⊥
ok_not_err x e same = cc

pub ok_is : {T : Type 0} (x y : T) → ◌≡◌ {A = Result T CoreError} (Ok x) (Ok y) → x ≡ y
ok_is x y same = cc

pub err_is : {T : Type 0} (x y : CoreError) → ◌≡◌ {A = Result T CoreError} (Err x) (Err y) → x ≡ y
err_is x y same = cc

pub then_agree : {T U : Type 0} (First : Result T CoreError → Type 0) (Rest : T → Result U CoreError → Type 0) → Agree First
    → ((x : T) → First (Ok x) → Agree (Rest x)) → Agree (Then First Rest)
then_agree First Rest first rest a b (inl (e, one, is)) (inl (f, other, is')) na nb =
    is ∙ ap (λ x. Err x) (err_is e f (first (Err e) (Err f) one other (err_kept a e is na) (err_kept b f is' nb))) ∙ sym is'
then_agree First Rest first rest a b (inl (e, one, is)) (inr (y, other, right)) na nb =
    absurd (ok_not_err y e (first (Ok y) (Err e) other one (ok_kept y) (err_kept a e is na)))
then_agree First Rest first rest a b (inr (x, one, right)) (inl (f, other, is')) na nb =
    absurd (ok_not_err x f (first (Ok x) (Err f) one other (ok_kept x) (err_kept b f is' nb)))
then_agree First Rest first rest a b (inr (x, one, right)) (inr (y, other, right')) na nb =
    rest x one a b right (subst (λ z. Rest z b) (sym (ok_is x y (first (Ok x) (Ok y) one other (ok_kept x) (ok_kept y)))) right') na nb

-- a value of two steps
pub then_ok : {T U : Type 0} (First : Result T CoreError → Type 0) (Rest : T → Result U CoreError → Type 0) (u : U)
    → Then First Rest (Ok u) → (x : T) × First (Ok x) × Rest x (Ok u)
then_ok First Rest u (inl (e, one, is)) = absurd (ok_not_err u e is)
then_ok First Rest u (inr (x, one, rest)) = (x, one, rest)

-- a value of the first step that is right comes before the rest
pub then_value : {T U : Type 0} (First : Result T CoreError → Type 0) (Rest : T → Result U CoreError → Type 0) → Agree First
    → (x : T) → First (Ok x) → (r : Result U CoreError) → IsKept r → Then First Rest r → Rest x r
then_value First Rest first x right r kept (inl (e, one, is)) =
    absurd (ok_not_err x e (first (Ok x) (Err e) right one (ok_kept x) (err_kept r e is kept)))
then_value First Rest first x right r kept (inr (y, one, rest)) =
    subst (λ z. Rest z r) (ok_is y x (first (Ok y) (Ok x) one right (ok_kept y) (ok_kept x))) rest

-- an answer is out of memory, or it is not
pub kept_or : {T : Type 0} (r : Result T CoreError) → (r ≡ Err core.OutOfMemory) ⊎ IsKept r
kept_or (Ok x) = inr (ok_kept x)
kept_or (Err core.OutOfMemory) = inl refl
kept_or (Err core.NotElf64) = inr (λ e. absurd (cc))
kept_or (Err core.BadHeader) = inr (λ e. absurd (cc))
kept_or (Err core.NoNotes) = inr (λ e. absurd (cc))
kept_or (Err core.BadNote) = inr (λ e. absurd (cc))
kept_or (Err core.NoBinary) = inr (λ e. absurd (cc))
kept_or (Err (core.NoImage path)) = inr (λ e. absurd (cc))
kept_or (Err (core.BadImage path)) = inr (λ e. absurd (cc))
kept_or (Err (core.UnreadableVersion addr len)) = inr (λ e. absurd (cc))
kept_or (Err core.NoVersion) = inr (λ e. absurd (cc))
kept_or (Err (core.UnsupportedVersion named)) = inr (λ e. absurd (cc))
kept_or (Err core.NoInterpreter) = inr (λ e. absurd (cc))
kept_or (Err (core.Unreadable addr len)) = inr (λ e. absurd (cc))
kept_or (Err core.NativeUnsupported) = inr (λ e. absurd (cc))
kept_or (Err core.SubprocessesUnsupported) = inr (λ e. absurd (cc))
kept_or (Err (core.BadValue frame)) = inr (λ e. absurd (cc))
kept_or (Err (core.LocalsLimit count)) = inr (λ e. absurd (cc))
kept_or (Err core.ThreadLimit) = inr (λ e. absurd (cc))
kept_or (Err core.FrameLimit) = inr (λ e. absurd (cc))
kept_or (Err core.ChainLimit) = inr (λ e. absurd (cc))
