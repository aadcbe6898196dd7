-- What is to be shown of parts, one after another.
use Rattle.std.proofs.Common.{◌≡◌, ℕ, ◌+◌, ◌<◌, List, [], ◌∷◌, ◌++◌, length, take, get_or, sym, ap, ◌∙◌, append_assoc}
use Rattle.std.proofs.lemmas.Grind.{flat_map-append}
use Rattle.std.proofs.lemmas.List.{take_more, append-nil}
use Rattle.std.specs.List.{flat_map}
use Rattle.thread_exceptions.specs.declared.thread.Handled.{Handled}
use Rattle.thread_exceptions.specs.declared.thread.Owner.TheVariants as owner
use Rattle.thread_exceptions.specs.declared.thread.Value.TheVariants as value

more_parts : {S T : Type 0} (f : T → List S) (xs : List T) (i : ℕ) (d : T) → i < length xs
    → flat_map f (take (i + 1) xs) ≡ flat_map f (take i xs) ++ f (get_or xs i d)
more_parts f xs i d lt =
    ap (λ ys. flat_map f ys) (take_more xs i d lt) ∙ flat_map-append f (take i xs) (get_or xs i d ∷ [])
    ∙ ap (λ t. flat_map f (take i xs) ++ t) (append-nil (f (get_or xs i d)))

-- one part more
pub push_more : {S T : Type 0} (f : T → List S) (before todo new : List S) (xs : List T) (i : ℕ) (x d : T)
    → i < length xs → x ≡ get_or xs i d → todo ≡ before ++ flat_map f (take i xs)
    → new ≡ todo ++ f x → new ≡ before ++ flat_map f (take (i + 1) xs)
push_more f before todo new xs i x d lt is inv pushed =
    pushed ∙ ap (λ t. t ++ f x) inv ∙ append_assoc before (flat_map f (take i xs)) (f x)
    ∙ ap (λ y. before ++ (flat_map f (take i xs) ++ f y)) is ∙ ap (λ t. before ++ t) (sym (more_parts f xs i d lt))

-- an item that names nothing
pub nothing : Handled
nothing = record { owner = owner.Thread; value = value.At 0 }
