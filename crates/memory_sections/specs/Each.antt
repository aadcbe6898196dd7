-- Of each item of a list something is told, in order, and nothing else.
use Rattle.std.specs.Prelude.{◌≡◌, ⊤, Bool, true, false, List, [], ◌∷◌, Option, Some, None}

-- two lists of one length, of which each item tells of the one at its place
unfoldable pub EachTold : {A B : Type 0} → (A → B → Type 0) → List A → List B → Type 0
EachTold Tells [] [] = ⊤
EachTold Tells [] (y ∷ ys) = ⊥
EachTold Tells (x ∷ xs) [] = ⊥
EachTold Tells (x ∷ xs) (y ∷ ys) = Tells x y × EachTold Tells xs ys

-- what is asked for is told, and nothing else
abbrev pub ToldIf : {T : Type 0} → Bool → (T → Type 0) → Option T → Type 0
ToldIf false Is told = told ≡ None
ToldIf true Is None = ⊥
ToldIf true Is (Some told) = Is told
