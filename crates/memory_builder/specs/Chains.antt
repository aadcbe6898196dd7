-- Groups of objects that are laid one behind the other.
use Rattle.std.specs.Prelude.{ℕ, ◌+◌, List, [], ◌∷◌, ◌++◌, ⊤}

-- the address of the first of some groups that are laid from `a` on, and 0 where there is none
abbrev pub head_of : {X : Type 0} → ℕ → List X → ℕ
head_of a [] = 0
head_of a (x ∷ xs) = a

-- each group is given its address and the next one's
unfoldable pub laid_chain : {X : Type 0} → (X → ℕ) → (ℕ → ℕ → X → List ℕ) → ℕ → List X → List ℕ
laid_chain size lay a [] = []
laid_chain size lay a (x ∷ xs) = lay a (head_of (a + size x) xs) x ++ laid_chain size lay (a + size x) xs

-- what groups are by their addresses
abbrev pub values_at : {X T : Type 0} → (X → ℕ) → (ℕ → X → T) → ℕ → List X → List T
values_at size val a [] = []
values_at size val a (x ∷ xs) = val a x ∷ values_at size val (a + size x) xs

-- their addresses
abbrev pub addresses_from : {X : Type 0} → (X → ℕ) → ℕ → List X → List ℕ
addresses_from size a xs = values_at size (λ at x. at) a xs

-- what holds of each by its address
abbrev pub AllAt : {X : Type 0} → (X → ℕ) → (ℕ → X → Type 0) → ℕ → List X → Type 0
AllAt size Q a [] = ⊤
AllAt size Q a (x ∷ xs) = Q a x × AllAt size Q (a + size x) xs
