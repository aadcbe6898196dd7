-- What is reached: each root, each child of what is reached, and nothing else.
use Rattle.std.proofs.Common.{ℕ, List, [], ◌∷◌, ◌++◌, ◌≢◌, refl, sym, subst}
use Rattle.std.specs.List.{Contains}
use Rattle.object_reach.specs.Objects.{IsChild, Object}
use Rattle.object_reach.specs.Reach.{IsPath, IsReached}

path_more : (heap : ℕ → Object) (a : ℕ) (cs : List ℕ) (b c : ℕ) → IsPath heap a cs b → IsChild (heap b) c → IsPath heap a (cs ++ c ∷ []) c
path_more heap a [] b c h k = (subst (λ n. IsChild (heap n) c) (sym h) k, refl)
path_more heap a (n ∷ cs) b c h k = (h.0, path_more heap n cs b c h.1 k)

pub reached_root : (heap : ℕ → Object) (roots : List ℕ) (a : ℕ) → Contains roots a → a ≢ 0 → IsReached heap roots a
reached_root heap roots a h k = record { root = a; others = []; is_root = h; not_null = k; path = refl }

pub reached_child : (heap : ℕ → Object) (roots : List ℕ) (a c : ℕ) → IsReached heap roots a → IsChild (heap a) c → IsReached heap roots c
reached_child heap roots a c h k =
    record {
      root = h.root;
      others = h.others ++ c ∷ [];
      is_root = h.is_root;
      not_null = h.not_null;
      path = path_more heap h.root h.others a c h.path k;
    }

path_within : (heap : ℕ → Object) (S : ℕ → Type 0) → ((a c : ℕ) → S a → IsChild (heap a) c → S c) → (a : ℕ) (cs : List ℕ) (b : ℕ) → S a → IsPath heap a cs b → S b
path_within heap S step a [] b s h = subst S h s
path_within heap S step a (n ∷ cs) b s h = path_within heap S step n cs b (step a n s h.0) h.1

-- what has each root other than 0, and each child of what it has, has all that is reached
pub reached_within : (heap : ℕ → Object) (roots : List ℕ) (S : ℕ → Type 0) → ((a : ℕ) → Contains roots a → a ≢ 0 → S a) → ((a c : ℕ) → S a → IsChild (heap a) c → S c) → (b : ℕ) → IsReached heap roots b → S b
reached_within heap roots S first step b h =
    path_within heap S step h.root h.others b (first h.root h.is_root h.not_null) h.path
