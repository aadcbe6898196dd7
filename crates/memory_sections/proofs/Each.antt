-- One item more is told of.
use Rattle.std.proofs.Common.{◌≡◌, ◌<◌, ◌+◌, ◌++◌, ◌∷◌, ℕ, List, [], length, take, get_or, sym, subst}
use Rattle.std.proofs.lemmas.List.{take_more}
use Rattle.memory_sections.specs.Each.{EachTold}

module _ {A B : Type 0} (Tells : A → B → Type 0) where
  pub each_more : (xs : List A) (ys : List B) (x : A) (y : B) → EachTold Tells xs ys → Tells x y
      → EachTold Tells (xs ++ x ∷ []) (ys ++ y ∷ [])
  unfolding EachTold
  each_more [] [] x y each one = (one, tt)
  each_more [] (b ∷ ys) x y each one = absurd each
  each_more (a ∷ xs) [] x y each one = absurd each
  each_more (a ∷ xs) (b ∷ ys) x y each one = (each.0, each_more xs ys x y each.1 one)

  -- the item at a place, behind those before it
  pub each_next : (xs : List A) (ys : List B) (i : ℕ) (x d : A) (y : B) → i < length xs → x ≡ get_or xs i d
      → EachTold Tells (take i xs) ys → Tells x y → EachTold Tells (take (i + 1) xs) (ys ++ y ∷ [])
  each_next xs ys i x d y less at each one =
      subst (λ zs. EachTold Tells zs (ys ++ y ∷ [])) (sym (take_more xs i d less))
      (each_more (take i xs) ys (get_or xs i d) y each (subst (λ z. Tells z y) at one))

  -- nothing is told of no item
  pub each_none : (xs : List A) (ys : List B) → ys ≡ [] → EachTold Tells (take 0 xs) ys
  unfolding EachTold
  each_none xs ys none = subst (λ zs. EachTold Tells [] zs) (sym none) tt
