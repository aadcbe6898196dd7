-- Members of lists: of one that was mapped, of one of those that pass a test, and of two that are in the same order.
use Rattle.std.proofs.Common.{◌≡◌, suc, ◌<◌, ◌⊎◌, Bool, true, false, cond, List, [], ◌∷◌, length, map}
use Rattle.std.proofs.Common.{refl, sym}
use Rattle.std.proofs.Common.{◌∙◌, ap, arith, subst, inl, inr, filter}
use Rattle.std.specs.List.{All, AllPairs, Contains}
use Rattle.std.proofs.lemmas.List.Elements.{All-contains, All-cons, All-nil, Contains-append_right}
use Rattle.std.proofs.lemmas.List.Elements.{Contains-append_cases, Contains-push_cases}

module _ {X : Type 0} where
  pub is_head : (x : X) (xs : List X) → Contains (x ∷ xs) x
  is_head x xs = (0, omega arith, refl)

  pub in_tail : (x y : X) (xs : List X) → Contains xs y → Contains (x ∷ xs) y
  in_tail x y xs h = Contains-append_right (x ∷ []) xs y h

  nothing_in : (y : X) → Contains {X = X} [] y → ⊥
  nothing_in y h = absurd (omega (arith, h.1))

  only : (x y : X) → Contains (x ∷ []) y → x ≡ y
  only x y h = by (Contains-push_cases [] x y h)
    where
      by : Contains [] y ⊎ (x ≡ y) → x ≡ y
      by (inl e) = absurd (nothing_in y e)
      by (inr e) = e

  pub cases : (x y : X) (xs : List X) → Contains (x ∷ xs) y → (x ≡ y) ⊎ Contains xs y
  cases x y xs h = by (Contains-append_cases (x ∷ []) xs y h)
    where
      by : Contains (x ∷ []) y ⊎ Contains xs y → (x ≡ y) ⊎ Contains xs y
      by (inl e) = inl (only x y e)
      by (inr e) = inr e

  pub nothing : (y : X) → Contains {X = X} [] y → ⊥
  nothing y h = nothing_in y h

module _ {X Y : Type 0} (f : X → Y) where
  pub mapped : (xs : List X) (x : X) → Contains xs x → Contains (map f xs) (f x)
  mapped [] x h = absurd (nothing x h)
  mapped (y ∷ ys) x h = by (cases y x ys h) (λ e. mapped ys x e)
    where
      by : (y ≡ x) ⊎ Contains ys x → (Contains ys x → Contains (map f ys) (f x)) → Contains (map f (y ∷ ys)) (f x)
      by (inl e) more = subst (λ z. Contains (map f (y ∷ ys)) (f z)) e (is_head (f y) (map f ys))
      by (inr e) more = in_tail (f y) (f x) (map f ys) (more e)

  pub from_mapped : (xs : List X) (v : Y) → Contains (map f xs) v → (x : X) × Contains xs x × (f x ≡ v)
  from_mapped [] v h = absurd (nothing v h)
  from_mapped (y ∷ ys) v h = by (cases (f y) v (map f ys) h) (λ e. from_mapped ys v e)
    where
      by : (f y ≡ v) ⊎ Contains (map f ys) v → (Contains (map f ys) v → (x : X) × Contains ys x × (f x ≡ v))
          → (x : X) × Contains (y ∷ ys) x × (f x ≡ v)
      by (inl e) more = (y, is_head y ys, e)
      by (inr e) more = let r = more e in (r.0, in_tail y r.0 ys r.1, r.2)

is_true : true ≡ false → ⊥
is_true e = cc

is_some : {X : Type 0} (x : X) (xs : List X) → x ∷ xs ≡ [] → ⊥
is_some x xs h = absurd (omega (arith, ap length h))

module _ {X : Type 0} (p : X → Bool) where
  here : (x : X) (xs : List X) (b : Bool) → p x ≡ b → filter p (x ∷ xs) ≡ cond b (x ∷ filter p xs) (filter p xs)
  here x xs b q = ap (λ b. cond b (x ∷ filter p xs) (filter p xs)) q

  none_passes : (xs : List X) → filter p xs ≡ [] → All (λ x. p x ≡ false) xs
  none_passes [] e = All-nil (λ x. p x ≡ false)
  none_passes (x ∷ xs) e = by (p x) refl (none_passes xs)
    where
      by : (b : Bool) → p x ≡ b → (filter p xs ≡ [] → All (λ x. p x ≡ false) xs) → All (λ x. p x ≡ false) (x ∷ xs)
      by false q more = All-cons (λ x. p x ≡ false) x xs q (more (sym (here x xs false q) ∙ e))
      by true q more = absurd (is_some x (filter p xs) (sym (here x xs true q) ∙ e))

  -- one that passes is left
  pub some_passes : (xs : List X) (x : X) → Contains xs x → p x ≡ true → 0 < length (filter p xs)
  some_passes xs x h t = by (filter p xs) refl
    where
      by : (ys : List X) → filter p xs ≡ ys → 0 < length (filter p xs)
      by [] e = absurd (is_true (sym t ∙ All-contains (λ y. p y ≡ false) xs x (none_passes xs e) h))
      by (y ∷ ys) e = rw e (omega arith)

  -- and what is left has one that passes
  pub passes : (xs : List X) → 0 < length (filter p xs) → (x : X) × Contains xs x × (p x ≡ true)
  passes [] h = absurd (omega (arith, h))
  passes (x ∷ xs) h = by (p x) refl (passes xs)
    where
      by : (b : Bool) → p x ≡ b → (0 < length (filter p xs) → (y : X) × Contains xs y × (p y ≡ true))
          → (y : X) × Contains (x ∷ xs) y × (p y ≡ true)
      by true q more = (x, is_head x xs, q)
      by false q more =
          let r = more (subst (λ ys. 0 < length ys) (here x xs false q) h) in
          (r.0, in_tail x r.0 xs r.1, r.2)

-- ---- two lists in the same strict order that have the same members are the same list

module _ {X : Type 0} (R : X → X → Type 0) (once : (x y : X) → R x y → R y x → ⊥) where
  ahead : (x : X) (xs : List X) → AllPairs R (x ∷ xs) → All (R x) xs
  ahead x xs h = λ k d lt. h 0 (suc k) d (omega arith) (omega (arith, lt))

  behind : (x : X) (xs : List X) → AllPairs R (x ∷ xs) → AllPairs R xs
  behind x xs h = λ i j d le lt. h (suc i) (suc j) d (omega (arith, le)) (omega (arith, lt))

  first : (x y : X) (xs ys : List X) → All (R x) xs → All (R y) ys → Contains (y ∷ ys) x → Contains (x ∷ xs) y → x ≡ y
  first x y xs ys p q g h = by (cases y x ys g) (cases x y xs h)
    where
      by : (y ≡ x) ⊎ Contains ys x → (x ≡ y) ⊎ Contains xs y → x ≡ y
      by (inl e) t = sym e
      by (inr e) (inl t) = t
      by (inr e) (inr t) = absurd (once x y (All-contains (R x) xs y p t) (All-contains (R y) ys x q e))

  rest : (x : X) (xs ys : List X) → All (R x) xs → ((z : X) → Contains (x ∷ xs) z → Contains (x ∷ ys) z) → (z : X)
      → Contains xs z → Contains ys z
  rest x xs ys p h z c = by (cases x z ys (h z (in_tail x z xs c)))
    where
      by : (x ≡ z) ⊎ Contains ys z → Contains ys z
      by (inr e) = e
      by (inl e) = let r : R x x = subst (R x) (sym e) (All-contains (R x) xs z p c) in absurd (once x x r r)

  pub same_list : (xs ys : List X) → AllPairs R xs → AllPairs R ys → ((z : X) → Contains xs z → Contains ys z)
      → ((z : X) → Contains ys z → Contains xs z) → xs ≡ ys
  same_list [] [] p q g h = refl
  same_list [] (y ∷ ys) p q g h = absurd (nothing y (h y (is_head y ys)))
  same_list (x ∷ xs) [] p q g h = absurd (nothing x (g x (is_head x xs)))
  same_list (x ∷ xs) (y ∷ ys) p q g h =
      let e : x ≡ y = first x y xs ys (ahead x xs p) (ahead y ys q) (g x (is_head x xs)) (h y (is_head y ys)) in
      let g' : (z : X) → Contains (x ∷ xs) z → Contains (x ∷ ys) z = subst (λ w. (z : X) → Contains (x ∷ xs) z
      → Contains (w ∷ ys) z) (sym e) g in
      let h' : (z : X) → Contains (x ∷ ys) z → Contains (x ∷ xs) z = subst (λ w. (z : X) → Contains (w ∷ ys) z
      → Contains (x ∷ xs) z) (sym e) h in
      let q' : All (R x) ys = subst (λ w. All (R w) ys) (sym e) (ahead y ys q) in
      ap (λ w. w ∷ xs) e ∙ ap (λ zs. y ∷ zs)
      (same_list xs ys (behind x xs p) (behind y ys q) (rest x xs ys (ahead x xs p) g') (rest x ys xs q' h'))
