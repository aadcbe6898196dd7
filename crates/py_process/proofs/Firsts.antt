-- The first of some elements that is so is one.
use Rattle.std.proofs.Common.{◌≡◌, List, [], ◌∷◌, ◌++◌, sym, subst, ◌∙◌}
use Rattle.std.proofs.lemmas.List.Elements.{All-head, All-tail}
use Rattle.std.specs.Prelude.{All}

head_is : {X : Type 0} (x y : X) (xs ys : List X) → x ∷ xs ≡ y ∷ ys → x ≡ y
head_is x y xs ys e = cc

tail_is : {X : Type 0} (x y : X) (xs ys : List X) → x ∷ xs ≡ y ∷ ys → xs ≡ ys
tail_is x y xs ys e = cc

module _ {X : Type 0} (Is : X → Type 0) where
  abbrev Isnt : X → Type 0
  Isnt x = ¬ Is x

  same : (before after other rest : List X) (a b : X) → before ++ (a ∷ after) ≡ other ++ (b ∷ rest) → Is a → Is b
      → All Isnt before → All Isnt other → a ≡ b
  same [] after [] rest a b e is is' none none' = head_is a b after rest e
  same [] after (y ∷ other) rest a b e is is' none none' =
      absurd (All-head Isnt y other none' (subst Is (head_is a y after (other ++ (b ∷ rest)) e) is))
  same (x ∷ before) after [] rest a b e is is' none none' =
      absurd (All-head Isnt x before none (subst Is (sym (head_is x b (before ++ (a ∷ after)) rest e)) is'))
  same (x ∷ before) after (y ∷ other) rest a b e is is' none none' =
      same before after other rest a b (tail_is x y (before ++ (a ∷ after)) (other ++ (b ∷ rest)) e) is is'
      (All-tail Isnt x before none) (All-tail Isnt y other none')

  -- two firsts of one list are one
  pub first_same : (xs before after other rest : List X) (a b : X) → xs ≡ before ++ (a ∷ after) → xs ≡ other ++ (b ∷ rest)
      → Is a → Is b → All Isnt before → All Isnt other → a ≡ b
  first_same xs before after other rest a b one two is is' none none' =
      same before after other rest a b (sym one ∙ two) is is' none none'

  met : (before after : List X) (a : X) → Is a → All Isnt (before ++ (a ∷ after)) → ⊥
  met [] after a is none = All-head Isnt a after none is
  met (x ∷ before) after a is none = met before after a is (All-tail Isnt x (before ++ (a ∷ after)) none)

  -- where none is so, there is no first
  pub none_first : (xs before after : List X) (a : X) → xs ≡ before ++ (a ∷ after) → Is a → All Isnt xs → ⊥
  none_first xs before after a e is none = met before after a is (subst (λ ys. All Isnt ys) e none)
