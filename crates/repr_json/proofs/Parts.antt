-- The JSON of values, one behind the other.
use Rattle.std.proofs.Common.{◌≡◌, ◌<◌, ◌+◌, ℕ, zero, suc, List, [], ◌∷◌, ◌++◌, map, length, get_or, take, refl, sym, ap, subst}
use Rattle.std.proofs.Common.{◌∙◌, arith}
use Rattle.std.proofs.lemmas.List.{take_more, map-append}
use Rattle.serde_json.specs.Data.{Data}
use Rattle.serde_json.specs.View.{view}
use Rattle.serde_json.specs.declared.value.Value.{Value}
use Rattle.py_reprs.specs.declared.repr.Repr.{Repr}
use Rattle.py_reprs.specs.Trees.{tree_of, trees_of}
use Rattle.py_reprs.specs.Trees.Trees.{no_trees}
use Rattle.repr_json.specs.Trees.{AreJson, IsJson, pair_tree, pair_trees}

pub none_is : AreJson no_trees []
unfolding IsJson
none_is = refl

-- one more behind the others
pub more_are : (items : List Repr) (ds : List Data) (x : Repr) (d : Data) → AreJson (trees_of (map tree_of items)) ds
    → IsJson (tree_of x) d → AreJson (trees_of (map tree_of (items ++ x ∷ []))) (ds ++ d ∷ [])
unfolding IsJson
more_are [] [] x d each is = (is, refl)
more_are [] (e ∷ ds) x d each is = absurd (cc)
more_are (y ∷ items) [] x d each is = absurd each
more_are (y ∷ items) (e ∷ ds) x d each is = (each.0, more_are items ds x d each.1 is)

-- the same at a number
pub more_at : (items : List Repr) (values new : List Value) (v : Value) (number : ℕ) (x y : Repr)
    → AreJson (trees_of (map tree_of (take number items))) (map view values) → number < length items
    → x ≡ get_or items number y → IsJson (tree_of x) (view v) → new ≡ values ++ v ∷ []
    → AreJson (trees_of (map tree_of (take (number + 1) items))) (map view new)
more_at items values new v number x y each less is here pushed =
    subst (λ vs. AreJson (trees_of (map tree_of (take (number + 1) items))) (map view vs)) (sym pushed)
    (subst (λ ds. AreJson (trees_of (map tree_of (take (number + 1) items))) ds) (sym (map-append view values (v ∷ [])))
    (subst (λ xs. AreJson (trees_of (map tree_of xs)) (map view values ++ view v ∷ [])) (sym (take_more items number y less))
    (more_are (take number items) (map view values) (get_or items number y) (view v) each
    (subst (λ z. IsJson (tree_of z) (view v)) is here))))
