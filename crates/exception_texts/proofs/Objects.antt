-- The trees of objects, one after another.
use Rattle.std.proofs.Common.{◌≡◌, ℕ, zero, suc, ◌+◌, List, [], ◌∷◌, ◌++◌, map, refl, sym, ap, ◌∙◌, arith}
use Rattle.std.proofs.lemmas.List.{map-append}
use Rattle.serde_json.specs.Data.{Data}
use Rattle.py_exceptions.specs.declared.thread.ToldThread.{ToldThread}
use Rattle.exception_texts.specs.Trees.{first_trees, numbered_tree}

next : (t : ToldThread) (n : ℕ) → first_trees t (suc n) ≡ first_trees t n ++ numbered_tree t n ∷ []
unfolding first_trees
next t n = refl

pub none_yet : {V : Type 0} (view : V → Data) (t : ToldThread) (values : List V) → values ≡ []
    → map view values ≡ first_trees t 0
unfolding first_trees
none_yet view t values is = ap (map view) is

-- one object more
pub one_more : {V : Type 0} (view : V → Data) (t : ToldThread) (values more : List V) (v : V) (n : ℕ)
    → map view values ≡ first_trees t n → view v ≡ numbered_tree t n → more ≡ values ++ v ∷ []
    → map view more ≡ first_trees t (n + 1)
one_more view t values more v n inv is pushed =
    let e : n + 1 ≡ suc n = omega arith in
    ap (map view) pushed ∙ map-append view values (v ∷ []) ∙ ap (λ ds. ds ++ view v ∷ []) inv
    ∙ ap (λ d. first_trees t n ++ d ∷ []) is ∙ sym (next t n) ∙ ap (first_trees t) (sym e)
