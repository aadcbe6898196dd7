-- How many values a value is, by those within it.
use Rattle.std.proofs.Common.{Vec, Global, ◌≡◌, ℕ, ◌+◌, ◌-◌, ◌<◌, ◌≤◌, List, [], ◌∷◌, ◌++◌, map, take, get_or, length, ap, ◌∙◌, arith}
use Rattle.std.specs.Prelude.{Option}
use Rattle.std.proofs.lemmas.List.{map-append, take_all, take_more}
use Rattle.py_reprs.specs.declared.repr.ItemsForm.{ItemsForm}
use Rattle.py_reprs.specs.declared.repr.Repr.{Repr}
use Rattle.py_reprs.specs.declared.repr.Repr.TheVariants as read
use Rattle.py_reprs.specs.declared.repr.Repr.TheVariants.{rolls-Instance, rolls-Items, rolls-Pairs}
use Rattle.py_reprs.specs.declared.repr.Repr.TheFolds.{fold-roll-Repr, ind-Repr}
use Rattle.py_reprs.specs.declared.repr.Repr.TheViews.{roll-Repr}
use Rattle.py_reprs.specs.declared.repr.Repr.TheOpen.{Repr-F}
use Rattle.py_reprs.specs.Trees.{Tree, tree_of, tree_step, trees_of}
use Rattle.local_values.specs.Nodes.{nodes_in, nodes_of}

-- those of some values
abbrev pub nodes_read : List Repr → ℕ
nodes_read values = nodes_in (trees_of (map tree_of values))

nodes_append : (ts us : List Tree) → nodes_in (trees_of (ts ++ us)) ≡ nodes_in (trees_of ts) + nodes_in (trees_of us)
unfolding nodes_in
nodes_append [] us = omega arith
nodes_append (t ∷ ts) us = let e = nodes_append ts us in omega (arith, e)

nodes_one : (t : Tree) → nodes_in (trees_of (t ∷ [])) ≡ nodes_of t
unfolding nodes_in
nodes_one t = omega arith

nodes_more : (values : List Repr) (number : ℕ) (d : Repr) → number < length values
    → nodes_read (take (number + 1) values) ≡ nodes_read (take number values) + nodes_of (tree_of (get_or values number d))
nodes_more values number d less =
    ap nodes_read (take_more values number d less)
    ∙ ap (λ ts. nodes_in (trees_of ts)) (map-append tree_of (take number values) (get_or values number d ∷ []))
    ∙ nodes_append (map tree_of (take number values)) (tree_of (get_or values number d) ∷ [])
    ∙ ap (λ n. nodes_read (take number values) + n) (nodes_one (tree_of (get_or values number d)))

-- what is left behind one more
pub left_more : (left rest next : ℕ) (values : List Repr) (number : ℕ) (value d : Repr) → number < length values
    → value ≡ get_or values number d → rest ≡ left - nodes_read (take number values) → next ≡ rest - nodes_of (tree_of value)
    → next ≡ left - nodes_read (take (number + 1) values)
left_more left rest next values number value d less at before after =
    let more = nodes_more values number d less in
    let one = ap (λ v. nodes_of (tree_of v)) at in omega (arith, more, one, before, after)

pub left_all : (left rest : ℕ) (values : List Repr) (number : ℕ) → length values ≤ number
    → rest ≡ left - nodes_read (take number values) → rest ≡ left - nodes_read values
left_all left rest values number full is = is ∙ ap (λ vs. left - nodes_read vs) (take_all number values full)

-- what is left behind a value, and behind those within it
pub left_behind : (left rest result inner whole : ℕ) → rest ≡ left - 1 → result ≡ rest - inner → whole ≡ 1 + inner
    → result ≡ left - whole
left_behind left rest result inner whole a b e = omega (arith, a, b, e)

pub left_behind_both : (left rest middle result keys values whole : ℕ) → rest ≡ left - 1 → middle ≡ rest - keys
    → result ≡ middle - values → whole ≡ 1 + (keys + values) → result ≡ left - whole
left_behind_both left rest middle result keys values whole a b e f = omega (arith, a, b, e, f)

pub left_none : (left : ℕ) → left ≡ left - nodes_read []
unfolding nodes_in
left_none left = omega arith

-- a value that is no container, no dict and no instance with attributes is one
abbrev pub IsOneNode : Repr → Type 0
IsOneNode v = ((form : ItemsForm) (items : Vec Repr Global) (left_out : ℕ) → v ≡ read.Items form items left_out → ⊥)
    → ((keys values : Vec Repr Global) (left_out : ℕ) → v ≡ read.Pairs keys values left_out → ⊥)
    → ((class : Option (List ℕ)) (addr : ℕ) (names values : Vec Repr Global) (left_out : ℕ)
    → v ≡ read.Instance class addr names values left_out → ⊥) → nodes_of (tree_of v) ≡ 1

rolled : (x : Repr-F Repr) → IsOneNode (roll-Repr x)
unfolding nodes_of
rolled (Repr-F.Items form items left_out) no_items no_pairs no_instance =
    absurd (no_items form items left_out (rolls-Items form items left_out))
rolled (Repr-F.Pairs keys values left_out) no_items no_pairs no_instance =
    absurd (no_pairs keys values left_out (rolls-Pairs keys values left_out))
rolled (Repr-F.Instance class addr names values left_out) no_items no_pairs no_instance =
    absurd (no_instance class addr names values left_out (rolls-Instance class addr names values left_out))
rolled x no_items no_pairs no_instance = ap nodes_of (fold-roll-Repr Tree tree_step x)

pub leaf_nodes : (v : Repr) → IsOneNode v
leaf_nodes = ind-Repr IsOneNode (λ x y is. rolled x)
