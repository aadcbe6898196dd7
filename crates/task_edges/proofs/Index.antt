-- Edges by what they complete, one more at a time.
use Rattle.std.proofs.Common.{◌≡◌, ℕ, ◌+◌, ◌<◌, Bool, true, false, cond, Option, List, [], ◌∷◌, ◌++◌, length, take, get_or}
use Rattle.std.proofs.Common.{refl, sym, ◌∙◌, ap, arith, append-nil, nat_eq}
use Rattle.std.specs.Prelude.{Some, None, option_to_list}
use Rattle.std.specs.BTreeMap.{BTreeMap, Updates, get}
use Rattle.std.specs.Global.{Vec}
use Rattle.std.specs.List.{cons_option, filter_map}
use Rattle.std.specs.Ordering.{nat_cmp}
use Rattle.std.proofs.lemmas.List.{take_more}
use Rattle.std.proofs.lemmas.List.Elements.{filter_map-append}
use Rattle.task_edges.specs.declared.edges.Edge.{Edge}
use Rattle.task_edges.specs.Edges.{items_or_none, source_if, sources_in, sources_of}
use Rattle.task_edges.proofs.Sets.{at_itself, at_other}

same : (x y : ℕ) → nat_eq x y ≡ true → y ≡ x
same x y e = grind arith

apart : (x y : ℕ) → nat_eq x y ≡ false → y ≡ x → ⊥
apart x y e s = grind arith

-- a map from which the sources of an object were taken, and which has them and one more
pub added : (old mid new : BTreeMap ℕ (Vec ℕ)) (edge : Edge) (v w : Vec ℕ) → v.items ≡ sources_in old edge.to
    → ((q : ℕ) → (q ≡ edge.to → ⊥) → sources_in mid q ≡ sources_in old q) → w.items ≡ v.items ++ edge.from ∷ []
    → Updates nat_cmp mid new edge.to (Some w)
    → (q : ℕ) → sources_in new q ≡ sources_in old q ++ option_to_list (source_if q edge)
added old mid new edge v w taken left pushed u q = by (nat_eq edge.to q) refl
  where
    by : (b : Bool) → nat_eq edge.to q ≡ b → sources_in new q ≡ sources_in old q ++ option_to_list (source_if q edge)
    by true e =
        let at = same edge.to q e in
        let got : get nat_cmp new q ≡ Some w =
        u.0 q ∙ ap (λ b. cond b (Some w) (get nat_cmp mid q)) (at_itself edge.to q at) in
        rw e (ap items_or_none got ∙ pushed
        ∙ ap (λ xs. xs ++ edge.from ∷ []) (taken ∙ ap (λ p. sources_in old p) (sym at)))
    by false e =
        let ne = apart edge.to q e in
        rw e (ap items_or_none (u.2 q (at_other edge.to q ne)) ∙ left q ne ∙ sym (append-nil (sources_in old q)))

abbrev pub no_edge : Edge
no_edge = record { from = 0; to = 0 }

one : (o : Option ℕ) → cons_option o [] ≡ option_to_list o
one None = refl
one (Some x) = refl

-- the edges so far, and one more
pub index_more : (edges : List Edge) (i q : ℕ) → i < length edges
    → sources_of (take (i + 1) edges) q ≡ sources_of (take i edges) q ++ option_to_list (source_if q (get_or edges i no_edge))
index_more edges i q lt =
    let x = get_or edges i no_edge in
    ap (filter_map (source_if q)) (take_more edges i no_edge lt)
    ∙ filter_map-append (source_if q) (take i edges) (x ∷ [])
    ∙ ap (λ ys. sources_of (take i edges) q ++ ys) (one (source_if q x))
