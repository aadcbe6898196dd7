-- Texts of values, one behind the other.
use Rattle.std.proofs.Common.{◌≡◌, ◌<◌, ◌+◌, ℕ, zero, suc, Bool, List, [], ◌∷◌, ◌++◌, map, length, get_or, refl, sym}
use Rattle.std.proofs.Common.{ap, subst, ◌∙◌, arith}
use Rattle.std.proofs.Common.{append-nil, append_assoc, if◌then◌else◌, ◌==◌, codes, ne_eqb, eqb-true, true, false}
use Rattle.std.proofs.Common.{◌&&◌, min}
use Rattle.std.proofs.lemmas.Bool.{false≢true}
use Rattle.py_reprs.specs.declared.repr.ItemsForm.{ItemsForm}
use Rattle.py_reprs.specs.Trees.{tree_of, trees_of}
use Rattle.py_reprs.specs.declared.repr.Repr.{Repr}
use Rattle.repr_texts.specs.Writing.{WriteFirst, Writes, between, between_text, closing, comma_text, count, each_behind}
use Rattle.repr_texts.specs.Writing.{empty_text, full_text, is_empty_set, is_set, items_text, joined, more_text}
use Rattle.repr_texts.specs.Writing.{opening, pair_text}
use Rattle.repr_texts.specs.Writing.{pairs_of, pairs_text, within_text}

pub first_none : (items : List Repr) → WriteFirst (trees_of (map tree_of items)) []
unfolding Writes
first_none [] = refl
first_none (x ∷ xs) = tt

first_more : (items : List Repr) (parts : List (List ℕ)) (part : List ℕ) (d : Repr)
    → WriteFirst (trees_of (map tree_of items)) parts → length parts < length items
    → Writes (tree_of (get_or items (length parts) d)) part
    → WriteFirst (trees_of (map tree_of items)) (parts ++ part ∷ [])
unfolding Writes
first_more [] parts part d each less written = absurd (omega (arith, less))
first_more (x ∷ xs) [] part d each less written = (written, first_none xs)
first_more (x ∷ xs) (q ∷ qs) part d each less written =
    (each.0, first_more xs qs part d each.1 (omega (arith, less)) written)

-- the same at a number
pub first_more_at : (items : List Repr) (parts : List (List ℕ)) (part : List ℕ) (d v : Repr) (number : ℕ)
    → WriteFirst (trees_of (map tree_of items)) parts → length parts ≡ number → number < length items
    → v ≡ get_or items number d → Writes (tree_of v) part → WriteFirst (trees_of (map tree_of items)) (parts ++ part ∷ [])
first_more_at items parts part d v number each all less is written =
    first_more items parts part d each (omega (arith, all, less))
    (subst (λ w. Writes (tree_of w) part) (is ∙ ap (λ k. get_or items k d) (sym all)) written)

pub counted : (items : List Repr) → count (trees_of (map tree_of items)) ≡ length items
counted [] = refl
counted (x ∷ xs) = ap suc (counted xs)

each_more : (separator part : List ℕ) (parts : List (List ℕ))
    → each_behind separator (parts ++ part ∷ []) ≡ each_behind separator parts ++ (separator ++ part)
each_more separator part [] = ap (λ xs. separator ++ xs) (append-nil part)
each_more separator part (q ∷ qs) =
    ap (λ xs. separator ++ (q ++ xs)) (each_more separator part qs)
    ∙ ap (λ xs. separator ++ xs) (sym (append_assoc q (each_behind separator qs) (separator ++ part)))
    ∙ sym (append_assoc separator (q ++ each_behind separator qs) (separator ++ part))

pub joined_more : (separator part : List ℕ) (parts : List (List ℕ))
    → joined separator (parts ++ part ∷ []) ≡ joined separator parts ++ (between_text separator (length parts) ++ part)
joined_more separator part [] = append-nil part
joined_more separator part (q ∷ qs) =
    ap (λ xs. q ++ xs) (each_more separator part qs) ∙ sym (append_assoc q (each_behind separator qs) (separator ++ part))
    ∙ ap (λ (is_none : Bool). (q ++ each_behind separator qs) ++ ((if is_none then [] else separator) ++ part))
    (sym (ne_eqb (suc (length qs)) 0 (λ e. absurd (omega (arith, e)))))

pub pairs_more : (ks vs : List (List ℕ)) (k v : List ℕ) → length ks ≡ length vs
    → pairs_of (ks ++ k ∷ []) (vs ++ v ∷ []) ≡ pairs_of ks vs ++ pair_text k v ∷ []
pairs_more [] [] k v e = refl
pairs_more [] (y ∷ ys) k v e = absurd (omega (arith, e))
pairs_more (x ∷ xs) [] k v e = absurd (omega (arith, e))
pairs_more (x ∷ xs) (y ∷ ys) k v e = ap (λ ps. pair_text x y ∷ ps) (pairs_more xs ys k v (omega (arith, e)))

pub pairs_length : (ks vs : List (List ℕ)) (n : ℕ) → length ks ≡ n → length vs ≡ n → length (pairs_of ks vs) ≡ n
pairs_length [] vs n e f = e
pairs_length (x ∷ xs) [] n e f = absurd (omega (arith, e, f))
pairs_length (x ∷ xs) (y ∷ ys) zero e f = absurd (omega (arith, e))
pairs_length (x ∷ xs) (y ∷ ys) (suc n) e f = ap suc (pairs_length xs ys n (omega (arith, e)) (omega (arith, f)))

-- a part is added behind what stands between
pub part_added : (old separator part text between new : List ℕ) (parts : List (List ℕ)) (number : ℕ)
    → length parts ≡ number → text ≡ old ++ joined separator parts → between ≡ text ++ between_text separator number
    → new ≡ between ++ part → new ≡ old ++ joined separator (parts ++ part ∷ [])
part_added old separator part text between new parts number all is b n =
    n ∙ ap (λ xs. xs ++ part) (b ∙ ap (λ xs. xs ++ between_text separator number) is)
    ∙ append_assoc (old ++ joined separator parts) (between_text separator number) part
    ∙ append_assoc old (joined separator parts) (between_text separator number ++ part)
    ∙ ap (λ k. old ++ (joined separator parts ++ (between_text separator k ++ part))) (sym all)
    ∙ ap (λ xs. old ++ xs) (sym (joined_more separator part parts))

-- so is a key with its value
pub pair_added : (old key value text between keyed coloned new : List ℕ) (ks vs : List (List ℕ)) (number : ℕ)
    → length ks ≡ number → length vs ≡ number → text ≡ old ++ joined (codes ", ") (pairs_of ks vs)
    → between ≡ text ++ between_text (codes ", ") number → keyed ≡ between ++ key → coloned ≡ keyed ++ codes ": "
    → new ≡ coloned ++ value → new ≡ old ++ joined (codes ", ") (pairs_of (ks ++ key ∷ []) (vs ++ value ∷ []))
pair_added old key value text between keyed coloned new ks vs number all_keys all_values is b k l n =
    part_added old (codes ", ") (pair_text key value) text between new (pairs_of ks vs) number
    (pairs_length ks vs number all_keys all_values) is b
    (n ∙ ap (λ xs. xs ++ value) (l ∙ ap (λ xs. xs ++ codes ": ") k)
    ∙ append_assoc (between ++ key) (codes ": ") value ∙ append_assoc between key (codes ": " ++ value))
    ∙ ap (λ ps. old ++ joined (codes ", ") ps) (sym (pairs_more ks vs key value (all_keys ∙ sym all_values)))

five : (o p j m c k : List ℕ) → ((((o ++ p) ++ j) ++ m) ++ c) ++ k ≡ o ++ (p ++ ((j ++ (m ++ c)) ++ k))
five o p j m c k = append_assoc (((o ++ p) ++ j) ++ m) c k ∙ append_assoc ((o ++ p) ++ j) m (c ++ k)
    ∙ append_assoc (o ++ p) j (m ++ (c ++ k)) ∙ append_assoc o p (j ++ (m ++ (c ++ k)))
    ∙ ap (λ xs. o ++ (p ++ (j ++ xs))) (sym (append_assoc m c k)) ∙ ap (λ xs. o ++ (p ++ xs)) (sym (append_assoc j (m ++ c) k))

-- a container is added, piece by piece
pub full_added : (form : ItemsForm) (parts : List (List ℕ)) (left_out shown : ℕ)
    (old before sep again close opened items_in more_in comma_in new : List ℕ)
    → before ≡ opening form → sep ≡ between form → again ≡ between form → close ≡ closing form → length parts ≡ shown
    → opened ≡ old ++ before → items_in ≡ opened ++ joined sep parts → more_in ≡ items_in ++ more_text again shown left_out
    → comma_in ≡ more_in ++ comma_text form shown left_out → new ≡ comma_in ++ close → new ≡ old ++ full_text form parts left_out
full_added form parts left_out shown old before sep again close opened items_in more_in comma_in new p s a k l o j m c n =
    n ∙ ap (λ xs. xs ++ close) (c ∙ ap (λ xs. xs ++ comma_text form shown left_out)
    (m ∙ ap (λ xs. xs ++ more_text again shown left_out) (j ∙ ap (λ xs. xs ++ joined sep parts) o)))
    ∙ five old before (joined sep parts) (more_text again shown left_out) (comma_text form shown left_out) close
    ∙ ap (λ xs. old ++ (xs ++ ((joined sep parts ++ (more_text again shown left_out ++ comma_text form shown left_out)) ++ close))) p
    ∙ ap (λ xs. old ++ (opening form ++ ((joined xs parts ++ (more_text again shown left_out ++ comma_text form shown left_out)) ++ close))) s
    ∙ ap (λ xs. old ++ (opening form ++ ((joined (between form) parts ++ (more_text xs shown left_out ++ comma_text form shown left_out)) ++ close))) a
    ∙ ap (λ n. old ++ (opening form ++ ((joined (between form) parts ++ (more_text (between form) n left_out ++ comma_text form n left_out)) ++ close))) (sym l)
    ∙ ap (λ xs. old ++ (opening form ++ (within_text form parts left_out ++ xs))) k

both : (a b : Bool) → a && b ≡ true → (a ≡ true) × (b ≡ true)
both true b e = (refl, e)
both false b e = absurd (false≢true e)

-- an empty set has no items
pub empty_is : (form : ItemsForm) (n left_out : ℕ) → is_empty_set form n left_out ≡ true
    → (n ≡ 0) × (is_empty_set form 0 left_out ≡ true)
empty_is form n left_out e =
    let outer = both (is_set form) (n == 0 && left_out == 0) e in
    let inner = both (n == 0) (left_out == 0) outer.1 in
    let none = eqb-true n 0 inner.0 in
    (none, subst (λ k. is_empty_set form k left_out ≡ true) none e)

pub items_empty : (form : ItemsForm) (left_out : ℕ) → is_empty_set form 0 left_out ≡ true
    → empty_text form ≡ items_text form [] left_out
unfolding items_text
items_empty form left_out e =
    ap (λ (is : Bool). if is then empty_text form else full_text form [] left_out) (sym e)

pub items_full : (form : ItemsForm) (parts : List (List ℕ)) (left_out n : ℕ) → length parts ≡ n
    → is_empty_set form n left_out ≡ false → full_text form parts left_out ≡ items_text form parts left_out
unfolding items_text
items_full form parts left_out n l e =
    ap (λ (is : Bool). if is then empty_text form else full_text form parts left_out)
    (sym (ap (λ k. is_empty_set form k left_out) l ∙ e))

pub both_counted : (keys values : List Repr)
    → min (length keys) (length values) ≡ min (count (trees_of (map tree_of keys))) (count (trees_of (map tree_of values)))
both_counted keys values = ap (λ n. min n (length values)) (sym (counted keys))
    ∙ ap (λ n. min (count (trees_of (map tree_of keys))) n) (sym (counted values))

-- a dict is added, piece by piece
pub dict_added : (old opened looped more_in new : List ℕ) (ks vs : List (List ℕ)) (shown left_out : ℕ)
    → opened ≡ old ++ codes "{" → looped ≡ opened ++ joined (codes ", ") (pairs_of ks vs)
    → more_in ≡ looped ++ more_text (codes ", ") shown left_out → new ≡ more_in ++ codes "}"
    → length (pairs_of ks vs) ≡ shown → new ≡ old ++ pairs_text (pairs_of ks vs) left_out
dict_added old opened looped more_in new ks vs shown left_out o l m n e =
    n ∙ ap (λ xs. xs ++ codes "}") (m ∙ ap (λ xs. xs ++ more_text (codes ", ") shown left_out)
    (l ∙ ap (λ xs. xs ++ joined (codes ", ") (pairs_of ks vs)) o))
    ∙ append_assoc ((old ++ codes "{") ++ joined (codes ", ") (pairs_of ks vs)) (more_text (codes ", ") shown left_out) (codes "}")
    ∙ append_assoc (old ++ codes "{") (joined (codes ", ") (pairs_of ks vs)) (more_text (codes ", ") shown left_out ++ codes "}")
    ∙ append_assoc old (codes "{") (joined (codes ", ") (pairs_of ks vs) ++ (more_text (codes ", ") shown left_out ++ codes "}"))
    ∙ ap (λ n. old ++ (codes "{" ++ (joined (codes ", ") (pairs_of ks vs) ++ (more_text (codes ", ") n left_out ++ codes "}")))) (sym e)
