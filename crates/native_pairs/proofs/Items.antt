-- Both lists in one.
use Rattle.std.proofs.Common.{◌≡◌, ℕ, zero, suc, ◌+◌, Bool, true, false, List, [], ◌∷◌, ◌++◌, length, map}
use Rattle.std.proofs.Common.{refl, sym, ◌∙◌, ap, arith, append_assoc}
use Rattle.std.specs.Prelude.{nat_eq}
use Rattle.std.specs.List.{range_with_len, sum}
use Rattle.std.proofs.lemmas.List.Sums.{sum_by-cons}
use Rattle.std.proofs.lemmas.List.{append-nil, map-append}
use Rattle.native_pairs.specs.declared.item.Item.{Item}
use Rattle.native_pairs.specs.declared.item.Item.TheVariants.{Python, Native, NotFound, Beside}
use Rattle.native_pairs.specs.Items.{apart_items, behind_mark, merged_from, natives, natives_in, numbers, pythons}
use Rattle.native_pairs.specs.Items.{pythons_in, rest_if, size_if}

-- ---- numbers, one after another

range_more : (a m n : ℕ) → range_with_len a (m + n) ≡ range_with_len a m ++ range_with_len (a + m) n
range_more a zero n =
    let none : zero + n ≡ n = omega arith in
    let same : a + zero ≡ a = omega arith in
    rw (none, same) refl
range_more a (suc m) n =
    let one : suc m + n ≡ suc (m + n) = omega arith in
    let shift : a + suc m ≡ (a + 1) + m = omega arith in
    rw (one, shift) (ap (λ xs. a ∷ xs) (range_more (a + 1) m n))

pub pythons_more : (from m n : ℕ) → pythons from (m + n) ≡ pythons from m ++ pythons (from + m) n
pythons_more from m n = ap (map (λ k. Python k)) (range_more from m n)
    ∙ map-append (λ k. Python k) (range_with_len from m) (range_with_len (from + m) n)

-- so many more behind others
pub adds_more : (first old more : List Item) (from m n next total : ℕ) → old ≡ first ++ pythons from m
    → more ≡ old ++ pythons next n
    → next ≡ from + m → total ≡ m + n → more ≡ first ++ pythons from total
adds_more first old more from m n next total was adds at count =
    adds ∙ rw (was, at, count) (append_assoc first (pythons from m) (pythons (from + m) n)
    ∙ ap (λ xs. first ++ xs) (sym (pythons_more from m n)))

-- ---- a step

pub merged_step : (whole items mid more : List Item) (before after : List Bool) (left rest : List ℕ)
    (i python size next : ℕ) (has : Bool)
    → before ≡ has ∷ after → whole ≡ items ++ merged_from before left i python
    → size ≡ size_if has left → rest ≡ rest_if has left → mid ≡ items ++ pythons python size
    → more ≡ mid ++ Native i ∷ []
    → next ≡ python + size → whole ≡ more ++ merged_from after rest (i + 1) next
unfolding merged_from
merged_step whole items mid more before after left rest i python size next has b w s r m e n =
    w ∙ rw (b, e, m, n, r, s) (sym (append_assoc (items ++ pythons python (size_if has left)) (Native i ∷ [])
    (merged_from after (rest_if has left) (i + 1) (python + size_if has left))
    ∙ append_assoc items (pythons python (size_if has left))
    (Native i ∷ merged_from after (rest_if has left) (i + 1) (python + size_if has left))))

pub merged_end : (whole items more : List Item) (rest : List Bool) (left : List ℕ) (i python : ℕ) → rest ≡ []
    → whole ≡ items ++ merged_from rest left i python → more ≡ items ++ behind_mark NotFound python (sum left)
    → more ≡ whole
unfolding merged_from
merged_end whole items more rest left i python none w m = m ∙ sym (w ∙ rw none refl)

-- ---- each once, and in its order

pythons_both : (xs ys : List Item) → pythons_in (xs ++ ys) ≡ pythons_in xs ++ pythons_in ys
unfolding pythons_in
pythons_both [] ys = refl
pythons_both (Python n ∷ xs) ys = ap (λ ns. n ∷ ns) (pythons_both xs ys)
pythons_both (Native n ∷ xs) ys = pythons_both xs ys
pythons_both (NotFound ∷ xs) ys = pythons_both xs ys
pythons_both (Beside ∷ xs) ys = pythons_both xs ys

natives_both : (xs ys : List Item) → natives_in (xs ++ ys) ≡ natives_in xs ++ natives_in ys
unfolding natives_in
natives_both [] ys = refl
natives_both (Python n ∷ xs) ys = natives_both xs ys
natives_both (Native n ∷ xs) ys = ap (λ ns. n ∷ ns) (natives_both xs ys)
natives_both (NotFound ∷ xs) ys = natives_both xs ys
natives_both (Beside ∷ xs) ys = natives_both xs ys

pythons_of_pythons : (from n : ℕ) → pythons_in (pythons from n) ≡ range_with_len from n
unfolding pythons_in
pythons_of_pythons from zero = refl
pythons_of_pythons from (suc n) = ap (λ ns. from ∷ ns) (pythons_of_pythons (from + 1) n)

natives_of_pythons : (from n : ℕ) → natives_in (pythons from n) ≡ []
unfolding natives_in
natives_of_pythons from zero = refl
natives_of_pythons from (suc n) = natives_of_pythons (from + 1) n

pythons_of_natives : (from n : ℕ) → pythons_in (natives from n) ≡ []
unfolding pythons_in
pythons_of_natives from zero = refl
pythons_of_natives from (suc n) = pythons_of_natives (from + 1) n

natives_of_natives : (from n : ℕ) → natives_in (natives from n) ≡ range_with_len from n
unfolding natives_in
natives_of_natives from zero = refl
natives_of_natives from (suc n) = ap (λ ns. from ∷ ns) (natives_of_natives (from + 1) n)

some_more : (n : ℕ) → nat_eq (suc n) 0 ≡ false
some_more n = grind arith

module _ (mark : Item) (no_python : pythons_in (mark ∷ []) ≡ []) (no_native : natives_in (mark ∷ []) ≡ []) where
  pythons_behind : (from n : ℕ) → pythons_in (behind_mark mark from n) ≡ range_with_len from n
  unfolding pythons_in
  pythons_behind from zero = refl
  pythons_behind from (suc n) = rw (some_more n)
      (pythons_both (mark ∷ []) (pythons from (suc n)) ∙ rw no_python (pythons_of_pythons from (suc n)))

  natives_behind : (from n : ℕ) → natives_in (behind_mark mark from n) ≡ []
  unfolding natives_in
  natives_behind from zero = refl
  natives_behind from (suc n) = rw (some_more n)
      (natives_both (mark ∷ []) (pythons from (suc n)) ∙ rw no_native (natives_of_pythons from (suc n)))

not_found_python : pythons_in (NotFound ∷ []) ≡ []
unfolding pythons_in
not_found_python = refl

not_found_native : natives_in (NotFound ∷ []) ≡ []
unfolding natives_in
not_found_native = refl

beside_python : pythons_in (Beside ∷ []) ≡ []
unfolding pythons_in
beside_python = refl

beside_native : natives_in (Beside ∷ []) ≡ []
unfolding natives_in
beside_native = refl

sizes : (has : Bool) (runs : List ℕ) → sum runs ≡ size_if has runs + sum (rest_if has runs)
sizes true [] = refl
sizes true (n ∷ runs) = sum_by-cons (λ x. x) n runs
sizes false runs = omega arith

pythons_behind_native : (n : ℕ) (others : List Item) → pythons_in (Native n ∷ others) ≡ pythons_in others
unfolding pythons_in
pythons_behind_native n others = refl

natives_behind_native : (n : ℕ) (others : List Item) → natives_in (Native n ∷ others) ≡ n ∷ natives_in others
unfolding natives_in
natives_behind_native n others = refl

pub merged_pythons : (takes : List Bool) (runs : List ℕ) (native python : ℕ)
    → pythons_in (merged_from takes runs native python) ≡ range_with_len python (sum runs)
unfolding merged_from
merged_pythons [] runs native python = pythons_behind NotFound not_found_python not_found_native python (sum runs)
merged_pythons (has ∷ takes) runs native python =
    pythons_both (pythons python (size_if has runs))
    (Native native ∷ merged_from takes (rest_if has runs) (native + 1) (python + size_if has runs))
    ∙ ap (λ ns. ns ++ pythons_in (Native native ∷ merged_from takes (rest_if has runs) (native + 1)
    (python + size_if has runs))) (pythons_of_pythons python (size_if has runs))
    ∙ ap (λ ns. range_with_len python (size_if has runs) ++ ns)
    (pythons_behind_native native (merged_from takes (rest_if has runs) (native + 1) (python + size_if has runs))
    ∙ merged_pythons takes (rest_if has runs) (native + 1) (python + size_if has runs))
    ∙ sym (ap (range_with_len python) (sizes has runs) ∙ range_more python (size_if has runs) (sum (rest_if has runs)))

pub merged_natives : (takes : List Bool) (runs : List ℕ) (native python : ℕ)
    → natives_in (merged_from takes runs native python) ≡ range_with_len native (length takes)
unfolding merged_from
merged_natives [] runs native python = natives_behind NotFound not_found_python not_found_native python (sum runs)
merged_natives (has ∷ takes) runs native python =
    natives_both (pythons python (size_if has runs))
    (Native native ∷ merged_from takes (rest_if has runs) (native + 1) (python + size_if has runs))
    ∙ ap (λ ns. ns ++ natives_in (Native native ∷ merged_from takes (rest_if has runs) (native + 1)
    (python + size_if has runs))) (natives_of_pythons python (size_if has runs))
    ∙ natives_behind_native native (merged_from takes (rest_if has runs) (native + 1) (python + size_if has runs))
    ∙ ap (λ ns. native ∷ ns) (merged_natives takes (rest_if has runs) (native + 1) (python + size_if has runs))

pub apart_pythons : (frames : ℕ) (runs : List ℕ) → pythons_in (apart_items frames runs) ≡ numbers (sum runs)
apart_pythons frames runs = pythons_both (natives 0 frames) (behind_mark Beside 0 (sum runs))
    ∙ rw (pythons_of_natives 0 frames) (pythons_behind Beside beside_python beside_native 0 (sum runs))

pub apart_natives : (frames : ℕ) (runs : List ℕ) → natives_in (apart_items frames runs) ≡ numbers frames
apart_natives frames runs = natives_both (natives 0 frames) (behind_mark Beside 0 (sum runs))
    ∙ rw (natives_of_natives 0 frames, natives_behind Beside beside_python beside_native 0 (sum runs))
    (append-nil (range_with_len 0 frames))
