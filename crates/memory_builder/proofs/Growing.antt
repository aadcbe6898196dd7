-- What is laid of one item more.
use Rattle.std.proofs.Common.{◌≡◌, ◌∙◌, ◌+◌, ◌<◌, ◌^◌, ℕ, zero, suc, List, [], ◌∷◌, ◌++◌, map, length, get_or, take}
use Rattle.std.proofs.Common.{refl, sym, ap, ap₂, arith, append_assoc, append-nil}
use Rattle.std.specs.Prelude.{slice_index_or}
use Rattle.std.specs.List.{flat_map, sum_by}
use Rattle.std.proofs.lemmas.List.{take_more}
use Rattle.std.proofs.lemmas.List.Sums.{sum_by-cons, sum_by_push, sum_by-take-le}
use Rattle.memory_builder.specs.Chains.{addresses_from, head_of, laid_chain}
use Rattle.object_builder.specs.Objects.{bytes_of}
use Rattle.object_builder.specs.Objects.Value.{U64}
use Rattle.memory_builder.specs.Sizes.{capped}
use Rattle.memory_builder.specs.Values.{address_array, laid_all}
use Rattle.memory_builder.proofs.Lists.{length_map}
use Rattle.memory_builder.proofs.Sums.{read_map}

pub one_more : {X Y : Type 0} (g : X → Y) (xs : List X) (i : ℕ) (x : X) → i < length xs → x ≡ get_or xs i x
    → take (i + 1) (map g xs) ≡ take i (map g xs) ++ g x ∷ []
one_more g xs i x small is =
    take_more (map g xs) i (g x) (omega (arith, length_map g xs))
    ∙ ap (λ y. take i (map g xs) ++ y ∷ []) (read_map g xs i x small is)

flat_push : {X Y : Type 0} (f : X → List Y) (xs : List X) (x : X) → flat_map f (xs ++ x ∷ []) ≡ flat_map f xs ++ f x
flat_push f [] x = append-nil (f x)
flat_push f (y ∷ xs) x = ap (λ ys. f y ++ ys) (flat_push f xs x) ∙ sym (append_assoc (f y) (flat_map f xs) (f x))

-- bytes that are added of one item more
pub flat_more : {X Y : Type 0} (f : Y → List ℕ) (g : X → Y) (xs : List X) (i : ℕ) (x : X) (start out next : List ℕ)
    → i < length xs → x ≡ get_or xs i x
    → out ≡ start ++ flat_map f (take i (map g xs)) → next ≡ out ++ f (g x)
    → next ≡ start ++ flat_map f (take (i + 1) (map g xs))
flat_more f g xs i x start out next small is so_far added =
    added ∙ ap (λ ys. ys ++ f (g x)) so_far ∙ append_assoc start (flat_map f (take i (map g xs))) (f (g x))
    ∙ ap (λ ys. start ++ ys) (sym (flat_push f (take i (map g xs)) (g x))
    ∙ ap (flat_map f) (sym (one_more g xs i x small is)))

-- a number that stopped at the greatest u64 is the number where that is small
pub exact : (n m : ℕ) → n ≡ capped m → m < 2 ^ 63 → n ≡ m
exact n m is small = omega (arith, is, small)

array_push : (xs : List ℕ) (x : ℕ) → address_array (xs ++ x ∷ []) ≡ address_array xs ++ bytes_of (U64 x)
unfolding address_array
array_push [] x = append-nil (bytes_of (U64 x))
array_push (y ∷ xs) x = ap (λ ys. bytes_of (U64 y) ++ ys) (array_push xs x)
    ∙ sym (append_assoc (bytes_of (U64 y)) (address_array xs) (bytes_of (U64 x)))

plus_none : (a : ℕ) → a ≡ a + 0
plus_none a = omega arith

further : (a b c d : ℕ) → d ≡ b + c → a + b + c ≡ a + d
further a b c d is = omega arith

addresses_push : {X : Type 0} (size : X → ℕ) (a : ℕ) (xs : List X) (x : X)
    → addresses_from size a (xs ++ x ∷ []) ≡ addresses_from size a xs ++ (a + sum_by size xs) ∷ []
addresses_push size a [] x = ap (λ n. n ∷ []) (plus_none a)
addresses_push size a (y ∷ xs) x =
    ap (λ ys. a ∷ ys) (addresses_push size (a + size y) xs x
    ∙ ap (λ n. addresses_from size (a + size y) xs ++ n
    ∷ []) (further a (size y) (sum_by size xs) (sum_by size (y ∷ xs)) (sum_by-cons size y xs)))

-- one address more
pub address_more : {X Y : Type 0} (size : Y → ℕ) (g : X → Y) (xs : List X) (i : ℕ) (x : X) (at here : ℕ)
    (found next : List ℕ) → i < length xs → x ≡ get_or xs i x
    → found ≡ address_array (addresses_from size at (take i (map g xs))) → here ≡ at + sum_by size (take i (map g xs))
    → next ≡ found ++ bytes_of (U64 here)
    → next ≡ address_array (addresses_from size at (take (i + 1) (map g xs)))
address_more size g xs i x at here found next small is so_far here_is added =
    let before = take i (map g xs) in
    added ∙ ap₂ (λ ys n. ys ++ bytes_of (U64 n)) so_far here_is
    ∙ sym (array_push (addresses_from size at before) (at + sum_by size before))
    ∙ ap address_array (sym (addresses_push size at before (g x))
    ∙ ap (addresses_from size at) (sym (one_more g xs i x small is)))

-- the address behind one item more
pub here_more : {X Y : Type 0} (size : Y → ℕ) (g : X → Y) (xs : List X) (i : ℕ) (x : X) (at here one next : ℕ)
    → i < length xs → x ≡ get_or xs i x
    → here ≡ at + sum_by size (take i (map g xs)) → one ≡ size (g x) → next ≡ here + one
    → next ≡ at + sum_by size (take (i + 1) (map g xs))
here_more size g xs i x at here one next small is so_far one_is added =
    let more = ap (sum_by size) (one_more g xs i x small is) ∙ sum_by_push size (take i (map g xs)) (g x) in
    omega (arith, so_far, one_is, added, more)

-- it is no further than the end
pub here_fits : {X Y : Type 0} (size : Y → ℕ) (g : X → Y) (xs : List X) (i : ℕ) (x : X) (at here : ℕ) → i < length xs
    → x ≡ get_or xs i x
    → here ≡ at + sum_by size (take i (map g xs)) → at + sum_by size (map g xs) < 2 ^ 63 → here + size (g x) < 2 ^ 63
here_fits size g xs i x at here small is so_far fits =
    let more = ap (sum_by size) (one_more g xs i x small is) ∙ sum_by_push size (take i (map g xs)) (g x) in
    omega (arith, so_far, fits, more, sum_by-take-le size (map g xs) (i + 1))

all_push : {X : Type 0} (size : X → ℕ) (lay : ℕ → X → List ℕ) (a : ℕ) (xs : List X) (x : X)
    → laid_all size lay a (xs ++ x ∷ []) ≡ laid_all size lay a xs ++ lay (a + sum_by size xs) x
unfolding laid_chain
all_push size lay a [] x = append-nil (lay a x) ∙ ap (λ n. lay n x) (plus_none a)
all_push size lay a (y ∷ xs) x =
    let rest = laid_all size lay (a + size y) xs in
    ap (λ ys. lay a y ++ ys) (all_push size lay (a + size y) xs x
    ∙ ap (λ n. rest ++ lay n x) (further a (size y) (sum_by size xs) (sum_by size (y ∷ xs))
    (sum_by-cons size y xs)))
    ∙ sym (append_assoc (lay a y) rest (lay (a + sum_by size (y ∷ xs)) x))

-- what is laid by its address, of one item more
pub all_more : {X Y : Type 0} (size : Y → ℕ) (lay : ℕ → Y → List ℕ) (g : X
    → Y) (xs : List X) (i : ℕ) (x : X) (at here : ℕ) (start out next : List ℕ) → i < length xs → x ≡ get_or xs i x
    → out ≡ start ++ laid_all size lay at (take i (map g xs)) → here ≡ at + sum_by size (take i (map g xs))
    → next ≡ out ++ lay here (g x)
    → next ≡ start ++ laid_all size lay at (take (i + 1) (map g xs))
all_more size lay g xs i x at here start out next small is so_far here_is added =
    let before = take i (map g xs) in
    added ∙ ap₂ (λ ys n. ys ++ lay n (g x)) so_far here_is ∙ append_assoc start (laid_all size lay at before)
    (lay (at + sum_by size before) (g x))
    ∙ ap (λ ys. start ++ ys) (sym (all_push size lay at before (g x))
    ∙ ap (laid_all size lay at) (sym (one_more g xs i x small is)))

-- what doesn't depend on its address
pub all_flat : {X : Type 0} (size : X → ℕ) (f : X → List ℕ) (a : ℕ) (xs : List X)
    → laid_all size (λ at x. f x) a xs ≡ flat_map f xs
unfolding laid_chain
all_flat size f a [] = refl
all_flat size f a (x ∷ xs) = ap (λ ys. f x ++ ys) (all_flat size f (a + size x) xs)

-- the first of a chain is laid
pub chain_next : {X : Type 0} (size : X → ℕ) (lay : ℕ → ℕ → X
    → List ℕ) (here : ℕ) (x : X) (xs : List X) (out new whole : List ℕ) (next back : ℕ)
    → next ≡ here + size x → back ≡ head_of next xs → new ≡ out ++ lay here back x
    → out ++ laid_chain size lay here (x ∷ xs) ≡ whole → new ++ laid_chain size lay next xs ≡ whole
unfolding laid_chain
chain_next size lay here x xs out new whole next back next_is back_is added is =
    let rest = laid_chain size lay (here + size x) xs in
    let back_here : back ≡ head_of (here + size x) xs = back_is ∙ ap (λ n. head_of n xs) next_is in
    ap₂ (λ ys n. ys ++ laid_chain size lay n xs) (added ∙ ap (λ b. out ++ lay here b x) back_here) next_is
    ∙ append_assoc out (lay here (head_of (here + size x) xs) x) rest ∙ is

pub chain_none : {X : Type 0} (size : X → ℕ) (lay : ℕ → ℕ → X → List ℕ) (here : ℕ) (xs : List X) (out whole : List ℕ)
    → xs ≡ []
    → out ++ laid_chain size lay here xs ≡ whole → out ≡ whole
unfolding laid_chain
chain_none size lay here xs out whole none is = sym (append-nil out)
    ∙ ap (λ ys. out ++ laid_chain size lay here ys) (sym none) ∙ is

-- the first of a chain ends before the chain does
pub first_fits : {X : Type 0} (size : X → ℕ) (here : ℕ) (x : X) (xs : List X) → here + sum_by size (x ∷ xs) < 2 ^ 63
    → here + size x + sum_by size xs < 2 ^ 63
first_fits size here x xs h = omega (arith, h, sum_by-cons size x xs)

-- the address of an item
pub address_at : {X : Type 0} (size : X → ℕ) (a : ℕ) (xs : List X) (i : ℕ) → i < length xs
    → slice_index_or (addresses_from size a xs) i 0 ≡ a + sum_by size (take i xs)
address_at size a [] i small = absurd (omega arith)
address_at size a (x ∷ xs) zero small = plus_none a
address_at size a (x ∷ xs) (suc i) small =
    address_at size (a + size x) xs i (omega arith) ∙ further a (size x) (sum_by size (take i xs))
    (sum_by size (x ∷ take i xs)) (sum_by-cons size x (take i xs))
