-- Lists whose items are mapped.
use Rattle.std.proofs.Common.{◌≡◌, ◌<◌, ◌≤◌, ℕ, zero, suc, List, [], ◌∷◌, map, length, get_or, take, refl, ap, sym}
use Rattle.std.proofs.Common.{arith}
use Rattle.std.specs.Prelude.{◌↔◌, IfSome, Some, None, slice_get}
use Rattle.std.specs.List.{AllByRecursion}

-- what holds of the mapped items holds of the items mapped
pub all_map : {X Y : Type 0} (P : Y → Type 0) (g : X → Y) (xs : List X) → AllByRecursion (λ x. P (g x)) xs
    → AllByRecursion P (map g xs)
all_map P g [] h = h
all_map P g (x ∷ xs) h = (h.0, all_map P g xs h.1)

pub all_unmap : {X Y : Type 0} (P : Y → Type 0) (g : X → Y) (xs : List X) → AllByRecursion P (map g xs)
    → AllByRecursion (λ x. P (g x)) xs
all_unmap P g [] h = h
all_unmap P g (x ∷ xs) h = (h.0, all_unmap P g xs h.1)

pub tells_map : {X Y : Type 0} (P : Y → Type 0) (g : X → Y) (xs : List X) (t : Type 0)
    → (t ↔ AllByRecursion (λ x. P (g x)) xs) → t ↔ AllByRecursion P (map g xs)
tells_map P g xs t h = (λ a. all_map P g xs (h.0 a), λ b. h.1 (all_unmap P g xs b))

-- an item of the mapped list
pub get_map : {X Y : Type 0} (g : X → Y) (xs : List X) (i : ℕ) (x : X) → i < length xs → x ≡ get_or xs i x
    → slice_get (map g xs) i ≡ Some (g x)
get_map g [] i x small is = absurd (omega arith)
get_map g (y ∷ xs) zero x small is = ap (λ z. Some (g z)) (sym is)
get_map g (y ∷ xs) (suc i) x small is = get_map g xs i x (omega arith) is

-- there is none behind the end
pub none_map : {X Y : Type 0} (g : X → Y) (xs : List X) (i : ℕ) → length xs ≤ i → slice_get (map g xs) i ≡ None
none_map g [] i far = refl
none_map g (x ∷ xs) zero far = absurd (omega arith)
none_map g (x ∷ xs) (suc i) far = none_map g xs i (omega arith)

pub take_map : {X Y : Type 0} (g : X → Y) (n : ℕ) (xs : List X) → take n (map g xs) ≡ map g (take n xs)
take_map g zero xs = refl
take_map g (suc n) [] = refl
take_map g (suc n) (x ∷ xs) = ap (λ ys. g x ∷ ys) (take_map g n xs)

pub length_map : {X Y : Type 0} (g : X → Y) (xs : List X) → length (map g xs) ≡ length xs
length_map g [] = refl
length_map g (x ∷ xs) = ap (λ n. suc n) (length_map g xs)

-- what holds of all items, and what holds at each index
pub all_somewhere : {X : Type 0} (P : X → Type 0) (xs : List X) → AllByRecursion P xs → (k : ℕ)
    → IfSome (slice_get xs k) P
all_somewhere P [] h k = tt
all_somewhere P (x ∷ xs) h zero = h.0
all_somewhere P (x ∷ xs) h (suc k) = all_somewhere P xs h.1 k

pub somewhere_all : {X : Type 0} (P : X → Type 0) (xs : List X) → ((k : ℕ) → IfSome (slice_get xs k) P)
    → AllByRecursion P xs
somewhere_all P [] h = tt
somewhere_all P (x ∷ xs) h = (h 0, somewhere_all P xs (λ k. h (suc k)))
