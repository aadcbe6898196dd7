-- Lists of keys as the code has them, and names of tables.
use Rattle.std.proofs.Common.{◌≡◌, ℕ, suc, ◌+◌, ◌<◌, ◌≤◌, List, [], ◌∷◌, ◌||◌, Bool, true, false, not, Option, Some}
use Rattle.std.proofs.Common.{None, String, Global, map, option_map, cond, string_bytes, get_or, drop, length, add-one}
use Rattle.std.proofs.Common.{drop-cons, refl, sym, ap, ◌∙◌}
use Rattle.std.proofs.lemmas.List.{drop_all}
use Rattle.std.specs.Option.{option_or}
use Rattle.std.specs.List.{list_any, find}
use Rattle.std.specs.Map.{keys_of}
use Rattle.toml.specs.View.{members_view}
use Rattle.toml.proofs.Views.{Entry}
use Rattle.py_layout.specs.Flaws.{is_flawed, is_key, names, unknown_in, first_some, unknown_at, path, flaw_by}
use Rattle.py_layout.specs.declared.families.Families.{Families}
use Rattle.py_layout.specs.declared.keys.Key as code
use Rattle.py_layout.specs.Keys.{key_of}
use Rattle.toml.specs.Data.{Members}

pub list_any-map : {A B : Type 0} (g : A → B) (p : B → Bool) (xs : List A) → list_any p (map g xs) ≡ list_any (λ x. p (g x)) xs
list_any-map g p [] = refl
list_any-map g p (x ∷ xs) = ap (λ b. p (g x) || b) (list_any-map g p xs)

cond-map : {A B : Type 0} (g : A → B) (b : Bool) (x : A) (o : Option A) → option_map g (cond b (Some x) o) ≡ cond b (Some (g x)) (option_map g o)
cond-map g true x o = refl
cond-map g false x o = refl

pub find-map : {A B : Type 0} (g : A → B) (p : B → Bool) (xs : List A) → option_map g (find (λ x. p (g x)) xs) ≡ find p (map g xs)
find-map g p [] = refl
find-map g p (x ∷ xs) = cond-map g (p (g x)) x _ ∙ ap (cond (p (g x)) (Some (g x))) (find-map g p xs)

pub names-view : (es : List Entry) → names (members_view es) ≡ map string_bytes (keys_of es)
names-view [] = refl
names-view (e ∷ es) = ap (λ ns. string_bytes e.0 ∷ ns) (names-view es)

-- a name that is found among the keys of the map, among the names of the members
pub find-names : (p : List ℕ → Bool) (es : List Entry) (o : Option (String Global)) → o ≡ find (λ n. p (string_bytes n)) (keys_of es) → option_map string_bytes o ≡ find p (names (members_view es))
find-names p es o h = ap (option_map string_bytes) h ∙ find-map string_bytes p (keys_of es) ∙ ap (find p) (sym (names-view es))

find-same : {A : Type 0} (p q : A → Bool) → ((x : A) → p x ≡ q x) → (xs : List A) → find p xs ≡ find q xs
find-same p q same [] = refl
find-same p q same (x ∷ xs) = ap (λ b. cond b (Some x) (find p xs)) (same x) ∙ ap (cond (q x) (Some x)) (find-same p q same xs)

-- a name that is no key of the code's list, among the names of the members
pub unknown_name : (f : Families) (keys : List code.Key) (group : Option (List ℕ)) (es : List Entry) (o : Option (String Global))
    → o ≡ find (λ n. not (list_any (λ key. is_key f group (string_bytes n) (key_of key)) keys)) (keys_of es)
    → option_map string_bytes o ≡ unknown_in f (map key_of keys) group (members_view es)
unknown_name f keys group es o h =
    find-names (λ n. not (list_any (λ key. is_key f group n (key_of key)) keys)) es o h
    ∙ find-same _ _ (λ n. ap not (sym (list_any-map key_of (is_key f group n) keys))) (names (members_view es))

-- the flaw of a group's key of the code's list
abbrev pub group_flaw : Families → List code.Key → Members → code.Key → Option (List ℕ)
group_flaw f keys ms key = unknown_at f (map key_of keys) ms (key_of key)

-- the first flaw, by what was found in the code's list
pub flaw_by-found : (f : Families) (keys : List code.Key) (ms : Members) (o : Option code.Key)
    → o ≡ find (λ key. is_flawed f ms (key_of key)) keys
    → option_or (option_map (λ key. path key.group key.name) (option_map key_of o))
    (option_or (option_map (path None) (unknown_in f (map key_of keys) None ms)) (first_some (unknown_at f (map key_of keys) ms) (map key_of keys)))
    ≡ flaw_by f (map key_of keys) ms
flaw_by-found f keys ms o h =
    ap (λ found. option_or (option_map (λ key. path key.group key.name) found) (option_or (option_map (path None) (unknown_in f (map key_of keys) None ms)) (first_some (unknown_at f (map key_of keys) ms) (map key_of keys))))
    (ap (option_map key_of) h ∙ find-map key_of (is_flawed f ms) keys)

pub first_of-map : {A B C : Type 0} (g : A → B) (f : B → Option C) (xs : List A) → first_some f (map g xs) ≡ first_some (λ x. f (g x)) xs
first_of-map g f [] = refl
first_of-map g f (x ∷ xs) = ap (option_or (f (g x))) (first_of-map g f xs)

-- the first that f gives, from a place on: nothing here, something here, and the end
pub first_of-miss : {A B : Type 0} (f : A → Option B) (xs : List A) (i : ℕ) (d : A) → i < length xs → f (get_or xs i d) ≡ None → first_some f (drop (i + 1) xs) ≡ first_some f (drop i xs)
first_of-miss f xs i d h none =
    rw add-one (sym (ap (first_some f) (drop-cons xs i d h) ∙ ap (λ o. option_or o (first_some f (drop (suc i) xs))) none))

pub first_of-hit : {A B : Type 0} (f : A → Option B) (xs : List A) (i : ℕ) (d : A) (y : B) → i < length xs → f (get_or xs i d) ≡ Some y → first_some f (drop i xs) ≡ Some y
first_of-hit f xs i d y h some =
    ap (first_some f) (drop-cons xs i d h) ∙ ap (λ o. option_or o (first_some f (drop (suc i) xs))) some

pub first_of-end : {A B : Type 0} (f : A → Option B) (xs : List A) (i : ℕ) → length xs ≤ i → first_some f (drop i xs) ≡ None
first_of-end f xs i h = ap (first_some f) (drop_all i xs h)
