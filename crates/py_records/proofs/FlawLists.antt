-- Lists of keys as the code has them, and names of tables.
use Rattle.std.proofs.Common.{◌≡◌, ℕ, List, [], ◌∷◌, not, Option, String, Global, map, option_map, string_bytes, cond}
use Rattle.std.proofs.Common.{refl, sym, ap, ◌∙◌, Bool, None, Some}
use Rattle.std.specs.Option.{option_or}
use Rattle.std.specs.List.{list_any, find}
use Rattle.std.specs.Map.{keys_of}
use Rattle.toml.specs.Data.{Members}
use Rattle.toml.specs.View.{members_view}
use Rattle.toml.proofs.Views.{Entry}
use Rattle.py_layout.specs.Flaws.{names, first_some, path}
use Rattle.py_layout.proofs.FlawsFound.{list_any-map, find-map, find-names}
use Rattle.py_records.specs.Flaws.{is_flawed, is_key, unknown_in, unknown_at, table_flaw}
use Rattle.py_records.specs.declared.keys.Key as code
use Rattle.py_records.specs.Keys.{key_of}

find-same : {A : Type 0} (p q : A → Bool) → ((x : A) → p x ≡ q x) → (xs : List A) → find p xs ≡ find q xs
find-same p q same [] = refl
find-same p q same (x ∷ xs) = ap (λ b. cond b (Some x) (find p xs)) (same x)
    ∙ ap (cond (q x) (Some x)) (find-same p q same xs)

-- a name that is no key of the code's list, among the names of the members
pub unknown_name : (keys : List code.Key) (group : Option (List ℕ)) (es : List Entry) (o : Option (String Global))
    → o ≡ find (λ n. not (list_any (λ key. is_key group (string_bytes n) (key_of key)) keys)) (keys_of es)
    → option_map string_bytes o ≡ unknown_in (map key_of keys) group (members_view es)
unknown_name keys group es o h =
    find-names (λ n. not (list_any (λ key. is_key group n (key_of key)) keys)) es o h
    ∙ find-same _ _ (λ n. ap not (sym (list_any-map key_of (is_key group n) keys))) (names (members_view es))

-- the flaw of a group's key of the code's list
abbrev pub group_flaw : List code.Key → Members → code.Key → Option (List ℕ)
group_flaw keys ms key = unknown_at (map key_of keys) ms (key_of key)

-- the first flaw, by what was found in the code's list
pub table_flaw-found : (keys : List code.Key) (ms : Members) (o : Option code.Key)
    → o ≡ find (λ key. is_flawed ms (key_of key)) keys
    → option_or (option_map (λ key. path key.group key.name) (option_map key_of o))
    (option_or (option_map (path None) (unknown_in (map key_of keys) None ms))
    (first_some (unknown_at (map key_of keys) ms) (map key_of keys)))
    ≡ table_flaw (map key_of keys) ms
table_flaw-found keys ms o h =
    ap (λ found. option_or (option_map (λ key. path key.group key.name) found)
    (option_or (option_map (path None) (unknown_in (map key_of keys) None ms))
    (first_some (unknown_at (map key_of keys) ms) (map key_of keys))))
    (ap (option_map key_of) h ∙ find-map key_of (is_flawed ms) keys)
