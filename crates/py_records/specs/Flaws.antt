-- The first flaw of a table of records in a file. By this project's own form of such a file.
use Rattle.std.specs.Prelude.{List, ℕ, Bool, true, false, ◌&&◌, not, Option, Some, None, is_some, bytes_eq}
use Rattle.std.specs.Prelude.{option_map, option_and_then}
use Rattle.std.specs.Option.{option_or}
use Rattle.std.specs.List.{list_any, find}
use Rattle.toml.specs.Data.{Data, Members}
use Rattle.py_layout.specs.Values.{group_at, value_at}
use Rattle.py_layout.specs.Flaws.{path, same_group, names, first_some}
use Rattle.py_records.specs.declared.keys.Kind.{Kind}
use Rattle.py_records.specs.declared.keys.Kind.TheVariants.{Group}
use Rattle.py_records.specs.declared.keys.Presence.{Presence}
use Rattle.py_records.specs.declared.keys.Presence.TheVariants.{Always, Free}
use Rattle.py_records.specs.Keys.{Key, fits}

-- whether a key has to be there where its group is; others need not be
abbrev pub is_always : Presence → Bool
is_always Always = true
is_always Free = false

-- whether the group is there, or it is the table itself
abbrev pub has_home : Members → Option (List ℕ) → Bool
has_home ms None = true
has_home ms (Some group) = is_some (group_at ms group)

-- whether a key that must be there is missing from a home that is there, or one that is there has the wrong kind
abbrev pub is_wrong : Bool → Kind → Presence → Option Data → Bool
is_wrong home kind presence None = is_always presence && home
is_wrong home kind presence (Some d) = not (fits kind d)

-- whether a key of a table is missing where it has to be, or has the wrong kind
abbrev pub is_flawed : Members → Key → Bool
is_flawed ms key = is_wrong (has_home ms key.group) key.kind key.presence (value_at ms key.group key.name)

-- whether the key has this group and name
abbrev pub is_key : Option (List ℕ) → List ℕ → Key → Bool
is_key group name key = same_group key.group group && bytes_eq key.name name

-- whether a table of records has a key of this name in this group
abbrev pub is_known : List Key → Option (List ℕ) → List ℕ → Bool
is_known keys group name = list_any (is_key group name) keys

-- the first name of a table, which stands for this group, that is no key
abbrev pub unknown_in : List Key → Option (List ℕ) → Members → Option (List ℕ)
unknown_in keys group ms = find (λ name. not (is_known keys group name)) (names ms)

-- where the key is that of a group, the first name there that is no key
abbrev pub unknown_by : List Key → Members → List ℕ → Kind → Option (List ℕ)
unknown_by keys ms name Group =
    option_map (path (Some name)) (option_and_then (unknown_in keys (Some name)) (group_at ms name))
unknown_by keys ms name _ = None

-- where the key names a group that is there, the path of the first name in it that is no key
abbrev pub unknown_at : List Key → Members → Key → Option (List ℕ)
unknown_at keys ms key = unknown_by keys ms key.name key.kind

-- The first flaw of a table: the first key that is missing or has the wrong kind; else the first name of the table
-- that is no key; else the first such name of its groups, in their order.
abbrev pub table_flaw : List Key → Members → Option (List ℕ)
table_flaw keys ms =
    option_or (option_map (λ key. path key.group key.name) (find (is_flawed ms) keys))
    (option_or (option_map (path None) (unknown_in keys None ms)) (first_some (unknown_at keys ms) keys))
