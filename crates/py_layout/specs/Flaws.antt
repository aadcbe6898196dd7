-- The first flaw of a layout's table in a file.
use Rattle.std.specs.Prelude.{List, [], ◌∷◌, ◌++◌, ℕ, Bool, true, false, ◌&&◌, not, Option, Some, None, codes, bytes_eq}
use Rattle.std.specs.Prelude.{option_map, option_and_then}
use Rattle.std.specs.Option.{option_or}
use Rattle.std.specs.List.{list_any, find}
use Rattle.toml.specs.Data.{Data, Members, no_members, member}
use Rattle.py_layout.specs.declared.families.Families.{Families}
use Rattle.py_layout.specs.declared.keys.Kind.{Kind}
use Rattle.py_layout.specs.declared.keys.Kind.TheVariants.{Group}
use Rattle.py_layout.specs.declared.keys.Presence.{Presence}
use Rattle.py_layout.specs.declared.keys.Presence.TheVariants.{Always, Free, WithOffsets, WithGil, WithCframe}
use Rattle.py_layout.specs.declared.keys.Presence.TheVariants.{WithPointer, WithState, WithDicts, WithGeneral}
use Rattle.py_layout.specs.declared.keys.Presence.TheVariants.{WithCompact, WithManaged}
use Rattle.py_fields.specs.declared.layout.Head.{Head}
use Rattle.py_fields.specs.declared.layout.Head.TheVariants as head
use Rattle.py_fields.specs.declared.layout.Lock.{Lock}
use Rattle.py_fields.specs.declared.layout.Lock.TheVariants as lock
use Rattle.py_fields.specs.declared.layout.Frames.{Frames}
use Rattle.py_fields.specs.declared.layout.Frames.TheVariants as frames
use Rattle.py_fields.specs.declared.layout.Lasti.{Lasti}
use Rattle.py_fields.specs.declared.layout.Lasti.TheVariants as lasti
use Rattle.py_fields.specs.declared.layout.Strings.{Strings}
use Rattle.py_fields.specs.declared.layout.Strings.TheVariants as strings
use Rattle.py_fields.specs.declared.layout.Dicts.{Dicts}
use Rattle.py_fields.specs.declared.layout.Dicts.TheVariants as dicts
use Rattle.py_fields.specs.declared.layout.Managed.{Managed}
use Rattle.py_fields.specs.declared.layout.Managed.TheVariants as managed
use Rattle.py_layout.specs.Keys.{Key}
use Rattle.py_layout.specs.Words.{families_of}
use Rattle.py_layout.specs.Values.{group_at, value_at, fits}

-- whether `_Py_DebugOffsets` says where the newest interpreter's address stands
abbrev pub is_offsets : Head → Bool
is_offsets head.Offsets = true
is_offsets _ = false

-- whether the interpreter's own lock record names the holder
abbrev pub is_gil : Lock → Bool
is_gil lock.Gil = true
is_gil _ = false

-- whether a thread names its newest frame by a `_PyCFrame`
abbrev pub is_cframe : Frames → Bool
is_cframe frames.Cframe = true
is_cframe _ = false

-- whether a frame has its last instruction as an address
abbrev pub is_pointer : Lasti → Bool
is_pointer lasti.Pointer = true
is_pointer _ = false

-- whether texts have a state
abbrev pub is_state : Strings → Bool
is_state strings.State = true
is_state _ = false

-- whether dicts are read
abbrev pub has_dicts : Dicts → Bool
has_dicts dicts.Absent = false
has_dicts _ = true

-- whether the keys of a dict state how many slots there are
abbrev pub is_general : Dicts → Bool
is_general dicts.General = true
is_general _ = false

-- whether the keys of a dict state the size of the index and the kind of entry
abbrev pub is_compact : Dicts → Bool
is_compact dicts.Compact = true
is_compact _ = false

-- whether objects may have a managed dict
abbrev pub has_managed : Managed → Bool
has_managed managed.Absent = false
has_managed _ = true

-- whether a key may be there
abbrev pub may_be : Families → Presence → Bool
may_be f Always = true
may_be f Free = true
may_be f WithOffsets = is_offsets f.head
may_be f WithGil = is_gil f.lock
may_be f WithCframe = is_cframe f.frames
may_be f WithPointer = is_pointer f.lasti
may_be f WithState = is_state f.strings
may_be f WithDicts = has_dicts f.dicts
may_be f WithGeneral = is_general f.dicts
may_be f WithCompact = is_compact f.dicts
may_be f WithManaged = has_managed f.managed

-- whether a key must be there: where it may, unless it is free
abbrev pub must_be : Families → Presence → Bool
must_be f Free = false
must_be f presence = may_be f presence

-- whether a key that must be there is missing, or one that may be there has the wrong kind
abbrev pub is_wrong : Families → Kind → Presence → Option Data → Bool
is_wrong f kind presence None = must_be f presence
is_wrong f kind presence (Some d) = may_be f presence && not (fits kind d)

-- whether a key of a table is missing, has the wrong kind, or stands where its condition is not met
abbrev pub is_flawed : Families → Members → Key → Bool
is_flawed f ms key = is_wrong f key.kind key.presence (value_at ms key.group key.name)

-- how a key is named: with its group and a dot, where it stands in one
abbrev pub path : Option (List ℕ) → List ℕ → List ℕ
path None name = name
path (Some group) name = group ++ (codes "." ++ name)

-- whether two keys stand in one group, or both in none
abbrev pub same_group : Option (List ℕ) → Option (List ℕ) → Bool
same_group None None = true
same_group (Some a) (Some b) = bytes_eq a b
same_group _ _ = false

-- whether the key has this group and name, and may be there
abbrev pub is_key : Families → Option (List ℕ) → List ℕ → Key → Bool
is_key f group name key = same_group key.group group && bytes_eq key.name name && may_be f key.presence

-- whether a layout has a key of this name in this group
abbrev pub is_known : Families → List Key → Option (List ℕ) → List ℕ → Bool
is_known f keys group name = list_any (is_key f group name) keys

-- the names of a table, which ascend
abbrev pub names : Members → List (List ℕ)
names no_members = []
names (member k d ms) = k ∷ names ms

-- the first name of a table, which stands for this group, that is no key
abbrev pub unknown_in : Families → List Key → Option (List ℕ) → Members → Option (List ℕ)
unknown_in f keys group ms = find (λ name. not (is_known f keys group name)) (names ms)

-- the first that f gives
abbrev pub first_some : {A B : Type 0} → (A → Option B) → List A → Option B
first_some f [] = None
first_some f (x ∷ xs) = option_or (f x) (first_some f xs)

-- where the key is that of a group, the first name there that is no key
abbrev pub unknown_by : Families → List Key → Members → List ℕ → Kind → Option (List ℕ)
unknown_by f keys ms name Group =
    option_map (path (Some name)) (option_and_then (unknown_in f keys (Some name)) (group_at ms name))
unknown_by f keys ms name _ = None

-- the first key that no layout has, at the top of a table or in the group that a key names
abbrev pub unknown_at : Families → List Key → Members → Key → Option (List ℕ)
unknown_at f keys ms key = unknown_by f keys ms key.name key.kind

-- The first flaw of a table: the first key that is missing or has the wrong kind; else the first name of the table
-- that is no key; else the first such name of its groups, in their order.
abbrev pub flaw_by : Families → List Key → Members → Option (List ℕ)
flaw_by f keys ms =
    option_or (option_map (λ key. path key.group key.name) (find (is_flawed f ms) keys))
    (option_or (option_map (path None) (unknown_in f keys None ms)) (first_some (unknown_at f keys ms) keys))

-- the path of the first flawed key of a table
unfoldable pub table_flaw : List Key → Members → Option (List ℕ)
table_flaw keys ms = flaw_by (families_of ms) keys ms
