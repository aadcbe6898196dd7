-- The keys of a layout in a file, in the order in which they are looked at.
use Rattle.std.specs.Prelude.{ℕ, List, [], ◌∷◌, ◌++◌, Option, Some, None, map, option_map, codes}
use Rattle.py_layout.specs.declared.keys.Family.TheVariants.{Head, Lock, Frames, Lasti, Lines, Strings, Integers, Dicts}
use Rattle.py_layout.specs.declared.keys.Family.TheVariants.{Managed}
use Rattle.py_layout.specs.declared.keys.Kind.{Kind}
use Rattle.py_layout.specs.declared.keys.Kind.TheVariants.{Version, Truth, Word, Number, Group}
use Rattle.py_layout.specs.declared.keys.Presence.{Presence}
use Rattle.py_layout.specs.declared.keys.Presence.TheVariants.{Always, Free, WithOffsets, WithGil, WithCframe}
use Rattle.py_layout.specs.declared.keys.Presence.TheVariants.{WithPointer, WithState, WithDicts, WithGeneral}
use Rattle.py_layout.specs.declared.keys.Presence.TheVariants.{WithCompact, WithManaged}
use Rattle.py_layout.specs.declared.keys.Key as code

-- a key: the group that it stands in, or None for the layout's own table; its name; what it holds; and when it is there
pub record Key : Type 0 where
  pub group : Option (List ℕ)
  pub name : List ℕ
  pub kind : Kind
  pub presence : Presence

-- the key, as the code has it
abbrev pub key_of : code.Key → Key
key_of k = record { group = option_map (λ g. g.now) k.group; name = k.name.now; kind = k.kind; presence = k.presence }

-- a key of the layout's own table, which is always there
abbrev pub own : List ℕ → Kind → Key
own name kind = record { group = None; name = name; kind = kind; presence = Always }

-- a group, and the numbers in it
abbrev pub group : List ℕ → Presence → List (List ℕ × Presence) → List Key
group name presence numbers =
    record { group = None; name = name; kind = Group; presence = presence }
    ∷ map (λ n. record { group = Some name; name = n.0; kind = Number; presence = n.1 }) numbers

-- the keys of a layout that stand in no group, in the order in which they are looked at
abbrev pub own_keys : List Key
own_keys =
    own (codes "major") Version
    ∷ own (codes "first_minor") Version
    ∷ own (codes "last_minor") Version
    ∷ own (codes "bytes_text") Truth
    ∷ own (codes "head") (Word Head)
    ∷ own (codes "lock") (Word Lock)
    ∷ own (codes "frames") (Word Frames)
    ∷ own (codes "lasti") (Word Lasti)
    ∷ own (codes "lines") (Word Lines)
    ∷ own (codes "strings") (Word Strings)
    ∷ own (codes "integers") (Word Integers)
    ∷ own (codes "dicts") (Word Dicts)
    ∷ own (codes "managed") (Word Managed)
    ∷ []

-- all keys of a layout, in the order in which they are looked at
unfoldable pub the_keys : List Key
the_keys = own_keys
    ++ (group (codes "interpreter") Always ((codes "threads", Always) ∷ (codes "modules", Always)
    ∷ (codes "gil", WithGil) ∷ [])
    ++ (group (codes "thread") Always ((codes "size", Always) ∷ (codes "next", Always) ∷ (codes "interp", Always)
    ∷ (codes "id", Always) ∷ (codes "frame", Always) ∷ (codes "native_id", Free) ∷ [])
    ++ (group (codes "cframe") WithCframe ((codes "current", WithCframe) ∷ [])
    ++ (group (codes "frame") Always ((codes "size", Always) ∷ (codes "code", Always) ∷ (codes "back", Always)
    ∷ (codes "instr", Always) ∷ (codes "entry", Free) ∷ (codes "locals", Always)
    ∷ (codes "code_tag_bits", Always) ∷ [])
    ++ (group (codes "code") Always ((codes "size", Always) ∷ (codes "argcount", Always) ∷ (codes "nlocals", Always)
    ∷ (codes "first_line", Always) ∷ (codes "filename", Always) ∷ (codes "name", Always)
    ∷ (codes "table", Always) ∷ (codes "varnames", Always) ∷ (codes "start", WithPointer) ∷ [])
    ++ (group (codes "string") Always ((codes "size", Always) ∷ (codes "length", Always) ∷ (codes "state", WithState)
    ∷ (codes "pointer", WithState) ∷ (codes "short_at", Always) ∷ (codes "long_at", WithState)
    ∷ (codes "kind_shift", WithState) ∷ (codes "compact_bit", WithState) ∷ (codes "ascii_bit", WithState) ∷ [])
    ++ (group (codes "bytes") Always ((codes "size", Always) ∷ (codes "length", Always) ∷ (codes "at", Always) ∷ [])
    ++ (group (codes "tuple") Always ((codes "size", Always) ∷ (codes "count", Always) ∷ (codes "at", Always) ∷ [])
    ++ (group (codes "list") Always ((codes "size", Always) ∷ (codes "count", Always) ∷ (codes "items", Always) ∷ [])
    ++ (group (codes "object") Always ((codes "size", Always) ∷ (codes "klass", Always) ∷ [])
    ++ (group (codes "klass") Always ((codes "size", Always) ∷ (codes "name", Always) ∷ (codes "flags", Always)
    ∷ (codes "dict_offset", Always) ∷ [])
    ++ (group (codes "long") Always ((codes "size", Always) ∷ (codes "count", Always) ∷ (codes "digits", Always) ∷ [])
    ++ (group (codes "small") Always ((codes "size", Always) ∷ (codes "value", Always) ∷ [])
    ++ (group (codes "float") Always ((codes "size", Always) ∷ (codes "value", Always) ∷ [])
    ++ (group (codes "dict") WithDicts ((codes "size", WithDicts) ∷ (codes "keys", WithDicts)
    ∷ (codes "values", WithDicts) ∷ [])
    ++ (group (codes "keys") WithDicts ((codes "size", WithDicts) ∷ (codes "used", WithDicts)
    ∷ (codes "slots", WithGeneral) ∷ (codes "log2", WithCompact) ∷ (codes "kind", WithCompact) ∷ [])
    ++ (group (codes "heap") WithManaged ((codes "size", WithManaged) ∷ (codes "cached_keys", WithManaged)
    ∷ (codes "inline", WithManaged) ∷ [])
    ++ (group (codes "gil") WithGil ((codes "size", WithGil) ∷ (codes "locked", WithGil) ∷ (codes "holder", WithGil)
    ∷ [])
    ++ (group (codes "offsets") WithOffsets ((codes "size", WithOffsets) ∷ (codes "head", WithOffsets)
    ∷ []))))))))))))))))))))
