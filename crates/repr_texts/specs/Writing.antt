-- The texts of a value, in the manner of `repr` (Objects/listobject.c, Objects/tupleobject.c, Objects/dictobject.c,
-- Objects/setobject.c, Objects/rangeobject.c, Objects/sliceobject.c and their like). This project's own are: what is
-- left out has a count; a range has its step, also of 1; a cell and a method show what they hold; a value of a class
-- that derives from one of these is written as that one; and one that holds itself goes on to the last level.
use Rattle.std.specs.Prelude.{◌≡◌, ℕ, ◌==◌, ◌&&◌, Bool, true, false, if◌then◌else◌, Option, List, [], ◌∷◌, ◌++◌, codes}
use Rattle.std.specs.Prelude.{length, decimal, min, suc, ⊤}
use Rattle.std.specs.Fmt.{signed_decimal}
use Rattle.python_literals.specs.Floats.{IsComplexText, IsFloatText}
use Rattle.python_literals.specs.Integers.{integer_text}
use Rattle.py_reprs.specs.declared.repr.ItemsForm.{ItemsForm}
use Rattle.py_reprs.specs.declared.repr.ItemsForm.TheVariants as items
use Rattle.py_reprs.specs.Trees.{Tree, Trees}
use Rattle.py_reprs.specs.Trees.Tree.{Absent, Nothing, Ellipsis, NotImplemented, Truth, Integer, SmallInteger}
use Rattle.py_reprs.specs.Trees.Tree.{HugeInteger}
use Rattle.py_reprs.specs.Trees.Tree.{Float, Complex, Text, Bytes, Items, Pairs, Class, Function, Builtin, Module}
use Rattle.py_reprs.specs.Trees.Tree.{Coroutine, Opaque, Instance, Lost}
use Rattle.py_reprs.specs.Trees.Tree.{Damaged}
use Rattle.py_reprs.specs.Trees.Trees.{no_trees, tree}
use Rattle.repr_texts.specs.Coroutines.{coroutine_text}
use Rattle.repr_texts.specs.Leaves.{builtin_text, bytes_text, class_text, damaged_text, function_text, huge_text}
use Rattle.repr_texts.specs.Identifiers.{attribute_name}
use Rattle.repr_texts.specs.Leaves.{instance_opening, lost_text}
use Rattle.repr_texts.specs.Leaves.{module_text, opaque_text, suffix_of, text_text, truth_text}

-- what stands before the items of a container, between them, and behind them
abbrev pub opening : ItemsForm → List ℕ
opening items.List = codes "["
opening items.Tuple = codes "("
opening items.Set = codes "{"
opening items.FrozenSet = codes "frozenset({"
opening items.Range = codes "range("
opening items.Slice = codes "slice("
opening items.Cell = codes "<cell: "
opening items.Method = codes "<bound method "

-- what stands between the items of a container; of a method, between its function and its object
abbrev pub between : ItemsForm → List ℕ
between items.Method = codes " of "
between form = codes ", "

-- what stands behind the items of a container
abbrev pub closing : ItemsForm → List ℕ
closing items.List = codes "]"
closing items.Tuple = codes ")"
closing items.Set = codes "}"
closing items.FrozenSet = codes "})"
closing items.Range = codes ")"
closing items.Slice = codes ")"
closing items.Cell = codes ">"
closing items.Method = codes ">"

-- texts, each behind a separator
abbrev pub each_behind : List ℕ → List (List ℕ) → List ℕ
each_behind separator [] = []
each_behind separator (part ∷ parts) = separator ++ (part ++ each_behind separator parts)

-- texts with a separator between them
abbrev pub joined : List ℕ → List (List ℕ) → List ℕ
joined separator [] = []
joined separator (part ∷ parts) = part ++ each_behind separator parts

-- a separator, where one is shown already
abbrev pub between_text : List ℕ → ℕ → List ℕ
between_text separator shown = if shown == 0 then [] else separator

-- how many more there are; a separator stands before it where something is shown
abbrev pub more_text : List ℕ → ℕ → ℕ → List ℕ
more_text separator shown left_out =
    if left_out == 0 then []
    else between_text separator shown ++ (codes ".. " ++ (decimal left_out ++ codes " more"))

-- one item alone, with none left out, has a comma behind it in a tuple
abbrev pub comma_text : ItemsForm → ℕ → ℕ → List ℕ
comma_text items.Tuple shown left_out = if shown == 1 && left_out == 0 then codes "," else []
comma_text form shown left_out = []

-- what stands between a container's brackets: its items, how many more there are, and the comma of a tuple of one
abbrev pub within_text : ItemsForm → List (List ℕ) → ℕ → List ℕ
within_text form parts left_out = joined (between form) parts
    ++ (more_text (between form) (length parts) left_out ++ comma_text form (length parts) left_out)

-- a container by the texts of its items, with what stands before and behind them
abbrev pub full_text : ItemsForm → List (List ℕ) → ℕ → List ℕ
full_text form parts left_out = opening form ++ (within_text form parts left_out ++ closing form)

-- an empty set has no braces, but a word of its own
abbrev pub is_set : ItemsForm → Bool
is_set items.Set = true
is_set items.FrozenSet = true
is_set form = false

-- whether a container is a set without items
abbrev pub is_empty_set : ItemsForm → ℕ → ℕ → Bool
is_empty_set form shown left_out = is_set form && (shown == 0 && left_out == 0)

-- the word for an empty set: `set()` or `frozenset()`
abbrev pub empty_text : ItemsForm → List ℕ
empty_text items.FrozenSet = codes "frozenset()"
empty_text form = codes "set()"

-- a container by the texts of its items; an empty set by its own word
unfoldable pub items_text : ItemsForm → List (List ℕ) → ℕ → List ℕ
items_text form parts left_out =
    if is_empty_set form (length parts) left_out then empty_text form else full_text form parts left_out

-- a key and its value
abbrev pub pair_text : List ℕ → List ℕ → List ℕ
pair_text key value = key ++ (codes ": " ++ value)

-- a dict by the texts of its pairs, and how many more there are
abbrev pub pairs_text : List (List ℕ) → ℕ → List ℕ
pairs_text parts left_out =
    codes "{" ++ (joined (codes ", ") parts ++ (more_text (codes ", ") (length parts) left_out ++ codes "}"))

-- how many trees there are
abbrev pub count : Trees → ℕ
count no_trees = 0
count (tree first rest) = suc (count rest)

-- keys and values side by side
abbrev pub pairs_of : List (List ℕ) → List (List ℕ) → List (List ℕ)
pairs_of [] values = []
pairs_of (key ∷ keys) [] = []
pairs_of (key ∷ keys) (value ∷ values) = pair_text key value ∷ pairs_of keys values

-- an attribute by the text of its name and that of its value
abbrev pub attribute_text : List ℕ → List ℕ → List ℕ
attribute_text name value = attribute_name name ++ (codes "=" ++ value)

-- names and values side by side
abbrev pub attributes_of : List (List ℕ) → List (List ℕ) → List (List ℕ)
attributes_of [] values = []
attributes_of (name ∷ names) [] = []
attributes_of (name ∷ names) (value ∷ values) = attribute_text name value ∷ attributes_of names values

-- an instance by its class, its address and the texts of its attributes, and how many more there are
abbrev pub instance_text : Option (List ℕ) → ℕ → List (List ℕ) → ℕ → List ℕ
instance_text class addr parts left_out = instance_opening class addr
    ++ (joined (codes ", ") parts ++ (more_text (codes ", ") (length parts) left_out ++ codes ">"))

unfoldable mutual
  -- a text of a value
  pub Writes : Tree → List ℕ → Type 0
  Writes Absent t = t ≡ codes "empty"
  Writes Nothing t = t ≡ codes "None"
  Writes Ellipsis t = t ≡ codes "Ellipsis"
  Writes NotImplemented t = t ≡ codes "NotImplemented"
  Writes (Truth truth) t = t ≡ truth_text truth
  Writes (Integer form is_negative digits) t = t ≡ integer_text is_negative digits ++ suffix_of form
  Writes (SmallInteger z) t = t ≡ signed_decimal z
  Writes (HugeInteger form is_negative digits highest) t = t ≡ huge_text is_negative digits
  Writes (Float bits) t = IsFloatText bits t
  Writes (Complex real imaginary) t = IsComplexText real imaginary t
  Writes (Text form front length) t = t ≡ text_text form front length
  Writes (Bytes form front length) t = t ≡ bytes_text form front length
  Writes (Items form trees left_out) t = (parts : List (List ℕ)) × WriteFirst trees parts × (length parts ≡ count trees)
      × (t ≡ items_text form parts left_out)
  Writes (Pairs keys values left_out) t = (ks vs : List (List ℕ)) × WriteFirst keys ks × WriteFirst values vs
      × (length ks ≡ min (count keys) (count values)) × (length vs ≡ min (count keys) (count values))
      × (t ≡ pairs_text (pairs_of ks vs) left_out)
  Writes (Class name addr) t = t ≡ class_text name
  Writes (Function name file line addr) t = t ≡ function_text name file line addr
  Writes (Builtin name addr) t = t ≡ builtin_text name
  Writes (Module name addr) t = t ≡ module_text name
  Writes (Coroutine form name state addr) t = t ≡ coroutine_text form name state addr
  Writes (Opaque class addr) t = t ≡ opaque_text class addr
  Writes (Instance class addr names values left_out) t = (ns vs : List (List ℕ)) × WriteFirst names ns
      × WriteFirst values vs × (length ns ≡ min (count names) (count values))
      × (length vs ≡ min (count names) (count values))
      × (t ≡ instance_text class addr (attributes_of ns vs) left_out)
  Writes (Lost kind addr len) t = t ≡ lost_text kind addr len
  Writes (Damaged kind addr) t = t ≡ damaged_text kind addr

  -- texts of the first of some values, one for each
  pub WriteFirst : Trees → List (List ℕ) → Type 0
  WriteFirst no_trees parts = parts ≡ []
  WriteFirst (tree first rest) [] = ⊤
  WriteFirst (tree first rest) (part ∷ parts) = Writes first part × WriteFirst rest parts

-- a text is added that is one of the value's
abbrev pub Adds : (List ℕ → Type 0) → List ℕ → List ℕ → Type 0
Adds allowed old new = (t : List ℕ) × (new ≡ old ++ t) × allowed t

-- texts of values are added, with what stands between them
pub record AddsJoined (separator : List ℕ) (trees : Trees) (old new : List ℕ) : Type 0 where
  pub parts : List (List ℕ)
  pub each : WriteFirst trees parts
  pub all : length parts ≡ count trees
  pub is : new ≡ old ++ joined separator parts

-- a container is added, by texts of its items
pub record AddsFull (form : ItemsForm) (left_out : ℕ) (trees : Trees) (old new : List ℕ) : Type 0 where
  pub parts : List (List ℕ)
  pub each : WriteFirst trees parts
  pub all : length parts ≡ count trees
  pub is : new ≡ old ++ full_text form parts left_out

-- a container, or the word for an empty set, is added, by texts of its items
pub record AddsItems (form : ItemsForm) (left_out : ℕ) (trees : Trees) (old new : List ℕ) : Type 0 where
  pub parts : List (List ℕ)
  pub each : WriteFirst trees parts
  pub all : length parts ≡ count trees
  pub is : new ≡ old ++ items_text form parts left_out

-- a dict is added
abbrev pub AddsDict : Tree → List ℕ → List ℕ → Type 0
AddsDict (Pairs keys values left_out) old new = Adds (Writes (Pairs keys values left_out)) old new
AddsDict other old new = ⊤

-- an instance is added
abbrev pub AddsInstance : Tree → List ℕ → List ℕ → Type 0
AddsInstance (Instance class addr names values left_out) old new =
    Adds (Writes (Instance class addr names values left_out)) old new
AddsInstance other old new = ⊤
