-- What a layout file says, and its first flaw.
use Rattle.std.specs.Prelude.{◌≡◌, ⊤, ℕ, ◌+◌, List, [], ◌∷◌, Bool, not, Option, Some, None, Result, Ok, Err, All, codes}
use Rattle.std.specs.Prelude.{bytes_eq, option_map, option_and_then}
use Rattle.std.specs.Option.{option_or}
use Rattle.std.specs.List.{find}
use Rattle.std.specs.Str.{IsUtf8, chars}
use Rattle.toml.specs.Data.{Data, table, Items, no_items, item, Members, get_member, as_array}
use Rattle.toml.specs.Parse.{parse_document}
use Rattle.py_layout.specs.declared.error.LayoutError.{LayoutError}
use Rattle.py_layout.specs.declared.error.LayoutError.TheVariants.{NotToml, Shape, Unsound, Clash, OutOfMemory}
use Rattle.py_fields.specs.declared.layout.Layout.{Layout}
use Rattle.py_layout.specs.Keys.{Key, the_keys}
use Rattle.py_layout.specs.Flaws.{names, table_flaw}
use Rattle.py_layout.specs.Reading.{layout_from}
use Rattle.py_fields.specs.Sound.{IsSound}
use Rattle.py_layout.specs.Lists.{AreSound, IsFirstUnsound, IsFirstClash}

-- the array of tables
abbrev pub elements_of : Members → Option Items
elements_of ms = option_and_then as_array (get_member (codes "layout") ms)

-- the first flaw of an element of the array; one that is no table is a flaw itself
abbrev pub element_flaw : List Key → Data → Option (List ℕ)
element_flaw keys (table ms) = table_flaw keys ms
element_flaw keys _ = Some (codes "layout")

-- of the elements, of which the first has this number, the first with a flaw: its number, and its first flaw
abbrev pub first_flaw : List Key → ℕ → Items → Option (ℕ × List ℕ)
first_flaw keys n no_items = None
first_flaw keys n (item d ds) = option_or (option_map (λ key. (n, key)) (element_flaw keys d))
    (first_flaw keys (n + 1) ds)

-- the first name beside `layout`
abbrev pub is_other : List ℕ → Bool
is_other name = not (bytes_eq name (codes "layout"))

-- the name of the first key at the top of the file that no layout file has
abbrev pub other_key : Members → Option (List ℕ)
other_key ms = find is_other (names ms)

-- the first flaw of a file: at its top, which counts as table 0, and then of its tables
abbrev pub flaw_among : List Key → Option (List ℕ) → Option Items → Option (ℕ × List ℕ)
flaw_among keys other None = Some (0, codes "layout")
flaw_among keys other (Some items) = option_or (option_map (λ key. (0, key)) other) (first_flaw keys 0 items)

-- the first flaw of a file: the number of its table, and the path of the key
abbrev pub file_flaw : List Key → Members → Option (ℕ × List ℕ)
file_flaw keys ms = flaw_among keys (other_key ms) (elements_of ms)

-- the layouts of the tables
abbrev pub layouts_in : Items → List Layout
layouts_in no_items = []
layouts_in (item (table ms) ds) = layout_from ms ∷ layouts_in ds
layouts_in (item _ ds) = layouts_in ds

-- the layouts of an array of tables; none where there is no array
abbrev pub layouts_among : Option Items → List Layout
layouts_among None = []
layouts_among (Some items) = layouts_in items

-- the layouts that a document holds, in order
abbrev pub layouts_of : Members → List Layout
layouts_of ms = layouts_among (elements_of ms)

-- the text is TOML, of these members
pub record IsToml (text : List ℕ) (ms : Members) : Type 0 where
  pub utf8 : IsUtf8 text
  pub document : parse_document text ≡ Some ms

-- the text is a layout file without flaw, of these layouts
pub record FileSays (text : List ℕ) (list : List Layout) : Type 0 where
  pub members : Members
  pub toml : IsToml text members
  pub whole : file_flaw the_keys members ≡ None
  pub says : list ≡ layouts_of members

-- the text is TOML, and this is its first flaw
pub record HasFlaw (text : List ℕ) (number : ℕ) (key : List ℕ) : Type 0 where
  pub members : Members
  pub toml : IsToml text members
  pub name : List ℕ
  pub flaw : file_flaw the_keys members ≡ Some (number, name)
  pub named : key ≡ chars name

-- the numbers of this table cannot be those of records, and those of none before it
pub record HasUnsound (text : List ℕ) (number : ℕ) : Type 0 where
  pub list : List Layout
  pub says : FileSays text list
  pub unsound : IsFirstUnsound list number

-- all tables are sound, and these two are the first that cover one version
pub record HasClash (text : List ℕ) (first second : ℕ) : Type 0 where
  pub list : List Layout
  pub says : FileSays text list
  pub sound : All IsSound list
  pub clash : IsFirstClash list first second

-- the text is a layout file of exactly these layouts, and they are sound together
pub record HasLayouts (text : List ℕ) (list : List Layout) : Type 0 where
  pub says : FileSays text list
  pub sound : AreSound list

-- this answer is right for the text; out of memory always is
abbrev pub IsErrorFor : List ℕ → LayoutError → Type 0
IsErrorFor text NotToml = ¬ ((ms : Members) × IsToml text ms)
IsErrorFor text (Shape number key) = HasFlaw text number key
IsErrorFor text (Unsound number) = HasUnsound text number
IsErrorFor text (Clash first second) = HasClash text first second
IsErrorFor text OutOfMemory = ⊤

-- what reading a text as a layout file has to answer
abbrev pub IsRightFor : List ℕ → Result (List Layout) LayoutError → Type 0
IsRightFor text (Ok list) = HasLayouts text list
IsRightFor text (Err error) = IsErrorFor text error

-- what the parts of the reader tell: the first flaw, where there is one, and else the layouts
abbrev pub IsShapeOf : ℕ → List ℕ → LayoutError → Type 0
IsShapeOf number name (Shape n key) = (n ≡ number) × (key ≡ chars name)
IsShapeOf number name OutOfMemory = ⊤
IsShapeOf number name _ = ⊥

-- an error that names this flaw, or out of memory
abbrev pub IsFlawIn : Option (ℕ × List ℕ) → LayoutError → Type 0
IsFlawIn flaw (Shape n key) = (name : List ℕ) × (flaw ≡ Some (n, name)) × (key ≡ chars name)
IsFlawIn flaw OutOfMemory = ⊤
IsFlawIn flaw _ = ⊥

-- an error that the text alone explains: it is no TOML, or a key is flawed; or out of memory
abbrev pub IsOfText : List ℕ → LayoutError → Type 0
IsOfText text NotToml = ¬ ((ms : Members) × IsToml text ms)
IsOfText text (Shape number key) = HasFlaw text number key
IsOfText text OutOfMemory = ⊤
IsOfText text _ = ⊥

-- the errors of parsing: the text is no TOML, or out of memory
abbrev pub IsDocumentError : List ℕ → LayoutError → Type 0
IsDocumentError text NotToml = parse_document text ≡ None
IsDocumentError text OutOfMemory = ⊤
IsDocumentError text _ = ⊥
