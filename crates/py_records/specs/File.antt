-- What a file of records says, and its first flaw. This project's own form of such a file.
use Rattle.std.specs.Prelude.{◌≡◌, ⊤, ℕ, ◌+◌, List, [], ◌∷◌, Bool, not, Option, Some, None, Result, Ok, Err, All, codes}
use Rattle.std.specs.Prelude.{bytes_eq, option_map, option_and_then}
use Rattle.std.specs.Option.{option_or}
use Rattle.std.specs.List.{find}
use Rattle.std.specs.Str.{IsUtf8, chars}
use Rattle.toml.specs.Data.{Data, table, Items, no_items, item, Members, get_member, as_array}
use Rattle.toml.specs.Parse.{parse_document}
use Rattle.py_records.specs.declared.error.RecordsError.{RecordsError}
use Rattle.py_records.specs.declared.error.RecordsError.TheVariants.{NotToml, Shape, Unsound, Clash, OutOfMemory}
use Rattle.py_records.specs.declared.table.RecordTable.{RecordTable}
use Rattle.py_records.specs.Keys.{Key, the_keys}
use Rattle.py_layout.specs.Flaws.{names}
use Rattle.py_records.specs.Flaws.{table_flaw}
use Rattle.py_records.specs.Table.{IsSoundTable, table_from}
use Rattle.py_records.specs.Lists.{AreSound, IsFirstUnsound, IsFirstClash}

-- the array of tables
abbrev pub elements_of : Members → Option Items
elements_of ms = option_and_then as_array (get_member (codes "records") ms)

-- the first flaw of an element of the array; one that is no table is a flaw itself
abbrev pub element_flaw : List Key → Data → Option (List ℕ)
element_flaw keys (table ms) = table_flaw keys ms
element_flaw keys _ = Some (codes "records")

-- of the elements, of which the first has this number, the first with a flaw: its number, and its first flaw
abbrev pub first_flaw : List Key → ℕ → Items → Option (ℕ × List ℕ)
first_flaw keys n no_items = None
first_flaw keys n (item d ds) = option_or (option_map (λ key. (n, key)) (element_flaw keys d))
    (first_flaw keys (n + 1) ds)

-- the first name beside `records`
abbrev pub is_other : List ℕ → Bool
is_other name = not (bytes_eq name (codes "records"))

-- the first key at the top of the file that isn't `records`
abbrev pub other_key : Members → Option (List ℕ)
other_key ms = find is_other (names ms)

-- the first flaw of a file: at its top, which counts as table 0, and then of its tables
abbrev pub flaw_among : List Key → Option (List ℕ) → Option Items → Option (ℕ × List ℕ)
flaw_among keys other None = Some (0, codes "records")
flaw_among keys other (Some items) = option_or (option_map (λ key. (0, key)) other) (first_flaw keys 0 items)

-- the first flaw of a file: the number of its table, counted from 0, and the path of the key
abbrev pub file_flaw : List Key → Members → Option (ℕ × List ℕ)
file_flaw keys ms = flaw_among keys (other_key ms) (elements_of ms)

-- the tables of records that the elements say
abbrev pub tables_in : Items → List RecordTable
tables_in no_items = []
tables_in (item (table ms) ds) = table_from ms ∷ tables_in ds
tables_in (item _ ds) = tables_in ds

-- the tables of records of an array; none where there is no array
abbrev pub tables_among : Option Items → List RecordTable
tables_among None = []
tables_among (Some items) = tables_in items

-- the tables of records that a document holds, in order
abbrev pub tables_of : Members → List RecordTable
tables_of ms = tables_among (elements_of ms)

-- the text is TOML, of these members
pub record IsToml (text : List ℕ) (ms : Members) : Type 0 where
  pub utf8 : IsUtf8 text
  pub document : parse_document text ≡ Some ms

-- the text is a file of records without flaw, of these tables
pub record FileSays (text : List ℕ) (list : List RecordTable) : Type 0 where
  pub members : Members
  pub toml : IsToml text members
  pub whole : file_flaw the_keys members ≡ None
  pub says : list ≡ tables_of members

-- the text is TOML, and this is its first flaw
pub record HasFlaw (text : List ℕ) (number : ℕ) (key : List ℕ) : Type 0 where
  pub members : Members
  pub toml : IsToml text members
  pub name : List ℕ
  pub flaw : file_flaw the_keys members ≡ Some (number, name)
  pub named : key ≡ chars name

-- the text is a file without flaw, and of its tables this one, counted from 0, is the first that isn't sound
pub record HasUnsound (text : List ℕ) (number : ℕ) : Type 0 where
  pub list : List RecordTable
  pub says : FileSays text list
  pub unsound : IsFirstUnsound list number

-- the text is a file of sound tables, and these two are the first that have one group for one version
pub record HasClash (text : List ℕ) (first second : ℕ) : Type 0 where
  pub list : List RecordTable
  pub says : FileSays text list
  pub sound : All IsSoundTable list
  pub clash : IsFirstClash list first second

-- the text is a file of exactly these tables of records, and they are sound together
pub record HasTables (text : List ℕ) (list : List RecordTable) : Type 0 where
  pub says : FileSays text list
  pub sound : AreSound list

-- this answer is right for the text; out of memory always is
abbrev pub IsErrorFor : List ℕ → RecordsError → Type 0
IsErrorFor text NotToml = ¬ ((ms : Members) × IsToml text ms)
IsErrorFor text (Shape number key) = HasFlaw text number key
IsErrorFor text (Unsound number) = HasUnsound text number
IsErrorFor text (Clash first second) = HasClash text first second
IsErrorFor text OutOfMemory = ⊤

-- what reading a text as a file of records has to answer
abbrev pub IsRightFor : List ℕ → Result (List RecordTable) RecordsError → Type 0
IsRightFor text (Ok list) = HasTables text list
IsRightFor text (Err error) = IsErrorFor text error

-- the error that names this flaw, or out of memory
abbrev pub IsShapeOf : ℕ → List ℕ → RecordsError → Type 0
IsShapeOf number name (Shape n key) = (n ≡ number) × (key ≡ chars name)
IsShapeOf number name OutOfMemory = ⊤
IsShapeOf number name _ = ⊥

-- an error that names this flaw, or out of memory
abbrev pub IsFlawIn : Option (ℕ × List ℕ) → RecordsError → Type 0
IsFlawIn flaw (Shape n key) = (name : List ℕ) × (flaw ≡ Some (n, name)) × (key ≡ chars name)
IsFlawIn flaw OutOfMemory = ⊤
IsFlawIn flaw _ = ⊥

-- an error that the text alone explains: it is no TOML, or a key is flawed; or out of memory
abbrev pub IsOfText : List ℕ → RecordsError → Type 0
IsOfText text NotToml = ¬ ((ms : Members) × IsToml text ms)
IsOfText text (Shape number key) = HasFlaw text number key
IsOfText text OutOfMemory = ⊤
IsOfText text _ = ⊥

-- the errors of parsing: the text is no TOML, or out of memory
abbrev pub IsDocumentError : List ℕ → RecordsError → Type 0
IsDocumentError text NotToml = parse_document text ≡ None
IsDocumentError text OutOfMemory = ⊤
IsDocumentError text _ = ⊥
