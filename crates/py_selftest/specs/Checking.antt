-- A layout beside what its process says of itself, number by number. That a number which differs makes the layout
-- another one, and which numbers have to be told, is this project's rule.
use Rattle.std.specs.Prelude.{◌≡◌, ◌≢◌, ◌⊎◌, ℕ, ◌==◌, ◌&&◌, ◌||◌, not, is_none, Bool, true, false, if◌then◌else◌}
use Rattle.std.specs.Prelude.{List, [], ◌∷◌}
use Rattle.std.specs.Prelude.{codes, map, Option, Some, None, Result, Ok, Err, Vec}
use Rattle.std.specs.Global.{Global}
use Rattle.std.specs.List.{AllByRecursion, list_any}
use Rattle.process_memory.specs.Memory.{Memory, Found, ◌>>=◌}
use Rattle.process_memory.specs.declared.memory.ReadFault.{ReadFault}
use Rattle.py_fields.specs.declared.layout.Layout.{Layout}
use Rattle.py_selftest.specs.declared.checking.KeyTold.{KeyTold}
use Rattle.py_selftest.specs.declared.checking.LayoutCheck.{LayoutCheck}
use Rattle.py_selftest.specs.declared.checking.Trust.{Trust}
use Rattle.py_selftest.specs.declared.checking.Verdict.{Verdict}
use Rattle.py_selftest.specs.declared.checking.Verdict.TheVariants.{Agrees, Differs, Doubtful, Silent, NotDescribed}
use Rattle.py_selftest.specs.declared.questions.Answer.{Answer}
use Rattle.py_selftest.specs.declared.rows.BuiltIn.TheVariants.{Metatype}
use Rattle.py_selftest.specs.declared.telling.Release.{Release}
use Rattle.py_selftest.specs.declared.telling.Telling.{Telling}
use Rattle.py_selftest.specs.declared.telling.Types.{Types}
use Rattle.py_selftest.specs.declared.trusting.Build.{Build}
use Rattle.py_selftest.specs.declared.trusting.Table.{Table}
use Rattle.py_selftest.specs.declared.walking.ThreadPlace.{ThreadPlace}
use Rattle.py_selftest.specs.Contents.{add_contents, first_contents}
use Rattle.py_selftest.specs.Keys.{key_name, number_in}
use Rattle.py_selftest.specs.Rows.{Row, the_rows}
use Rattle.py_selftest.specs.Telling.{applies, kept, member_told, row_told}
use Rattle.py_selftest.specs.Trusting.{address_if, build_of, is_described, is_doubted, other_of, own_place_at}
use Rattle.py_selftest.specs.Trusting.{table_at, trusted}
use Rattle.py_selftest.specs.Questions.{has_no_right_frame}
use Rattle.py_selftest.specs.Walking.{met_at}

-- a number of a layout, beside what the process says; one is needed where a layout is confirmed only if it is told
pub record KeyShown : Type 0 where
  pub name : List ℕ
  pub layout : Option ℕ
  pub process : Option ℕ
  pub needed : Bool

-- the same, as the code has it
abbrev pub key_shown : KeyTold → KeyShown
key_shown k = record { name = key_name k.key; layout = k.layout; process = k.process; needed = k.needed }

-- a row's number of a layout, beside what the process says of it, and whether it is needed at this version
abbrev pub key_told : Layout → Release → Row → Option ℕ → KeyShown
key_told l release row process = record {
  name = key_name row.key;
  layout = number_in l row.key;
  process = process;
  needed = applies row.needed release;
}

-- the numbers of some rows, each beside what the process says
unfoldable pub keys_from : Memory → Layout → Telling → List Row → Found (List KeyShown)
keys_from m l t [] = Ok []
keys_from m l t (row ∷ rows) = do
  process ← row_told m t row
  rest ← keys_from m l t rows
  Ok (key_told l t.release row process ∷ rest)

-- a reader's result with its numbers as they are shown
abbrev pub keys_result : Result (Vec KeyTold Global) ReadFault → Result (List KeyShown) ReadFault
keys_result (Ok keys) = Ok (map key_shown keys.items)
keys_result (Err error) = Err error

-- whether both numbers are there, and differ
abbrev pub are_other : Option ℕ → Option ℕ → Bool
are_other None process = false
are_other (Some layout) None = false
are_other (Some layout) (Some process) = not (layout == process)

-- the process says another number than the layout
abbrev pub differs : KeyShown → Bool
differs k = are_other k.layout k.process

-- it is needed and not told
abbrev pub lacks : KeyShown → Bool
lacks k = k.needed && (is_none k.layout || is_none k.process)

-- what is said of a layout of which needed numbers are not told
abbrev pub unconfirmed : Bool → Verdict
unconfirmed doubted = if doubted then Doubtful else Silent

-- what is said of a layout by its numbers, how many frames were met, and the known answers
abbrev pub verdict_of : Bool → ℕ → List Answer → List KeyShown → Verdict
verdict_of doubted frames known keys =
    if list_any differs keys then Differs
    else (if has_no_right_frame frames known then Doubtful
    else (if list_any lacks keys then unconfirmed doubted else Agrees))

-- what tells numbers before the table is read: these types, and where a type names its own type
abbrev pub untried : Types → Release → Option ℕ → Telling
untried types release own = record { types = types; own = own; table = None; release = release }

-- what tells the numbers, by what was read of `type` and of the table
abbrev pub trust_of : Types → Option ℕ → Release → Option ℕ → Option ℕ → Option Table → Trust
trust_of types runtime release own size table = record {
  telling = record {
    types = trusted types own size;
    own = own;
    table = address_if table runtime;
    release = release;
  };
  build = build_of release own table;
  other_table = other_of table;
  doubted = is_doubted own size;
}

-- what tells the numbers of a process, by its types and by the table at the runtime's address
unfoldable pub trust_at : Memory → Types → Option ℕ → Release → Found Trust
trust_at m types runtime release = do
  own ← kept (own_place_at m types.metatype)
  size ← kept (member_told m (untried types release own) Metatype (codes "__basicsize__") 8)
  table ← kept (table_at m release runtime)
  Ok (trust_of types runtime release own size table)

-- a layout, beside what the process says
pub record CheckShown : Type 0 where
  pub verdict : Verdict
  pub build : Option Build
  pub other_table : Option Release
  pub frames : ℕ
  pub known : List Answer
  pub keys : List KeyShown

-- a check of a layout, as the code has it
abbrev pub check_shown : LayoutCheck → CheckShown
check_shown c = record {
  verdict = c.verdict;
  build = c.build;
  other_table = c.other_table;
  frames = c.frames;
  known = c.known.items;
  keys = map key_shown c.keys.items;
}

-- a reader's result with the check of a layout
abbrev pub check_result : Result LayoutCheck ReadFault → Result CheckShown ReadFault
check_result (Ok check) = Ok (check_shown check)
check_result (Err error) = Err error

-- the check of a layout, by what was met in the process and the numbers that it tells
abbrev pub check_of : Trust → ℕ → List Answer → List KeyShown → CheckShown
check_of trust frames known keys = record {
  verdict = verdict_of trust.doubted frames known keys;
  build = trust.build;
  other_table = trust.other_table;
  frames = frames;
  known = known;
  keys = keys;
}

-- the same of a version of which it is known what its types tell: by the types that are known, and those that the
-- frames lead to
unfoldable pub described_at : Memory → Layout → Types → Option ℕ → Release → List ℕ → List ThreadPlace
    → Found CheckShown
described_at m l types runtime release pointers threads = do
  met ← met_at l release pointers m types threads
  contents ← first_contents l m threads
  trust ← trust_at m met.types runtime release
  keys ← keys_from m l trust.telling the_rows
  Ok (check_of trust met.frames (add_contents met.answers contents) keys)

-- the check of a version of which it is not known what its types tell: only the table's version is said
abbrev pub undescribed : Option Table → CheckShown
undescribed table = record {
  verdict = NotDescribed;
  build = None;
  other_table = other_of table;
  frames = 0;
  known = [];
  keys = [];
}

-- the same, by the table at the runtime's address
unfoldable pub undescribed_at : Memory → Option ℕ → Release → Found CheckShown
undescribed_at m runtime release = do
  table ← kept (table_at m release runtime)
  Ok (undescribed table)

-- the check of a layout, whether it is known what the version's types tell or not
abbrev pub check_if : Memory → Layout → Types → Option ℕ → Release → List ℕ → List ThreadPlace → Bool
    → Found CheckShown
check_if m l types runtime release pointers threads true = described_at m l types runtime release pointers threads
check_if m l types runtime release pointers threads false = undescribed_at m runtime release

-- a layout, beside what the process says of itself
unfoldable pub check_at : Memory → Layout → Types → Option ℕ → Release → List ℕ → List ThreadPlace → Found CheckShown
check_at m l types runtime release pointers threads =
    check_if m l types runtime release pointers threads (is_described release)

-- ---- what the answers say

-- where both are told, they are one number; and both are told where it is needed
pub record Agree (k : KeyShown) : Type 0 where
  pub same : (layout process : ℕ) → k.layout ≡ Some layout → k.process ≡ Some process → layout ≡ process
  pub told : k.needed ≡ true → (n : ℕ) × (k.layout ≡ Some n) × (k.process ≡ Some n)

-- each number agrees
abbrev pub AllAgree : List KeyShown → Type 0
AllAgree keys = AllByRecursion Agree keys

-- both are told, and they are two numbers
pub record Differ (k : KeyShown) : Type 0 where
  pub layout : ℕ
  pub process : ℕ
  pub says : k.layout ≡ Some layout
  pub tells : k.process ≡ Some process
  pub other : layout ≢ process

-- there is a number that the process says otherwise
unfoldable pub OneDiffers : List KeyShown → Type 0
OneDiffers [] = ⊥
OneDiffers (k ∷ ks) = Differ k ⊎ OneDiffers ks

-- what an answer says of each number
pub record Says (c : CheckShown) : Type 0 where
  pub agrees : c.verdict ≡ Agrees → AllAgree c.keys
  pub some_right : c.verdict ≡ Agrees → has_no_right_frame c.frames c.known ≡ false
  pub differs : c.verdict ≡ Differs → OneDiffers c.keys
