-- Cores in groups by their stacks: what is printed of them. This project's own form.
use Rattle.std.specs.Prelude.{◌≡◌, ◌≢◌, ⊤, ℕ, ◌+◌, List, [], ◌∷◌, ◌++◌, length, get_or, map, flat_map, Result, Ok, Err}
use Rattle.std.specs.Prelude.{codes, decimal}
use Rattle.std.specs.List.{concat}
use Rattle.image_memory.specs.Images.{Pushed}
use Rattle.py_fields.specs.declared.layout.Layout.{Layout}
use Rattle.py_stacks.specs.Asking.{default_config}
use Rattle.py_process.specs.Reports.{ReportIs, reported}
use Rattle.py_process.specs.declared.core_error.CoreError.{CoreError}
use Rattle.py_process.specs.declared.core_error.CoreError.TheVariants as core
use Rattle.py_process.specs.declared.report.Report.{Report}
use Rattle.core_triage.specs.Groups.{IsGrouping, groups_of}
use Rattle.core_triage.specs.Keys.{Compared, compared_in, compared_of, same_key}
use Rattle.core_triage.specs.declared.key.StackKey.{StackKey}
use Rattle.fault_lines.specs.Lines.{core_parts}

-- a core by its name, and its report, or the cause why it has none
pub record Judged : Type 0 where
  pub name : List ℕ
  pub answer : Result Report CoreError

-- that is the report of a core of these bytes under the default configuration, or its cause, which isn't out of memory
pub record IsJudgedRight (images : Pushed) (layouts : List Layout) (bytes : List ℕ)
    (answer : Result Report CoreError) : Type 0 where
  pub right : ReportIs bytes images layouts default_config (reported answer)
  pub not_memory : answer ≢ Err core.OutOfMemory

-- so of each core, in order
abbrev pub AreJudged : Pushed → List Layout → List (List ℕ) → List Judged → Type 0
AreJudged images layouts [] [] = ⊤
AreJudged images layouts (bytes ∷ rest) (core ∷ cores) =
    IsJudgedRight images layouts bytes core.answer × AreJudged images layouts rest cores
AreJudged images layouts _ _ = ⊥

-- the name of a core that has a report, what is compared of its stacks, and the cause of one that has none
abbrev pub name_by : List ℕ → Result Report CoreError → List (List ℕ)
name_by name (Ok report) = name ∷ []
name_by name (Err error) = []

-- the stacks of a core, compared; none of one that was refused
abbrev pub stacks_by : Result Report CoreError → List (List (List Compared))
stacks_by (Ok report) = compared_of report.traces.items ∷ []
stacks_by (Err error) = []

-- a core's name with its refusal, where it was refused
abbrev pub refusal_by : List ℕ → Result Report CoreError → List (List ℕ × CoreError)
refusal_by name (Ok report) = []
refusal_by name (Err error) = (name, error) ∷ []

-- the names of the cores that have a report
abbrev pub names_in : List Judged → List (List ℕ)
names_in cores = flat_map (λ c. name_by c.name c.answer) cores

-- the stacks of the cores that have a report, compared
abbrev pub stacks_in : List Judged → List (List (List Compared))
stacks_in cores = flat_map (λ c. stacks_by c.answer) cores

-- the names of the refused cores, each with its refusal
abbrev pub refusals_in : List Judged → List (List ℕ × CoreError)
refusals_in cores = flat_map (λ c. refusal_by c.name c.answer) cores

-- ---- the text

-- the line of a core in a group
abbrev pub name_line : List ℕ → List ℕ
name_line name = concat (codes "    " ∷ name ∷ codes "\n" ∷ [])

-- the names at some places
abbrev pub name_lines : List (List ℕ) → List ℕ → List ℕ
name_lines names places = concat (map (λ place. name_line (get_or names place [])) places)

-- the text of a group: its number, how many cores it has, and their names
abbrev pub group_text : List (List ℕ) → ℕ → List ℕ → List ℕ
group_text names number places =
    concat (codes "Group " ∷ decimal number ∷ codes ": " ∷ decimal (length places) ∷ codes "\n" ∷ [])
    ++ name_lines names places

-- groups of places, numbered from this number on
abbrev pub groups_text : List (List ℕ) → ℕ → List (List ℕ) → List ℕ
groups_text names number [] = []
groups_text names number (places ∷ rest) = group_text names number places ++ groups_text names (number + 1) rest

-- the line of a refused core
abbrev pub refusal_line : List ℕ × CoreError → List ℕ
refusal_line r = concat (codes "    " ∷ r.0 ∷ codes ": " ∷ []) ++ (concat (core_parts r.1) ++ codes "\n")

-- the cores that have no report, where there are any
abbrev pub refusals_text : List (List ℕ × CoreError) → List ℕ
refusals_text [] = []
refusals_text (r ∷ rs) = concat (codes "Refused: " ∷ decimal (length (r ∷ rs)) ∷ codes "\n" ∷ [])
    ++ concat (map (λ refused. refusal_line refused) (r ∷ rs))

-- The text of some cores in groups: those that have a report, by the groups of their keys, and the others. The groups
-- that are printed are a grouping of these cores by what is compared of their stacks. A core is named by the word that
-- named it
pub record IsGroupedText (names : List (List ℕ)) (images : Pushed) (layouts : List Layout) (contents : List (List ℕ))
    (text : List ℕ) : Type 0 where
  pub cores : List Judged
  pub named : map (λ c. c.name) cores ≡ names
  pub judged : AreJudged images layouts contents cores
  pub keys : List StackKey
  pub keys_are : map compared_in keys ≡ stacks_in cores
  pub grouped : IsGrouping (λ a b. a ≡ b) (stacks_in cores) (groups_of same_key keys)
  pub text_is : text ≡ groups_text (names_in cores) 1 (groups_of same_key keys) ++ refusals_text (refusals_in cores)
