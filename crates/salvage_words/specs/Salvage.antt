-- The words of `pysalvage`: what clap takes for one simple command, and what they ask for.
use Rattle.std.specs.Prelude.{ℕ, ◌&&◌, Bool, true, false, nat_le, if◌then◌else◌, List, [], ◌∷◌, Option, Some, None}
use Rattle.std.specs.Prelude.{codes, bytes_eq, option_and_then, option_map}
use Rattle.clap.specs.Words.{App, Row, Rule, Text, count_of, first_of, new_app, new_rule, with_rule}
use Rattle.clap.specs.declared.builder.ArgAction.TheVariants.{Set}
use Rattle.core_words.specs.Dump.{flag_rule, image_words, images_of, images_rule, is_set, locals_rule, option_value_of}
use Rattle.core_words.specs.Dump.{rows_taken, wanted_rule}
use Rattle.core_words.specs.Words.{digits_in}
use Rattle.salvage_words.specs.declared.asked.Sections.{Sections}

-- ---- the command, as clap is told of it

-- CORE
abbrev pub core_rule : Rule
core_rule = record (new_rule (codes "core")) { action = Some Set; required = true }

-- -n N, --frames N
abbrev pub frames_rule : Rule
frames_rule = record (new_rule (codes "frames")) { short = Some 110; long = Some (codes "frames"); action = Some Set }

-- --records FILE
abbrev pub records_rule : Rule
records_rule = record (new_rule (codes "records")) { long = Some (codes "records"); action = Some Set }

-- the arguments of `pysalvage`, as clap takes them
abbrev pub salvage_app : App
salvage_app =
    with_rule (with_rule (with_rule (with_rule (with_rule (with_rule (with_rule (with_rule (with_rule (with_rule
    (with_rule (with_rule (with_rule (with_rule (with_rule (with_rule (with_rule (with_rule (with_rule
    (new_app (codes "pysalvage"))
    core_rule) (wanted_rule (codes "layouts") None)) records_rule) frames_rule) locals_rule)
    (flag_rule (codes "json") (Some 106))) (flag_rule (codes "signal") None))
    (flag_rule (codes "registers") None)) (flag_rule (codes "missing") None)) (flag_rule (codes "check-layout") None))
    (flag_rule (codes "names") None)) (flag_rule (codes "tasks") None)) (flag_rule (codes "exceptions") None))
    (flag_rule (codes "waits") None)) (flag_rule (codes "native") None)) (flag_rule (codes "strict") None))
    (flag_rule (codes "crashed") None)) (flag_rule (codes "heap") None)) images_rule

-- what clap finds, where it takes the words; it reads none of the first, which stands for the program's name
unfoldable pub taken_rows : List Text → Option (List Row)
taken_rows words = rows_taken salvage_app words

-- ---- what they ask for

-- how many frames are shown at each end, where it is 1 to 4096
abbrev pub in_limits : ℕ → Option ℕ
in_limits n = if nat_le 1 n && nat_le n 4096 then Some n else None

-- a number of frames, of 1 to 4 decimal digits, from 1 to 4096
abbrev pub limit_in : List ℕ → Option ℕ
limit_in word = option_and_then in_limits (digits_in 10 4 word)

-- the same, where it is said, and else 100
abbrev pub limit_of : Option (List ℕ) → Option ℕ
limit_of None = Some 100
limit_of (Some word) = limit_in word

-- what is left of the core of this name, by a layout file and maybe a file of records, with files under the paths at
-- which they were mapped
pub record Salvage : Type 0 where
  pub core : List ℕ
  pub layouts : List ℕ
  pub records : Option (List ℕ)
  pub limit : ℕ
  pub locals : ℕ
  pub json : Bool
  pub sections : Sections
  pub images : List (List ℕ × List ℕ)

-- each section's flag
abbrev pub sections_of : List Row → Sections
sections_of rows = record {
  signal = is_set (codes "signal") rows;
  registers = is_set (codes "registers") rows;
  missing = is_set (codes "missing") rows;
  check_layout = is_set (codes "check-layout") rows;
  names = is_set (codes "names") rows;
  tasks = is_set (codes "tasks") rows;
  exceptions = is_set (codes "exceptions") rows;
  waits = is_set (codes "waits") rows;
  native = is_set (codes "native") rows;
  strict = is_set (codes "strict") rows;
  crashed = is_set (codes "crashed") rows;
  heap = is_set (codes "heap") rows;
}

-- what some arguments ask for
abbrev pub salvage_by : List Row → ℕ → List (List ℕ × List ℕ) → Salvage
salvage_by rows limit images = record {
  core = option_value_of (codes "core") rows;
  layouts = option_value_of (codes "layouts") rows;
  records = first_of (codes "records") rows;
  limit = limit;
  locals = count_of (codes "locals") rows;
  json = is_set (codes "json") rows;
  sections = sections_of rows;
  images = images;
}

-- the same, where each image is a path and a file
abbrev pub salvage_with : List Row → ℕ → Option Salvage
salvage_with rows limit = option_map (λ images. salvage_by rows limit images) (images_of (image_words rows))

-- what is asked for by what clap found, where the number is one, and each word of an image has an equals sign
abbrev pub salvage_found : List Row → Option Salvage
salvage_found rows = option_and_then (λ limit. salvage_with rows limit) (limit_of (first_of (codes "frames") rows))

-- what the words ask for, where clap takes them
abbrev pub salvage_words : List Text → Option Salvage
salvage_words words = option_and_then salvage_found (taken_rows words)

-- what the words ask for: the help, the version, or what is left of a process
pub data Wanted : Type 0 where
  help : Wanted
  version : Wanted
  salvage : Salvage → Wanted

-- the words after the program's name are this one alone
abbrev pub is_alone : Text → List Text → Bool
is_alone word [] = false
is_alone word (name ∷ []) = false
is_alone word (name ∷ only ∷ []) = bytes_eq only word
is_alone word (name ∷ first ∷ second ∷ rest) = false

-- what the words ask for; `--help` and `--version` stand alone
abbrev pub words_asked : List Text → Option Wanted
words_asked words =
    if is_alone (codes "--help") words then Some help
    else if is_alone (codes "--version") words then Some version
    else option_map (λ s. salvage s) (salvage_words words)
