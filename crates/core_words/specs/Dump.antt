-- The words of a report: what clap takes for one simple command, and what they ask for.
use Rattle.std.specs.Prelude.{ℕ, ◌-◌, ◌^◌, ◌&&◌, Bool, true, false, nat_lt, nat_eq, if◌then◌else◌, List, [], ◌∷◌}
use Rattle.std.specs.Prelude.{length, map, Option, Some, None, codes, bytes_eq, option_and_then, option_map, unwrap_or}
use Rattle.std.specs.List.{list_all, position_or_len, starts_with, before_first, after_first}
use Rattle.std.specs.Option.{option_map_or}
use Rattle.clap.specs.Words.{App, Kinds, Row, Rule, Text, all_of, count_of, fault_of, first_of, matches_of, new_app}
use Rattle.clap.specs.Words.{new_rule, with_rule}
use Rattle.clap.specs.declared.builder.ArgAction.TheVariants.{Set, Append, SetTrue, Count}
use Rattle.py_stacks.specs.Asking.{default_config}
use Rattle.py_stacks.specs.declared.config.Config.{Config}

-- ---- the command, as clap is told of it

-- an option with one value that must be given
abbrev pub wanted_rule : Text → Option ℕ → Rule
wanted_rule name short = record (new_rule name) { short = short; long = Some name; action = Some Set; required = true }

-- -c CORE, --core CORE
abbrev pub core_rule : Rule
core_rule = wanted_rule (codes "core") (Some 99)

-- --layouts FILE
abbrev pub layouts_rule : Rule
layouts_rule = wanted_rule (codes "layouts") None

-- -l, --locals: how often it is given counts
abbrev pub locals_rule : Rule
locals_rule = record (new_rule (codes "locals")) { short = Some 108; long = Some (codes "locals"); action = Some Count }

-- a flag
abbrev pub flag_rule : Text → Option ℕ → Rule
flag_rule name short = record (new_rule name) { short = short; long = Some name; action = Some SetTrue }

-- PATH=FILE, none or more
abbrev pub images_rule : Rule
images_rule = record (new_rule (codes "images")) {
  range = Some (record { start_inclusive = 0; end_inclusive = 2 ^ 64 - 1 });
  action = Some Append;
}

-- the arguments of `dump`, as clap takes them
abbrev pub dump_app : App
dump_app = with_rule (with_rule (with_rule (with_rule (with_rule (with_rule (with_rule (with_rule
    (new_app (codes "dump")) core_rule) layouts_rule) locals_rule) (flag_rule (codes "json") (Some 106)))
    (flag_rule (codes "full-filenames") None)) (flag_rule (codes "native") (Some 110)))
    (flag_rule (codes "subprocesses") (Some 115))) images_rule

-- what clap finds for each argument, where it has no fault for the words
abbrev pub rows_without : Kinds → List Row → Option (List Row)
rows_without [] rows = Some rows
rows_without (kind ∷ kinds) rows = None

-- what clap finds in words for a command, where it takes them; it reads none of the first, which stands for a program's
-- name
unfoldable pub rows_taken : App → List Text → Option (List Row)
rows_taken app words = rows_without (fault_of app words) (matches_of app words)

-- what clap takes of the words of `dump`
unfoldable pub taken_rows : List Text → Option (List Row)
taken_rows words = rows_taken dump_app words

-- ---- what they ask for

-- whether a character is `=`
abbrev pub is_equals : ℕ → Bool
is_equals c = nat_eq c 61

-- a word of an image has an equals sign: the path stands before the first one, the file's name behind it
abbrev pub is_image : List ℕ → Bool
is_image word = nat_lt (position_or_len is_equals word) (length word)

-- an image's path and the name of its file, before and behind the first `=`
abbrev pub image_of : List ℕ → List ℕ × List ℕ
image_of word = (before_first is_equals word, after_first is_equals word)

-- the path and the file's name, of an image's word
abbrev pub split_image : List ℕ → Option (List ℕ × List ℕ)
split_image word = if is_image word then Some (image_of word) else None

-- the images of words, where each is an image's
abbrev pub images_of : List (List ℕ) → Option (List (List ℕ × List ℕ))
images_of words = if list_all is_image words then Some (map image_of words) else None

-- the words of images
abbrev pub image_words : List Row → List (List ℕ)
image_words rows = unwrap_or (all_of (codes "images") rows) []

-- clap gives a flag the value `true` where it was given, and `false` else
abbrev pub is_set : List ℕ → List Row → Bool
is_set name rows = option_map_or (λ value. bytes_eq value (codes "true")) (first_of name rows) false

-- the value of an option; clap takes no words without those that must be given
abbrev pub option_value_of : List ℕ → List Row → List ℕ
option_value_of name rows = unwrap_or (first_of name rows) []

-- what the flags of `dump` ask for
abbrev pub config_of : List Row → Config
config_of rows = record default_config {
  native = is_set (codes "native") rows;
  subprocesses = is_set (codes "subprocesses") rows;
  dump_json = is_set (codes "json") rows;
  dump_locals = count_of (codes "locals") rows;
  full_filenames = is_set (codes "full-filenames") rows;
}

-- the report of the core of this name, by a layout file, with files under the paths at which they were mapped
pub record Dump : Type 0 where
  pub config : Config
  pub core : List ℕ
  pub layouts : List ℕ
  pub images : List (List ℕ × List ℕ)

-- the command that some arguments of `dump` ask for
abbrev pub dump_by : List Row → List (List ℕ × List ℕ) → Dump
dump_by rows images = record {
  config = config_of rows;
  core = option_value_of (codes "core") rows;
  layouts = option_value_of (codes "layouts") rows;
  images = images;
}

-- what is asked for by what clap found, where each word of an image has an equals sign
abbrev pub dump_found : List Row → Option Dump
dump_found rows = option_map (λ images. dump_by rows images) (images_of (image_words rows))

-- `dump`, or a front of it
abbrev pub is_dump_name : List ℕ → Bool
is_dump_name name = nat_lt 0 (length name) && starts_with nat_eq (codes "dump") name

-- whether the first word is `dump`
abbrev pub is_dump : List (List ℕ) → Bool
is_dump [] = false
is_dump (name ∷ words) = is_dump_name name

-- the name of the command, and then words that clap takes
abbrev pub dump_words : List (List ℕ) → Option Dump
dump_words words = if is_dump words then option_and_then dump_found (taken_rows words) else None
