-- The words of a command line, as lists of bytes, and what they ask for.
use Rattle.std.specs.Prelude.{ℕ, ◌≤◌, ⊤, ◌^◌, ◌&&◌, Bool, true, false, nat_lt, nat_le, nat_eq, if◌then◌else◌, List, []}
use Rattle.std.specs.Prelude.{◌∷◌, ◌++◌, length, take, drop, map, Option, Some, None, option_and_then, option_map}
use Rattle.std.specs.Prelude.{bytes_eq, codes, string_bytes, String}
use Rattle.std.specs.List.{list_all, position_or_len, starts_with, before_first, after_first}
use Rattle.std.specs.Char.{digit_value}
use Rattle.std.specs.Str.Parse.{digits_value}
use Rattle.std.specs.Global.{Global}
use Rattle.py_fields.specs.Version.{is_dot, release}
use Rattle.py_fields.specs.declared.version.Version.{Version}
use Rattle.py_stacks.specs.declared.trace.Addresses.{Addresses}
use Rattle.core_words.specs.Dump.{Dump, dump_words, images_of, is_image}

-- one digit or more of the radix, at most so many, of a number below 2 ^ 64
abbrev pub is_numeral : ℕ → ℕ → List ℕ → Bool
is_numeral radix most ds = nat_lt 0 (length ds) && (nat_le (length ds) most
    && (list_all (λ c. nat_lt (digit_value c) radix) ds && nat_lt (digits_value radix ds) (2 ^ 64)))

-- the number of digits in a radix, where they are such and below a bound
abbrev pub digits_in : ℕ → ℕ → List ℕ → Option ℕ
digits_in radix most ds = if is_numeral radix most ds then Some (digits_value radix ds) else None

-- 1 to 20 decimal digits, or 0x and 1 to 16 hexadecimal digits of either case
abbrev pub word_number : List ℕ → Option ℕ
word_number word = if starts_with nat_eq word (codes "0x") then digits_in 16 16 (drop 2 word) else digits_in 10 20 word

-- the version of three numbers, where all three are there
abbrev pub release_by : Option ℕ → Option ℕ → Option ℕ → Option Version
release_by (Some major) (Some minor) (Some patch) = Some (release major minor patch)
release_by _ _ _ = None

-- the parts round the first dot
abbrev pub split_at_dot : List ℕ → Option (List ℕ × List ℕ)
split_at_dot word = if nat_lt (position_or_len is_dot word) (length word)
    then Some (before_first is_dot word, after_first is_dot word) else None

-- three runs of 1 to 3 decimal digits joined by dots
abbrev pub release_of : List ℕ → Option Version
release_of word = option_and_then (λ front. option_and_then (λ back.
    release_by (digits_in 10 3 front.0) (digits_in 10 3 back.0) (digits_in 10 3 back.1))
    (split_at_dot front.1)) (split_at_dot word)

-- where the layouts come from: the sample, or the file of this name
pub data LayoutSource : Type 0 where
  sample : LayoutSource
  file : List ℕ → LayoutSource

-- the layout file of a word; `sample` is the sample
abbrev pub source_of : List ℕ → LayoutSource
source_of word = if bytes_eq word (codes "sample") then sample else file word

-- a walk over the core of this name, from these addresses of an interpreter and its lock
pub record Walk : Type 0 where
  pub core : List ℕ
  pub layouts : LayoutSource
  pub version : Version
  pub addresses : Addresses

-- the cores of these names in groups by their stacks, by a layout file, with files under the paths at which they were
-- mapped
pub record Triage : Type 0 where
  pub layouts : List ℕ
  pub cores : List (List ℕ)
  pub images : List (List ℕ × List ℕ)

-- what the locals of a thread of a core lead to, by a layout file and images so; threads are counted from 0 on
pub record Reach : Type 0 where
  pub core : List ℕ
  pub layouts : List ℕ
  pub index : ℕ
  pub images : List (List ℕ × List ℕ)

-- a thread of a core merged with the native addresses of a file, by a layout file and images so
pub record Merge : Type 0 where
  pub core : List ℕ
  pub layouts : List ℕ
  pub index : ℕ
  pub addresses : List ℕ
  pub images : List (List ℕ × List ℕ)

-- where the interpreter of the process of a core and its lock are, by a layout file and images so
pub record Locate : Type 0 where
  pub core : List ℕ
  pub layouts : List ℕ
  pub images : List (List ℕ × List ℕ)

-- a core of what the stacks of another one need, with so much of the locals' values, by a layout file and images so
pub record Slim : Type 0 where
  pub core : List ℕ
  pub layouts : List ℕ
  pub level : ℕ
  pub images : List (List ℕ × List ℕ)

-- a program that is made up of a number: how much its report shows, or its core
pub record Sample : Type 0 where
  pub seed : ℕ
  pub core : Bool

-- what words ask for
pub data Command : Type 0 where
  walk : Walk → Command
  dump : Dump → Command
  triage : Triage → Command
  reach : Reach → Command
  merge : Merge → Command
  locate : Locate → Command
  slim : Slim → Command
  seeded : Sample → Command

-- a walk of these parts, where all are there
abbrev pub walk_by : List ℕ → LayoutSource → Option Version → Option ℕ → Option ℕ → Option Walk
walk_by core layouts (Some version) (Some interp) (Some lock) = Some (record {
  core = core;
  layouts = layouts;
  version = version;
  addresses = record { interpreter = interp; lock = lock };
})
walk_by core layouts _ _ _ = None

-- CORE LAYOUTS VERSION INTERP LOCK
abbrev pub walk_words : List (List ℕ) → Option Walk
walk_words (core ∷ layouts ∷ version ∷ interp ∷ lock ∷ []) =
    walk_by core (source_of layouts) (release_of version) (word_number interp) (word_number lock)
walk_words _ = None

-- of these layouts, with so many words of cores, 1 to 4096, and then those of images
abbrev pub triage_by : List ℕ → ℕ → List (List ℕ) → Option Triage
triage_by layouts count words = if nat_lt 0 count && nat_le count 4096
    then option_map (λ images. record { layouts = layouts; cores = take count words; images = images })
    (images_of (drop count words))
    else None

-- LAYOUTS CORE.. [PATH=FILE]..: the cores are the words before the first with an equals sign
abbrev pub triage_words : List (List ℕ) → Option Triage
triage_words [] = None
triage_words (layouts ∷ words) = triage_by layouts (position_or_len is_image words) words

-- the arguments of `reach`, where its index is a number and each image a path and a file
abbrev pub reach_by : List ℕ → List ℕ → Option ℕ → List (List ℕ) → Option Reach
reach_by core layouts None words = None
reach_by core layouts (Some index) words =
    option_map (λ images. record { core = core; layouts = layouts; index = index; images = images }) (images_of words)

-- CORE LAYOUTS INDEX [PATH=FILE]..
abbrev pub reach_words : List (List ℕ) → Option Reach
reach_words (core ∷ layouts ∷ index ∷ words) = reach_by core layouts (word_number index) words
reach_words _ = None

-- the arguments of `merge`, where its index is a number and each image a path and a file
abbrev pub merge_by : List ℕ → List ℕ → Option ℕ → List ℕ → List (List ℕ) → Option Merge
merge_by core layouts None addresses words = None
merge_by core layouts (Some index) addresses words = option_map (λ images. record {
  core = core;
  layouts = layouts;
  index = index;
  addresses = addresses;
  images = images;
}) (images_of words)

-- CORE LAYOUTS INDEX ADDRESSES [PATH=FILE]..
abbrev pub merge_words : List (List ℕ) → Option Merge
merge_words (core ∷ layouts ∷ index ∷ addresses ∷ words) =
    merge_by core layouts (word_number index) addresses words
merge_words _ = None

-- CORE LAYOUTS [PATH=FILE]..
abbrev pub locate_words : List (List ℕ) → Option Locate
locate_words (core ∷ layouts ∷ words) =
    option_map (λ images. record { core = core; layouts = layouts; images = images }) (images_of words)
locate_words _ = None

-- the arguments of `slim`, where its level is a number and each image a path and a file
abbrev pub slim_by : List ℕ → List ℕ → Option ℕ → List (List ℕ) → Option Slim
slim_by core layouts None words = None
slim_by core layouts (Some level) words =
    option_map (λ images. record { core = core; layouts = layouts; level = level; images = images }) (images_of words)

-- CORE LAYOUTS LEVEL [PATH=FILE]..
abbrev pub slim_words : List (List ℕ) → Option Slim
slim_words (core ∷ layouts ∷ level ∷ words) = slim_by core layouts (word_number level) words
slim_words _ = None

-- the arguments of `sample`, where the seed is a number
abbrev pub sample_by : List ℕ → Bool → Option Sample
sample_by seed core = option_map (λ n. record { seed = n; core = core }) (word_number seed)

-- N, or N core
abbrev pub sample_words : List (List ℕ) → Option Sample
sample_words (seed ∷ []) = sample_by seed false
sample_words (seed ∷ what ∷ []) = if bytes_eq what (codes "core") then sample_by seed true else None
sample_words _ = None

-- the command's name, and then its words
abbrev pub command_of : List (List ℕ) → Option Command
command_of [] = None
command_of (name ∷ words) =
    if bytes_eq name (codes "walk") then option_map (λ w. walk w) (walk_words words) else
    if bytes_eq name (codes "triage") then option_map (λ t. triage t) (triage_words words) else
    if bytes_eq name (codes "reach") then option_map (λ r. reach r) (reach_words words) else
    if bytes_eq name (codes "merge") then option_map (λ m. merge m) (merge_words words) else
    if bytes_eq name (codes "locate") then option_map (λ l. locate l) (locate_words words) else
    if bytes_eq name (codes "slim") then option_map (λ s. slim s) (slim_words words) else
    if bytes_eq name (codes "sample") then option_map (λ s. seeded s) (sample_words words) else
    option_map (λ d. dump d) (dump_words (name ∷ words))

-- no command names more than 4096 cores to be put in groups
abbrev pub HasFewCores : Command → Type 0
HasFewCores (triage t) = length t.cores ≤ 4096
HasFewCores _ = ⊤

-- the files of a source of layouts
abbrev pub source_files : LayoutSource → List (List ℕ)
source_files sample = []
source_files (file name) = name ∷ []

-- the names of the files that are read before a command's work, in order
abbrev pub kept_files : Command → List (List ℕ)
kept_files (walk w) = w.core ∷ source_files w.layouts
kept_files (dump d) = d.core ∷ d.layouts ∷ map (λ image. image.1) d.images
kept_files (triage t) = t.layouts ∷ map (λ image. image.1) t.images
kept_files (reach r) = r.core ∷ r.layouts ∷ map (λ image. image.1) r.images
kept_files (merge m) = m.core ∷ m.layouts ∷ (map (λ image. image.1) m.images ++ m.addresses ∷ [])
kept_files (locate l) = l.core ∷ l.layouts ∷ map (λ image. image.1) l.images
kept_files (slim s) = s.core ∷ s.layouts ∷ map (λ image. image.1) s.images
kept_files (seeded s) = []

-- the names of those that are read in its work, one at a time
abbrev pub later_files : Command → List (List ℕ)
later_files (walk w) = []
later_files (dump d) = []
later_files (triage t) = t.cores
later_files (reach r) = []
later_files (merge m) = []
later_files (locate l) = []
later_files (slim s) = []
later_files (seeded s) = []

-- all the files that a command names, in the order in which they are read
abbrev pub files_of : Command → List (List ℕ)
files_of command = kept_files command ++ later_files command

-- words as lists of bytes
abbrev pub texts : List (String Global) → List (List ℕ)
texts words = map (λ word. string_bytes word) words
