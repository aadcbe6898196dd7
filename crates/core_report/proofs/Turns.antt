-- Files read in turn: one file more, and that the contents are the same where the files tell them.
use Rattle.std.proofs.Common.{◌≡◌, ◌≢◌, ◌<◌, ◌+◌, ℕ, zero, suc, List, [], ◌∷◌, ◌++◌, length, map, refl, sym, ap}
use Rattle.std.proofs.Common.{subst, ◌∙◌, arith, inl, ⊎_elim, append_assoc, length-append, Some, None, Ok, Err}
use Rattle.std.specs.Prelude.{slice_get, IsSome, Option, Result, Vec}
use Rattle.std.specs.Global.{Global}
use Rattle.std.proofs.lemmas.Option.{same_Some, slice_get_past, slice_get_within}
use Rattle.std.proofs.lemmas.Option.{none-some}
use Rattle.std.proofs.lemmas.List.{append-nil, length-map}
use Rattle.outside.specs.Files.{FilesSeen, Told, Gives}
use Rattle.py_fields.specs.declared.layout.Layout.{Layout}
use Rattle.py_layout.specs.declared.error.LayoutError.{LayoutError}
use Rattle.core_report.specs.declared.cause.Cause.TheVariants.{OutOfMemory}
use Rattle.program_run.specs.Ends.{IsAnswered, IsTroubled}
use Rattle.program_run.specs.Reading.{AreRead, AsksAmong, HasCoreFiles, IsUnreadTrouble, trouble_of}
use Rattle.program_run.specs.declared.core_files.CoreFiles.{CoreFiles}
use Rattle.program_run.specs.declared.trouble.FileTrouble.{FileTrouble}
use Rattle.program_run.specs.declared.trouble.Trouble.TheVariants.{Cause as Caused}
use Rattle.program_run.proofs.Contents.{core_names, told_same}
use Rattle.program_run.proofs.Ends.{unread_files}
use Rattle.core_report.specs.declared.cause.Cause.{Cause}
use Rattle.core_report.specs.declared.walk_command.WalkFiles.{WalkFiles}
use Rattle.core_report.specs.declared.merge_command.MergeFiles.{MergeFiles}
use Rattle.core_report.specs.declared.triage_command.TriageFiles.{TriageFiles}
use Rattle.core_report.specs.Outcome.{IsOutcome, SourceSays, TextSays, cause_status}
use Rattle.core_report.specs.Run.{AsksNext, HasAll, HasMergeFiles, HasTriageFiles, HasWalkFiles, pystacks}
use Rattle.core_words.specs.Words.{Command, LayoutSource, Merge, Sample, Triage, Walk, dump}
use Rattle.core_words.specs.Words.{locate, merge, reach, seeded, slim, triage, walk, kept_files, later_files}
use Rattle.core_words.specs.Words.{source_files, sample, file as named}
use Rattle.core_report.specs.Reading.{Stops, StopsTriage, IsNext, IsAll, AreFiles, IsRead, core_contents}
use Rattle.core_report.specs.Reading.{merge_contents, text_contents, triage_contents, walk_contents}

-- one file more
more_after : (told : Told) (command : Command) (before read : List (List ℕ)) (name bytes : List ℕ)
    → AreFiles told command before read → IsNext command (before ++ read) name → Gives told name bytes
    → AreFiles told command before (read ++ bytes ∷ [])
more_after told command before [] name bytes are next gives =
    (record { name = name; next = subst (λ c. IsNext command c name) (append-nil before) next; given = gives }, tt)
more_after told command before (x ∷ read) name bytes are next gives = (
  are.0,
  more_after told command (before ++ x ∷ []) read name bytes are.1
      (subst (λ c. IsNext command c name) (sym (append_assoc before (x ∷ []) read)) next) gives,
)

pub more : (told now : Told) (command : Command) (read : List (List ℕ)) (name bytes : List ℕ) → IsRead told command read
    → IsNext command read name → now ≡ told → Gives now name bytes → IsRead told command (read ++ bytes ∷ [])
more told now command read name bytes are next same gives =
    more_after told command [] read name bytes are next (subst (λ t. Gives t name bytes) same gives)

triage_goes_on : (t : Triage) (contents : List (List ℕ)) → length contents < length (kept_files (triage t)) → ¬ StopsTriage t contents
triage_goes_on t [] lt stops = stops
triage_goes_on t (text ∷ images) lt stops = omega (arith, lt, stops.0, length-map t.images (λ (image : List ℕ × List ℕ). image.1))

-- while fewer are read than are kept, no command stops
pub goes_on : (command : Command) (contents : List (List ℕ)) → length contents < length (kept_files command) → ¬ Stops command contents
goes_on (walk w) contents lt stops = stops
goes_on (dump d) contents lt stops = stops
goes_on (triage t) contents lt stops = triage_goes_on t contents lt stops
goes_on (reach r) contents lt stops = stops
goes_on (merge m) contents lt stops = stops
goes_on (locate l) contents lt stops = stops
goes_on (slim s) contents lt stops = stops
goes_on (seeded s) contents lt stops = stops

get-front : (xs ys : List (List ℕ)) (k : ℕ) (x : List ℕ) → slice_get xs k ≡ Some x → slice_get (xs ++ ys) k ≡ Some x
get-front [] ys k x is = absurd (none-some x is)
get-front (a ∷ xs) ys zero x is = is
get-front (a ∷ xs) ys (suc k) x is = get-front xs ys k x is

-- the next of those that are kept
pub next_kept : (command : Command) (contents : List (List ℕ)) (name : List ℕ) → slice_get (kept_files command) (length contents) ≡ Some name
    → IsNext command contents name
next_kept command contents name is = record {
  named = get-front (kept_files command) (later_files command) (length contents) name is;
  goes_on = goes_on command contents (slice_get_within (kept_files command) (length contents) name is);
}

-- ---- the contents are the same where the files tell them

next_same : (command : Command) (before : List (List ℕ)) (a b : List ℕ) → IsNext command before a → IsNext command before b → a ≡ b
next_same command before a b one other = same_Some a b (sym one.named ∙ other.named)

not_both : (command : Command) (before : List (List ℕ)) (name : List ℕ) → IsNext command before name → IsAll command before → ⊥
not_both command before name next all = ⊎_elim (λ none. none-some name (sym none ∙ next.named)) next.goes_on all

same_after : (told : Told) (command : Command) (before xs ys : List (List ℕ)) → IsSome told
    → AreFiles told command before xs → AreFiles told command before ys → IsAll command (before ++ xs) → IsAll command (before ++ ys) → xs ≡ ys
same_after told command before [] [] some a b all whole = refl
same_after told command before [] (y ∷ ys) some a b all whole =
    absurd (not_both command before b.0.name b.0.next (subst (λ c. IsAll command c) (append-nil before) all))
same_after told command before (x ∷ xs) [] some a b all whole =
    absurd (not_both command before a.0.name a.0.next (subst (λ c. IsAll command c) (append-nil before) whole))
same_after told command before (x ∷ xs) (y ∷ ys) some a b all whole =
    let named : b.0.name ≡ a.0.name = next_same command before b.0.name a.0.name b.0.next a.0.next in
    let same : x ≡ y = told_same told a.0.name x y some a.0.given (subst (λ n. Gives told n y) named b.0.given) in
    let rest : xs ≡ ys = same_after told command (before ++ x ∷ []) xs ys some a.1
    (subst (λ z. AreFiles told command (before ++ z ∷ []) ys) (sym same) b.1)
    (subst (λ c. IsAll command c) (sym (append_assoc before (x ∷ []) xs)) all)
    (subst (λ z. IsAll command ((before ++ z ∷ []) ++ ys)) (sym same) (subst (λ c. IsAll command c) (sym (append_assoc before (y ∷ []) ys)) whole)) in
    ap (λ z. z ∷ xs) same ∙ ap (λ zs. y ∷ zs) rest

pub same_contents : (told : Told) (command : Command) (xs ys : List (List ℕ)) → IsSome told
    → IsRead told command xs → IsRead told command ys → IsAll command xs → IsAll command ys → xs ≡ ys
same_contents told command xs ys some a b all whole = same_after told command [] xs ys some a b all whole

-- ---- a file that could not be read

pub is_unread : (old mid new : FilesSeen) (command : Command) (read : List (List ℕ)) (name : List ℕ) (t : FileTrouble)
    → IsRead old.told command read → IsNext command read name → mid.failed ≡ old.failed
    → IsUnreadTrouble (λ asked. asked ≡ name) mid new t → IsTroubled pystacks old new command (trouble_of OutOfMemory t)
is_unread old mid new command read name t are next same h =
    unread_files pystacks (λ asked. asked ≡ name) old mid new command OutOfMemory t refl
    (λ asked is. subst (λ n. AsksNext old.told command n) (sym is) (record { contents = read; read = are; next = next })) same h

-- ---- the files of each command

-- where as many were read as are kept, and none is read later, none is left
past : (names contents : List (List ℕ)) → length contents ≡ length names → slice_get (names ++ []) (length contents) ≡ None
past names contents count =
    subst (λ l. slice_get l (length contents) ≡ None) (sym (append-nil names)) (slice_get_past names (length contents) (omega (arith, count)))

all_kept : (command : Command) (contents : List (List ℕ)) → later_files command ≡ [] → length contents ≡ length (kept_files command) → IsAll command contents
all_kept command contents none count = inl (subst (λ later. slice_get (kept_files command ++ later) (length contents) ≡ None) (sym none) (past (kept_files command) contents count))

pub has_all : (old new : FilesSeen) (command : Command) (contents : List (List ℕ)) → later_files command ≡ [] → IsRead old.told command contents
    → length contents ≡ length (kept_files command) → new.failed ≡ old.failed → HasAll old new command contents
has_all old new command contents none read count failed =
    record { read = read; all = all_kept command contents none count; failed = failed }

-- a walk asks for its core, and then for the layout file, where its words name one
pub walk_core : (w : Walk) (name : List ℕ) → name ≡ w.core → IsNext (walk w) [] name
walk_core w name is = next_kept (walk w) [] name (ap Some (sym is))

pub walk_layouts : (w : Walk) (core name file : List ℕ) → w.layouts ≡ named file → name ≡ file → IsNext (walk w) (core ∷ []) name
walk_layouts w core name file source is =
    next_kept (walk w) (core ∷ []) name (ap (λ s. slice_get (source_files s) 0) source ∙ ap Some (sym is))

pub has_walk : (old new : FilesSeen) (w : Walk) (source : LayoutSource) (files : WalkFiles) → w.layouts ≡ source
    → length (text_contents files.layouts) ≡ length (source_files source) → IsRead old.told (walk w) (walk_contents files)
    → new.failed ≡ old.failed → HasWalkFiles old new w (Ok files)
has_walk old new w source files is count read failed =
    let kept : length (walk_contents files) ≡ length (kept_files (walk w)) =
    ap suc (count ∙ ap (λ s. length (source_files s)) (sym is)) in
    (has_all old new (walk w) (walk_contents files) refl read kept failed, kept)

-- what a text of layouts says is what the words' source says of it
pub source_says : (w : Walk) (files : WalkFiles) → length (walk_contents files) ≡ length (kept_files (walk w))
    → (answer : Result (List Layout) LayoutError) → TextSays files.layouts answer → SourceSays w.layouts (text_contents files.layouts) answer
source_says w files kept answer h = by w.layouts files.layouts (omega (arith, kept)) h
  where
    by : (source : LayoutSource) (text : Option (Vec ℕ Global)) → length (text_contents text) ≡ length (source_files source)
        → TextSays text answer → SourceSays source (text_contents text) answer
    by sample None same says = says
    by sample (Some text) same says = absurd (omega (arith, same))
    by (named file) None same says = absurd (omega (arith, same))
    by (named file) (Some text) same says = says

-- ---- files that a command asks for first, by their names

pub get-behind : (xs ys : List (List ℕ)) (k n : ℕ) → n ≡ length xs + k → slice_get (xs ++ ys) n ≡ slice_get ys k
get-behind [] ys k n is = ap (λ m. slice_get ys m) (omega (arith, is))
get-behind (x ∷ xs) ys k zero is = absurd (omega (arith, is))
get-behind (x ∷ xs) ys k (suc n) is = get-behind xs ys k n (omega (arith, is))

-- the one behind so many others
next_behind : (command : Command) (before front rest : List (List ℕ)) (name : List ℕ) → kept_files command ≡ front ++ name ∷ rest
    → length before ≡ length front → IsNext command before name
next_behind command before front rest name asked count = next_kept command before name
    (ap (λ l. slice_get l (length before)) asked ∙ get-behind front (name ∷ rest) 0 (length before) (omega (arith, count)))

files_after : (told : Told) (command : Command) (before front names rest contents : List (List ℕ)) → kept_files command ≡ front ++ (names ++ rest)
    → length before ≡ length front → AreRead told names contents → AreFiles told command before contents
files_after told command before front [] rest [] asked count read = tt
files_after told command before front [] rest (b ∷ bs) asked count read = absurd read
files_after told command before front (n ∷ ns) rest [] asked count read = absurd read
files_after told command before front (n ∷ ns) rest (b ∷ bs) asked count read = (
  record { name = n; next = next_behind command before front (ns ++ rest) n asked count; given = read.0 },
  files_after told command (before ++ b ∷ []) (front ++ n ∷ []) ns rest bs (asked ∙ sym (append_assoc front (n ∷ []) (ns ++ rest)))
      (omega (arith, length-append before (b ∷ []), length-append front (n ∷ []), count)) read.1,
)

pub first_read : (told : Told) (command : Command) (names rest contents : List (List ℕ)) → kept_files command ≡ names ++ rest
    → AreRead told names contents → IsRead told command contents
first_read told command names rest contents asked read = files_after told command [] [] names rest contents asked refl read

read_count : (told : Told) (names contents : List (List ℕ)) → AreRead told names contents → length contents ≡ length names
read_count told [] [] read = refl
read_count told [] (b ∷ bs) read = absurd read
read_count told (n ∷ ns) [] read = absurd read
read_count told (n ∷ ns) (b ∷ bs) read = ap suc (read_count told ns bs read.1)

-- one of them is asked for, after those before it
asks_next : (told : Told) (command : Command) (names rest : List (List ℕ)) (name : List ℕ) → kept_files command ≡ names ++ rest
    → AsksAmong told names name → AsksNext told command name
asks_next told command names rest name asked among =
    let behind : kept_files command ≡ among.before ++ name ∷ (among.behind ++ rest) =
    asked ∙ ap (λ l. l ++ rest) among.are ∙ append_assoc among.before (name ∷ among.behind) rest in
    record {
      contents = among.contents;
      read = first_read told command among.before (name ∷ (among.behind ++ rest)) among.contents behind among.read;
      next = next_behind command among.contents among.before (among.behind ++ rest) name behind (read_count told among.before among.contents among.read);
    }

pub first_unread : (old new : FilesSeen) (command : Command) (names rest : List (List ℕ)) (t : FileTrouble) → kept_files command ≡ names ++ rest
    → IsUnreadTrouble (AsksAmong old.told names) old new t → IsTroubled pystacks old new command (trouble_of OutOfMemory t)
first_unread old new command names rest t asked h =
    unread_files pystacks (AsksAmong old.told names) old old new command OutOfMemory t refl
    (λ name among. asks_next old.told command names rest name asked among) refl h

-- ---- the files of a core

-- of a command that keeps these alone
pub core_unread : (old new : FilesSeen) (command : Command) (names : List (List ℕ)) (t : FileTrouble) → names ≡ kept_files command
    → IsUnreadTrouble (AsksAmong old.told names) old new t → IsTroubled pystacks old new command (trouble_of OutOfMemory t)
core_unread old new command names t kept h = first_unread old new command names [] t (sym kept ∙ sym (append-nil names)) h

pub core_has : (old new : FilesSeen) (command : Command) (names : List (List ℕ)) (files : CoreFiles) → names ≡ kept_files command
    → later_files command ≡ [] → HasCoreFiles old new names (Ok files) → HasAll old new command (core_contents files)
core_has old new command names files kept later has =
    has_all old new command (core_contents files) later
    (first_read old.told command names [] (core_contents files) (sym kept ∙ sym (append-nil names)) has.read)
    (read_count old.told names (core_contents files) has.read ∙ ap length kept) has.failed

-- a program that is made up asks for no file
pub sample_has : (files : FilesSeen) (s : Sample) → HasAll files files (seeded s) []
sample_has files s = has_all files files (seeded s) [] refl tt refl refl

-- a merge asks for the file of its addresses last
pub merge_kept : (m : Merge) (names : List (List ℕ)) → names ≡ core_names m.core m.layouts m.images
    → kept_files (merge m) ≡ names ++ m.addresses ∷ []
merge_kept m names are = ap (λ l. l ++ m.addresses ∷ []) (sym are)

pub merge_next : (m : Merge) (told : Told) (names contents : List (List ℕ)) (name : List ℕ) → names ≡ core_names m.core m.layouts m.images
    → AreRead told names contents → name ≡ m.addresses → IsNext (merge m) contents name
merge_next m told names contents name are read is =
    next_behind (merge m) contents names [] name (merge_kept m names are ∙ ap (λ n. names ++ n ∷ []) (sym is)) (read_count told names contents read)

pub merge_has : (old new : FilesSeen) (m : Merge) (names : List (List ℕ)) (files : MergeFiles) → names ≡ core_names m.core m.layouts m.images
    → AreRead old.told names (core_contents files.report) → IsRead old.told (merge m) (merge_contents files)
    → new.failed ≡ old.failed → HasMergeFiles old new m (Ok files)
merge_has old new m names files are first read failed =
    let count : length (core_contents files.report) ≡ length names = read_count old.told names (core_contents files.report) first in
    let all : length (merge_contents files) ≡ length (kept_files (merge m)) =
    length-append (core_contents files.report) (files.addresses.items ∷ []) ∙ ap (λ n. n + 1) count
    ∙ sym (length-append names (m.addresses ∷ [])) ∙ sym (ap length (merge_kept m names are)) in
    let images : length files.report.images.items ≡ length m.images =
    omega (
      arith,
      length-map files.report.images.items (λ (f : Vec ℕ Global). f.items),
      count,
      ap length are,
      length-map m.images (λ (image : List ℕ × List ℕ). image.1),
    ) in
    (has_all old new (merge m) (merge_contents files) refl read all failed, images)

-- cores in groups ask for the layout file, and then for the images
abbrev pub triage_names : Triage → List (List ℕ)
triage_names t = t.layouts ∷ map (λ image. image.1) t.images

pub triage_unread : (old new : FilesSeen) (t : Triage) (names : List (List ℕ)) (trouble : FileTrouble) → names ≡ triage_names t
    → IsUnreadTrouble (AsksAmong old.told names) old new trouble → IsTroubled pystacks old new (triage t) (trouble_of OutOfMemory trouble)
triage_unread old new t names trouble are h = first_unread old new (triage t) names [] trouble (sym are ∙ sym (append-nil names)) h

pub triage_has : (old new : FilesSeen) (t : Triage) (names : List (List ℕ)) (files : TriageFiles) → names ≡ triage_names t
    → AreRead old.told names (triage_contents files) → new.failed ≡ old.failed → HasTriageFiles old new t (Ok files)
triage_has old new t names files are read failed = (
  record { read = first_read old.told (triage t) names [] (triage_contents files) (sym are ∙ sym (append-nil names)) read; failed = failed },
  omega (
    arith,
    length-map files.images.items (λ (f : Vec ℕ Global). f.items),
    read_count old.told names (triage_contents files) read,
    ap length are,
    length-map t.images (λ (image : List ℕ × List ℕ). image.1),
  ),
)

-- ---- a command's work over what its files hold

pub comes_of : (old new : FilesSeen) (command : Command) (contents : List (List ℕ)) (text : Vec ℕ Global) → HasAll old new command contents
    → IsOutcome command contents (Ok text.items) → IsAnswered pystacks old new command (Ok text)
comes_of old new command contents text has is =
    (record { contents = contents; read = has.read; all = has.all; is = is }, has.failed)

pub caused_of : (old new : FilesSeen) (command : Command) (contents : List (List ℕ)) (cause : Cause) → HasAll old new command contents
    → (cause_status cause ≢ 5 → IsOutcome command contents (Err cause)) → IsTroubled pystacks old new command (Caused cause)
caused_of old new command contents cause has is =
    (λ ne. record { contents = contents; read = has.read; all = has.all; is = is ne }, has.failed)
