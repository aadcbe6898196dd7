-- What is found of a process is one, and so is its first cause.
use Rattle.std.proofs.Common.{◌≡◌, ℕ, List, refl, sym, ap, subst, ◌∙◌}
use Rattle.std.specs.Prelude.{Bool, Option, Some, None, Result, Ok, Err, All}
use Rattle.std.proofs.lemmas.Option.{same_Some, none-some}
use Rattle.elf64_core.specs.declared.header.Machine.{Machine}
use Rattle.image_memory.specs.Images.{Pushed, first_under}
use Rattle.image_memory.specs.Maps.{in_maps}
use Rattle.image_memory.specs.Mmap.{shown_bytes}
use Rattle.image_memory.specs.declared.maps.CoreMapRange.{CoreMapRange}
use Rattle.process_memory.specs.Memory.{Memory, Found}
use Rattle.process_memory.specs.Memory.Fault.{Missing}
use Rattle.py_fields.specs.declared.layout.Layout.{Layout}
use Rattle.py_fields.specs.declared.version.Version.{Version}
use Rattle.py_process.specs.Binary.{SaysFacts}
use Rattle.py_process.specs.Candidates.{IsFirstOf, IsInterpreterIn, IsNoneOf, candidates_of}
use Rattle.py_process.specs.Facts.{Facts, Known}
use Rattle.py_process.specs.Findings.{AfterSearch, FindingIs, FindsIn, IsChosen, IsMade, LayoutSays, LockSays}
use Rattle.py_process.specs.Findings.{ProcessThen, SearchSays, VersionSays, VersionThen}
use Rattle.py_process.specs.Lock.{lock_address_of}
use Rattle.py_process.specs.Programs.{ArePrograms, FactsAre, FactsOf, FirstMapIs, ImageSays, ImagesSay, IsBadImage}
use Rattle.py_process.specs.Programs.{IsFirstMap, IsKnown, IsLibraryMap, IsProgram, MapsSay, Programs, needed_map}
use Rattle.py_process.specs.Programs.{path_of}
use Rattle.py_process.specs.Sources.{FirstTells, sources_of}
use Rattle.py_process.specs.Steps.{Then}
use Rattle.py_process.specs.declared.core_error.CoreError.{CoreError}
use Rattle.py_process.specs.declared.core_error.CoreError.TheVariants as core
use Rattle.py_process.proofs.Images.{facts_once}
use Rattle.py_process.proofs.Telling.{told_once}
use Rattle.py_process.proofs.Agreement.{Agree, IsKept, then_agree}
use Rattle.py_process.proofs.Firsts.{first_same, none_first}

-- ---- the maps

first_map_same : (Is : CoreMapRange → Type 0) (maps : List CoreMapRange) (a b : CoreMapRange) → IsFirstMap Is maps a
    → IsFirstMap Is maps b → a ≡ b
first_map_same Is maps a b one two =
    first_same Is maps one.before one.after two.before two.after a b one.parts two.parts one.is two.is one.none_before two.none_before

no_first_map : (Is : CoreMapRange → Type 0) (maps : List CoreMapRange) (a : CoreMapRange) → IsFirstMap Is maps a
    → All (λ m. ¬ Is m) maps → ⊥
no_first_map Is maps a one none = none_first Is maps one.before one.after a one.parts one.is none

first_map_is : (Is : CoreMapRange → Type 0) (maps : List CoreMapRange) (a b : Option CoreMapRange) → FirstMapIs Is maps a
    → FirstMapIs Is maps b → a ≡ b
first_map_is Is maps None None one two = refl
first_map_is Is maps None (Some b) one two = absurd (no_first_map Is maps b two one)
first_map_is Is maps (Some a) None one two = absurd (no_first_map Is maps a one two)
first_map_is Is maps (Some a) (Some b) one two = ap (λ x. Some x) (first_map_same Is maps a b one two)

pub programs_same : (maps : List CoreMapRange) (p q : Programs) → ArePrograms maps p → ArePrograms maps q → p ≡ q
programs_same maps p q one two = λ i. record {
  program = first_map_same (λ m. IsProgram m) maps p.program q.program one.first_program two.first_program i;
  library = first_map_is (λ m. IsLibraryMap m) maps p.library q.library one.first_library two.first_library i;
}

data MapsCause (maps : List CoreMapRange) (r : Result Programs CoreError) : Type 0 where
  none : r ≡ Err core.NoBinary → All (λ m. ¬ IsProgram m) maps → MapsCause maps r
  some : (p : Programs) → r ≡ Ok p → ArePrograms maps p → MapsCause maps r

maps_cause : (maps : List CoreMapRange) (r : Result Programs CoreError) → MapsSay maps r → IsKept r → MapsCause maps r
maps_cause maps (Ok p) h kept = some p refl h
maps_cause maps (Err core.NoBinary) h kept = none refl h
maps_cause maps (Err core.OutOfMemory) h kept = absurd (kept refl)
maps_cause maps (Err _) h kept = absurd h

maps_one : (maps : List CoreMapRange) (a b : Result Programs CoreError) → MapsCause maps a → MapsCause maps b → a ≡ b
maps_one maps a b (none is lack) (none is' lack') = is ∙ sym is'
maps_one maps a b (none is lack) (some q is' are) = absurd (no_first_map (λ m. IsProgram m) maps q.program are.first_program lack)
maps_one maps a b (some p is are) (none is' lack) = absurd (no_first_map (λ m. IsProgram m) maps p.program are.first_program lack)
maps_one maps a b (some p is are) (some q is' are') = is ∙ ap (λ x. Ok x) (programs_same maps p q are are') ∙ sym is'

pub maps_agree : (maps : List CoreMapRange) → Agree (MapsSay maps)
maps_agree maps a b one two na nb = maps_one maps a b (maps_cause maps a one na) (maps_cause maps b two nb)

-- ---- the images

says_same : (images : Pushed) (m : CoreMapRange) (f g : Facts) → ImageSays images m f → ImageSays images m g → f ≡ g
says_same images m f g one two =
    let image : one.image ≡ two.image = same_Some _ _ (sym one.held ∙ two.held) in
    facts_once (shown_bytes two.image) m.segment.addr m.segment.mem_size f g
    (subst (λ i. SaysFacts (shown_bytes i) m.segment.addr m.segment.mem_size f) image one.says) two.says

pub facts_are : (images : Pushed) (m : CoreMapRange) (f g : Option Facts) → FactsAre images m f → FactsAre images m g → f ≡ g
facts_are images m None None one two = refl
facts_are images m None (Some g) one two = absurd (one g two)
facts_are images m (Some f) None one two = absurd (two f one)
facts_are images m (Some f) (Some g) one two = ap (λ x. Some x) (says_same images m f g one two)

pub facts_of_map : (images : Pushed) (m : Option CoreMapRange) (f g : Option Facts) → FactsOf images m f → FactsOf images m g → f ≡ g
facts_of_map images None f g one two = one ∙ sym two
facts_of_map images (Some m) f g one two = facts_are images m f g one two

known_same : (images : Pushed) (p : Programs) (k j : Known) → IsKnown images p k → IsKnown images p j → k ≡ j
known_same images p k j one two = λ i. record {
  program = facts_are images p.program k.program j.program one.program_says two.program_says i;
  library = facts_of_map images p.library k.library j.library one.library_says two.library_says i;
  path = (one.path_is ∙ sym two.path_is) i;
}

data ImagesCause (images : Pushed) (p : Programs) (r : Result Known CoreError) : Type 0 where
  lacks : r ≡ Err (core.NoImage (path_of (needed_map p))) → first_under (path_of (needed_map p)) images ≡ None → ImagesCause images p r
  bad : r ≡ Err (core.BadImage (path_of (needed_map p))) → IsBadImage images (needed_map p) → ImagesCause images p r
  knows : (k : Known) → r ≡ Ok k → IsKnown images p k → ImagesCause images p r

images_cause : (images : Pushed) (p : Programs) (r : Result Known CoreError) → ImagesSay images p r → IsKept r → ImagesCause images p r
images_cause images p (Ok k) h kept = knows k refl h
images_cause images p (Err (core.NoImage path)) h kept =
    lacks (ap (λ x. Err (core.NoImage x)) h.0) (subst (λ x. first_under x images ≡ None) h.0 h.1)
images_cause images p (Err (core.BadImage path)) h kept = bad (ap (λ x. Err (core.BadImage x)) h.0) h.1
images_cause images p (Err core.OutOfMemory) h kept = absurd (kept refl)
images_cause images p (Err _) h kept = absurd h

images_one : (images : Pushed) (p : Programs) (a b : Result Known CoreError) → ImagesCause images p a → ImagesCause images p b → a ≡ b
images_one images p a b (lacks is lack) (lacks is' lack') = is ∙ sym is'
images_one images p a b (lacks is lack) (bad is' x) = absurd (none-some _ (sym lack ∙ x.held))
images_one images p a b (lacks is lack) (knows k is' x) = absurd (none-some _ (sym lack ∙ x.needed_says.held))
images_one images p a b (bad is x) (lacks is' lack) = absurd (none-some _ (sym lack ∙ x.held))
images_one images p a b (bad is x) (bad is' y) = is ∙ sym is'
images_one images p a b (bad is x) (knows k is' y) = absurd (x.none y.facts y.needed_says)
images_one images p a b (knows k is x) (lacks is' lack) = absurd (none-some _ (sym lack ∙ x.needed_says.held))
images_one images p a b (knows k is x) (bad is' y) = absurd (y.none x.facts x.needed_says)
images_one images p a b (knows k is x) (knows j is' y) = is ∙ ap (λ z. Ok z) (known_same images p k j x y) ∙ sym is'

pub images_agree : (images : Pushed) (p : Programs) → Agree (ImagesSay images p)
images_agree images p a b one two na nb = images_one images p a b (images_cause images p a one na) (images_cause images p b two nb)

-- ---- the version

-- what a result of this step is told
told_by : Result Version CoreError → Found (Option Version)
told_by (Ok v) = Ok (Some v)
told_by (Err (core.UnreadableVersion addr len)) = Err (Missing addr len)
told_by (Err _) = Ok None

data VersionCause (m : Memory) (k : Known) (r : Result Version CoreError) : Type 0 where
  lost : (addr len : ℕ) → r ≡ Err (core.UnreadableVersion addr len) → FirstTells m (sources_of k) (Err (Missing addr len)) → VersionCause m k r
  untold : r ≡ Err core.NoVersion → FirstTells m (sources_of k) (Ok None) → VersionCause m k r
  told : (v : Version) → r ≡ Ok v → FirstTells m (sources_of k) (Ok (Some v)) → VersionCause m k r

version_cause : (m : Memory) (k : Known) (r : Result Version CoreError) → VersionSays m k r → IsKept r → VersionCause m k r
version_cause m k (Ok v) h kept = told v refl h
version_cause m k (Err (core.UnreadableVersion addr len)) h kept = lost addr len refl h
version_cause m k (Err core.NoVersion) h kept = untold refl h
version_cause m k (Err core.OutOfMemory) h kept = absurd (kept refl)
version_cause m k (Err _) h kept = absurd h

lost_held : (a n x : ℕ) → ◌≡◌ {A = Found ℕ} (Err (Missing a n)) (Ok x) → ⊥
lost_held a n x e = cc

lost_told : (a n : ℕ) (v : Option Version) → ◌≡◌ {A = Found (Option Version)} (Err (Missing a n)) (Ok v) → ⊥
lost_told a n v e = cc

untold_told : (v : Version) → ◌≡◌ {A = Found (Option Version)} (Ok None) (Ok (Some v)) → ⊥
untold_told v e = cc

lost_same : (a n b k : ℕ) → ◌≡◌ {A = Found (Option Version)} (Err (Missing a n)) (Err (Missing b k))
    → ◌≡◌ {A = Result Version CoreError} (Err (core.UnreadableVersion a n)) (Err (core.UnreadableVersion b k))
lost_same a n b k e = cc

told_same : (v w : Version) → ◌≡◌ {A = Found (Option Version)} (Ok (Some v)) (Ok (Some w)) → v ≡ w
told_same v w e = cc

version_one : (m : Memory) (k : Known) (a b : Result Version CoreError) → VersionCause m k a → VersionCause m k b → a ≡ b
version_one m k a b (lost x n is h) (lost y j is' g) = is ∙ lost_same x n y j (told_once m (sources_of k) _ _ h g) ∙ sym is'
version_one m k a b (lost x n is h) (untold is' g) = absurd (lost_told x n _ (told_once m (sources_of k) _ _ h g))
version_one m k a b (lost x n is h) (told w is' g) = absurd (lost_told x n _ (told_once m (sources_of k) _ _ h g))
version_one m k a b (untold is h) (lost y j is' g) = absurd (lost_told y j _ (told_once m (sources_of k) _ _ g h))
version_one m k a b (untold is h) (untold is' g) = is ∙ sym is'
version_one m k a b (untold is h) (told w is' g) = absurd (untold_told w (told_once m (sources_of k) _ _ h g))
version_one m k a b (told v is h) (lost y j is' g) = absurd (lost_told y j _ (told_once m (sources_of k) _ _ g h))
version_one m k a b (told v is h) (untold is' g) = absurd (untold_told v (told_once m (sources_of k) _ _ g h))
version_one m k a b (told v is h) (told w is' g) = is ∙ ap (λ x. Ok x) (told_same v w (told_once m (sources_of k) _ _ h g)) ∙ sym is'

pub version_agree : (m : Memory) (k : Known) → Agree (VersionSays m k)
version_agree m k a b one two na nb = version_one m k a b (version_cause m k a one na) (version_cause m k b two nb)

-- ---- the layout

data LayoutCause (layouts : List Layout) (v : Version) (r : Result Layout CoreError) : Type 0 where
  uncovered : r ≡ Err (core.UnsupportedVersion v) → ((l : Layout) → ¬ IsChosen layouts v l) → LayoutCause layouts v r
  covered : (l : Layout) → r ≡ Ok l → IsChosen layouts v l → LayoutCause layouts v r

layout_cause : (layouts : List Layout) (v : Version) (r : Result Layout CoreError) → LayoutSays layouts v r → IsKept r → LayoutCause layouts v r
layout_cause layouts v (Ok l) h kept = covered l refl h
layout_cause layouts v (Err (core.UnsupportedVersion named)) h kept = uncovered (ap (λ x. Err (core.UnsupportedVersion x)) h.0) h.1
layout_cause layouts v (Err core.OutOfMemory) h kept = absurd (kept refl)
layout_cause layouts v (Err _) h kept = absurd h

-- one layout at most covers the version
abbrev pub CoversOnce : List Layout → Version → Type 0
CoversOnce layouts v = (a b : Layout) → IsChosen layouts v a → IsChosen layouts v b → a ≡ b

-- so it is of each version, as in a list of which no two clash
abbrev pub ChoosesOnce : List Layout → Type 0
ChoosesOnce layouts = (version : Version) → CoversOnce layouts version

layout_one : (layouts : List Layout) (v : Version) → CoversOnce layouts v → (a b : Result Layout CoreError) → LayoutCause layouts v a → LayoutCause layouts v b → a ≡ b
layout_one layouts v once a b (uncovered is lack) (uncovered is' lack') = is ∙ sym is'
layout_one layouts v once a b (uncovered is lack) (covered l is' h) = absurd (lack l h)
layout_one layouts v once a b (covered l is h) (uncovered is' lack) = absurd (lack l h)
layout_one layouts v once a b (covered l is h) (covered j is' g) = is ∙ ap (λ x. Ok x) (once l j h g) ∙ sym is'

pub layout_agree : (layouts : List Layout) (v : Version) → CoversOnce layouts v → Agree (LayoutSays layouts v)
layout_agree layouts v once a b one two na nb =
    layout_one layouts v once a b (layout_cause layouts v a one na) (layout_cause layouts v b two nb)

-- ---- the interpreter

data SearchCause (m : Memory) (contains : ℕ → Bool) (k : Known) (v : Version) (l : Layout) (r : Result ℕ CoreError) : Type 0 where
  missed : r ≡ Err core.NoInterpreter → IsNoneOf contains l m (candidates_of k v l m) → SearchCause m contains k v l r
  hit : (a : ℕ) → r ≡ Ok a → IsFirstOf contains l m (candidates_of k v l m) a → SearchCause m contains k v l r

search_cause : (m : Memory) (contains : ℕ → Bool) (k : Known) (v : Version) (l : Layout) (r : Result ℕ CoreError) → SearchSays m contains k v l r
    → IsKept r → SearchCause m contains k v l r
search_cause m contains k v l (Ok a) h kept = hit a refl h
search_cause m contains k v l (Err core.NoInterpreter) h kept = missed refl h
search_cause m contains k v l (Err core.OutOfMemory) h kept = absurd (kept refl)
search_cause m contains k v l (Err _) h kept = absurd h

search_one : (m : Memory) (contains : ℕ → Bool) (k : Known) (v : Version) (l : Layout) (a b : Result ℕ CoreError) → SearchCause m contains k v l a
    → SearchCause m contains k v l b → a ≡ b
search_one m contains k v l a b (missed is lack) (missed is' lack') = is ∙ sym is'
search_one m contains k v l a b (missed is lack) (hit x is' h) =
    absurd (none_first (λ x. IsInterpreterIn contains l m x) (candidates_of k v l m) h.before h.after x h.parts h.is lack)
search_one m contains k v l a b (hit x is h) (missed is' lack) =
    absurd (none_first (λ x. IsInterpreterIn contains l m x) (candidates_of k v l m) h.before h.after x h.parts h.is lack)
search_one m contains k v l a b (hit x is h) (hit y is' g) =
    is ∙ ap (λ z. Ok z) (first_same (λ x. IsInterpreterIn contains l m x) (candidates_of k v l m) h.before h.after g.before g.after x y
    h.parts g.parts h.is g.is h.none_before g.none_before) ∙ sym is'

pub search_agree : (m : Memory) (contains : ℕ → Bool) (k : Known) (v : Version) (l : Layout) → Agree (SearchSays m contains k v l)
search_agree m contains k v l a b one two na nb =
    search_one m contains k v l a b (search_cause m contains k v l a one na) (search_cause m contains k v l b two nb)

-- ---- the lock

data LockCause (found : Found ℕ) (r : Result ℕ CoreError) : Type 0 where
  lost : (addr len : ℕ) → r ≡ Err (core.Unreadable addr len) → found ≡ Err (Missing addr len) → LockCause found r
  held : (a : ℕ) → r ≡ Ok a → found ≡ Ok a → LockCause found r

lock_cause : (m : Memory) (machine : Machine) (k : Known) (v : Version) (l : Layout) (a : ℕ) (r : Result ℕ CoreError)
    → LockSays m machine k v l a r → IsKept r → LockCause (lock_address_of machine k v l m a) r
lock_cause m machine k v l a (Ok lock) h kept = held lock refl h
lock_cause m machine k v l a (Err (core.Unreadable addr len)) h kept = lost addr len refl h
lock_cause m machine k v l a (Err core.OutOfMemory) h kept = absurd (kept refl)
lock_cause m machine k v l a (Err _) h kept = absurd h

lock_one : (found : Found ℕ) (a b : Result ℕ CoreError) → LockCause found a → LockCause found b → a ≡ b
lock_one found a b (lost x n is h) (lost y j is' g) = is ∙ word_same x n y j (sym h ∙ g) ∙ sym is'
  where
    word_same : (x n y j : ℕ) → ◌≡◌ {A = Found ℕ} (Err (Missing x n)) (Err (Missing y j))
        → ◌≡◌ {A = Result ℕ CoreError} (Err (core.Unreadable x n)) (Err (core.Unreadable y j))
    word_same x n y j e = cc
lock_one found a b (lost x n is h) (held y is' g) = absurd (lost_held x n y (sym h ∙ g))
lock_one found a b (held x is h) (lost y j is' g) = absurd (lost_held y j x (sym g ∙ h))
lock_one found a b (held x is h) (held y is' g) = is ∙ ap (λ z. Ok z) (held_same x y (sym h ∙ g)) ∙ sym is'
  where
    held_same : (x y : ℕ) → ◌≡◌ {A = Found ℕ} (Ok x) (Ok y) → x ≡ y
    held_same x y e = cc

pub lock_agree : (m : Memory) (machine : Machine) (k : Known) (v : Version) (l : Layout) (a : ℕ) → Agree (LockSays m machine k v l a)
lock_agree m machine k v l a one other x y nx ny =
    lock_one (lock_address_of machine k v l m a) one other (lock_cause m machine k v l a one x nx) (lock_cause m machine k v l a other y ny)

-- ---- all of it

pub made_agree : (v : Version) (l : Layout) (x lock : ℕ) → Agree (IsMade v l x lock)
made_agree v l x lock a b one two na nb = one ∙ sym two

pub finds_agree : (m : Memory) (machine : Machine) (contains : ℕ → Bool) (k : Known) (v : Version) (l : Layout)
    → Agree (FindsIn m machine contains k v l)
finds_agree m machine contains k v l =
    then_agree (SearchSays m contains k v l) (AfterSearch m machine k v l) (search_agree m contains k v l)
    (λ a h. then_agree (LockSays m machine k v l a) (IsMade v l a) (lock_agree m machine k v l a) (λ lock g. made_agree v l a lock))

-- an opened process has one right answer where what comes of it has
module _ {U : Type 0} (m : Memory) (layouts : List Layout) (apart : ChoosesOnce layouts)
    (Rest : Known → Version → Layout → Result U CoreError → Type 0)
    (rest : (k : Known) (v : Version) (l : Layout) → Agree (Rest k v l)) where
  pub version_then_agree : (k : Known) → Agree (VersionThen m layouts k (Rest k))
  version_then_agree k =
      then_agree (VersionSays m k) (λ v. Then (LayoutSays layouts v) (Rest k v)) (version_agree m k)
      (λ v h. then_agree (LayoutSays layouts v) (Rest k v) (layout_agree layouts v (apart v)) (λ l g. rest k v l))

  pub process_then_agree : (maps : List CoreMapRange) (images : Pushed) → Agree (ProcessThen m maps images layouts Rest)
  process_then_agree maps images =
      then_agree (MapsSay maps) (λ p. Then (ImagesSay images p) (λ k. VersionThen m layouts k (Rest k))) (maps_agree maps)
      (λ p h. then_agree (ImagesSay images p) (λ k. VersionThen m layouts k (Rest k)) (images_agree images p)
      (λ k g. version_then_agree k))

pub finding_agree : (m : Memory) (machine : Machine) (maps : List CoreMapRange) (images : Pushed) (layouts : List Layout) → ChoosesOnce layouts → Agree (FindingIs m machine maps images layouts)
finding_agree m machine maps images layouts apart =
    process_then_agree m layouts apart (FindsIn m machine (in_maps maps)) (finds_agree m machine (in_maps maps)) maps images
