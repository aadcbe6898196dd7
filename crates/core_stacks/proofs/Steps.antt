-- What the answers of the search say as steps.
use Rattle.std.proofs.Common.{◌≡◌, ℕ, List, refl, subst, sym, ◌∙◌, inl, inr}
use Rattle.std.specs.Prelude.{Bool, Some, Result, Ok, Err}
use Rattle.elf64_core.specs.Header.{machine_of}
use Rattle.elf64_core.specs.declared.header.Machine.{Machine}
use Rattle.image_memory.specs.Images.{Pushed}
use Rattle.image_memory.specs.declared.maps.CoreMapRange.{CoreMapRange}
use Rattle.process_memory.specs.Memory.{Memory}
use Rattle.py_fields.specs.declared.layout.Layout.{Layout}
use Rattle.py_fields.specs.declared.version.Version.{Version}
use Rattle.py_process.specs.Candidates.{IsFirstOf, IsNoneOf, NotFoundWhere, candidates_of}
use Rattle.py_process.specs.Causes.{cause_of_search, cause_of_version}
use Rattle.py_process.specs.Facts.{Known}
use Rattle.py_process.specs.Findings.{AfterSearch, Finding, FindingIs, FindsIn, IsChosen, IsMade, LayoutSays}
use Rattle.py_process.specs.Findings.{LockSays, ProcessThen, SearchSays, VersionSays, VersionThen, finding}
use Rattle.py_process.specs.Programs.{ImagesSay, MapsSay, Programs}
use Rattle.py_process.specs.Reports.{Dumped, IsDumped, memory_in}
use Rattle.py_process.specs.Sources.{FirstTells, VersionIs, sources_of}
use Rattle.py_process.specs.Steps.{Then}
use Rattle.py_process.specs.declared.core_error.CoreError.{CoreError}
use Rattle.py_process.specs.declared.core_error.CoreError.TheVariants as core
use Rattle.core_stacks.specs.Seen.{FindsProcess, IsCovered}
use Rattle.core_stacks.specs.Sole.{Settles}
use Rattle.core_stacks.proofs.Settling.{settles_agree, settles_by_err, settles_by_ok, settles_err, settles_flat}
use Rattle.core_stacks.proofs.Settling.{settles_ok}
use Rattle.py_process.proofs.Agreement.{ok_is, then_ok}
use Rattle.py_process.proofs.Dumped.{dumped_once}
use Rattle.py_process.proofs.FindingLaws.{images_agree, layout_agree, lock_agree, made_agree, maps_agree, search_agree}
use Rattle.py_process.proofs.FindingLaws.{version_agree}
use Rattle.py_process.specs.declared.search_error.SearchError.{SearchError}
use Rattle.py_process.specs.declared.search_error.SearchError.TheVariants as search
use Rattle.py_process.specs.declared.version_error.VersionError.{VersionError}
use Rattle.py_process.specs.declared.version_error.VersionError.TheVariants as version

pub search_says : (m : Memory) (contains : ℕ → Bool) (k : Known) (v : Version) (l : Layout) (e : SearchError)
    → NotFoundWhere (IsNoneOf contains l m (candidates_of k v l m)) (Err e)
    → SearchSays m contains k v l (Err (cause_of_search e))
search_says m contains k v l search.NotFound h = h
search_says m contains k v l search.OutOfMemory h = tt

pub version_says : (m : Memory) (k : Known) (e : VersionError) → VersionIs m (sources_of k) (Err e)
    → VersionSays m k (Err (cause_of_version e))
version_says m k (version.Unreadable addr len) h = h
version_says m k version.NotFound h = h
version_says m k version.OutOfMemory h = tt

-- what is found by what is dumped is found of the core
pub in_core : (bytes : List ℕ) (d : Dumped) (images : Pushed) (layouts : List Layout) (r : Result Finding CoreError) → IsDumped bytes images d
    → Settles (FindingIs (memory_in d) (machine_of bytes) d.maps images layouts) r → Settles (FindsProcess bytes images layouts) r
in_core bytes d images layouts r is h = record {
  right = record { dumped = d; is_dumped = is; is = h.right };
  only = λ answer other kept. h.only answer
      (subst (λ x. FindingIs (memory_in x) (machine_of bytes) x.maps images layouts answer) (dumped_once bytes images other.dumped d other.is_dumped is) other.is) kept;
}

-- a search that fails
pub search_fails : (m : Memory) (machine : Machine) (contains : ℕ → Bool) (k : Known) (v : Version) (l : Layout) (e : SearchError)
    (error : CoreError) (r : Result Finding CoreError) → error ≡ cause_of_search e
    → NotFoundWhere (IsNoneOf contains l m (candidates_of k v l m)) (Err e) → r ≡ Err error
    → Settles (FindsIn m machine contains k v l) r
search_fails m machine contains k v l e error r cause none is =
    settles_err (SearchSays m contains k v l) (AfterSearch m machine k v l) (search_agree m contains k v l) error r
    (subst (λ x. SearchSays m contains k v l (Err x)) (sym cause) (search_says m contains k v l e none)) is

-- one that finds an interpreter, and what comes of it over the same memory
pub search_hits : (m n : Memory) (machine : Machine) (contains : ℕ → Bool) (k : Known) (v : Version) (l : Layout) (a : ℕ)
    (r : Result Finding CoreError) → IsFirstOf contains l m (candidates_of k v l m) a → n ≡ m
    → Settles (AfterSearch n machine k v l a) r → Settles (FindsIn m machine contains k v l) r
search_hits m n machine contains k v l a r first same rest =
    settles_ok (SearchSays m contains k v l) (AfterSearch m machine k v l) (search_agree m contains k v l) a r first
    (subst (λ x. Settles (AfterSearch x machine k v l a) r) same rest)

-- the lock, or why there is none
pub lock_fails : (m : Memory) (machine : Machine) (k : Known) (v : Version) (l : Layout) (a : ℕ) (error : CoreError)
    (r : Result Finding CoreError) → LockSays m machine k v l a (Err error) → r ≡ Err error → Settles (AfterSearch m machine k v l a) r
lock_fails m machine k v l a error r h is =
    settles_err (LockSays m machine k v l a) (IsMade v l a) (lock_agree m machine k v l a) error r h is

pub lock_hits : (m : Memory) (machine : Machine) (k : Known) (v : Version) (l : Layout) (a lock : ℕ) (r : Result Finding CoreError)
    → LockSays m machine k v l a (Ok lock) → r ≡ Ok (finding v l a lock) → Settles (AfterSearch m machine k v l a) r
lock_hits m machine k v l a lock r h is =
    settles_ok (LockSays m machine k v l a) (IsMade v l a) (lock_agree m machine k v l a) lock r h
    (settles_agree (IsMade v l a lock) (made_agree v l a lock) r is)

-- ---- an opened process, and what comes of it

module _ {U : Type 0} (m : Memory) (layouts : List Layout) (k : Known) (Rest : Version → Layout → Result U CoreError → Type 0) where
  abbrev after_version : Version → Result U CoreError → Type 0
  after_version v = Then (LayoutSays layouts v) (Rest v)

  -- no version is told
  pub version_fails : (e : VersionError) (error : CoreError) (r : Result U CoreError) → error ≡ cause_of_version e
      → VersionIs m (sources_of k) (Err e) → r ≡ Err error → Settles (VersionThen m layouts k Rest) r
  version_fails e error r cause h is =
      settles_err (VersionSays m k) after_version (version_agree m k) error r
      (subst (λ x. VersionSays m k (Err x)) (sym cause) (version_says m k e h)) is

  -- no layout covers it
  pub version_lacks : (v : Version) (r : Result U CoreError) → FirstTells m (sources_of k) (Ok (Some v))
      → ((l : Layout) → ¬ IsChosen layouts v l) → r ≡ Err (core.UnsupportedVersion v) → Settles (VersionThen m layouts k Rest) r
  version_lacks v r told none is =
      settles_ok (VersionSays m k) after_version (version_agree m k) v r told
      (settles_err (LayoutSays layouts v) (Rest v) (layout_agree layouts v (λ a b x y. absurd (none a x)))
      (core.UnsupportedVersion v) r (refl, none) is)

  -- one does
  pub version_then : (v : Version) (l : Layout) (r : Result U CoreError) → FirstTells m (sources_of k) (Ok (Some v))
      → IsChosen layouts v l → ((other : Layout) → IsChosen layouts v other → other ≡ l) → Settles (Rest v l) r
      → Settles (VersionThen m layouts k Rest) r
  version_then v l r told chosen once rest =
      settles_ok (VersionSays m k) after_version (version_agree m k) v r told
      (settles_ok (LayoutSays layouts v) (Rest v) (layout_agree layouts v (λ a b x y. once a x ∙ sym (once b y))) l r chosen rest)

  abbrev by_both : Version × Layout → Result U CoreError → Type 0
  by_both covered = Rest covered.0 covered.1

  -- a version with its layout, and what comes of them; or why there is none
  pub covered_then : (v : Version) (l : Layout) (r : Result U CoreError) → Settles (VersionThen m layouts k IsCovered) (Ok (v, l))
      → Settles (Rest v l) r → Settles (VersionThen m layouts k Rest) r
  covered_then v l r first rest =
      settles_flat (VersionSays m k) (LayoutSays layouts) by_both r
      (settles_by_ok (VersionThen m layouts k IsCovered) by_both (v, l) r first rest)

  pub covered_fails : (e : CoreError) (r : Result U CoreError) → Settles (VersionThen m layouts k IsCovered) (Err e) → r ≡ Err e
      → Settles (VersionThen m layouts k Rest) r
  covered_fails e r first is =
      settles_flat (VersionSays m k) (LayoutSays layouts) by_both r
      (settles_by_err (VersionThen m layouts k IsCovered) by_both e r first is)

-- the version alone, with its layout
pub covered_settles : (m : Memory) (layouts : List Layout) (k : Known) (v : Version) (l : Layout) → FirstTells m (sources_of k) (Ok (Some v))
    → IsChosen layouts v l → ((other : Layout) → IsChosen layouts v other → other ≡ l) → Settles (VersionThen m layouts k IsCovered) (Ok (v, l))
covered_settles m layouts k v l told chosen once =
    version_then m layouts k IsCovered v l (Ok (v, l)) told chosen once
    (settles_agree (IsCovered v l) (λ a b one other na nb. one ∙ sym other) (Ok (v, l)) refl)

-- which version it is, and which layout
pub covered_by : (m : Memory) (layouts : List Layout) (k : Known) (v : Version) (l : Layout) → VersionThen m layouts k IsCovered (Ok (v, l))
    → FirstTells m (sources_of k) (Ok (Some v)) × IsChosen layouts v l
covered_by m layouts k v l h =
    let told = then_ok (VersionSays m k) (λ x. Then (LayoutSays layouts x) (IsCovered x)) (v, l) h in
    let chosen = then_ok (LayoutSays layouts told.0) (IsCovered told.0) (v, l) told.2 in
    subst (λ (q : Version × Layout). FirstTells m (sources_of k) (Ok (Some q.0)) × IsChosen layouts q.0 q.1)
    (sym (ok_is (v, l) (told.0, chosen.0) chosen.2)) (told.1, chosen.1)

module _ {U : Type 0} (m : Memory) (maps : List CoreMapRange) (images : Pushed) (layouts : List Layout)
    (Rest : Known → Version → Layout → Result U CoreError → Type 0) where
  abbrev after_images : Known → Result U CoreError → Type 0
  after_images k = VersionThen m layouts k (Rest k)

  abbrev after_maps : Programs → Result U CoreError → Type 0
  after_maps p = Then (ImagesSay images p) after_images

  -- what is known by the maps and the images, and what comes of it; or why nothing is known
  pub known_then : (k : Known) (r : Result U CoreError) → Then (MapsSay maps) (ImagesSay images) (Ok k)
      → Settles (VersionThen m layouts k (Rest k)) r → Settles (ProcessThen m maps images layouts Rest) r
  known_then k r says rest =
      let known = then_ok (MapsSay maps) (ImagesSay images) k says in
      settles_ok (MapsSay maps) after_maps (maps_agree maps) known.0 r known.1
      (settles_ok (ImagesSay images known.0) after_images (images_agree images known.0) k r known.2 rest)

  err_moves : (e d : CoreError) → ◌≡◌ {A = Result Known CoreError} (Err e) (Err d) → ◌≡◌ {A = Result U CoreError} (Err e) (Err d)
  err_moves e d is = cc

  pub unknown_then : (e : CoreError) (r : Result U CoreError) → Then (MapsSay maps) (ImagesSay images) (Err e) → r ≡ Err e
      → Settles (ProcessThen m maps images layouts Rest) r
  unknown_then e r (inl (d, says, is)) same = settles_err (MapsSay maps) after_maps (maps_agree maps) d r says (same ∙ err_moves e d is)
  unknown_then e r (inr (p, programs, says)) same =
      settles_ok (MapsSay maps) after_maps (maps_agree maps) p r programs
      (settles_err (ImagesSay images p) after_images (images_agree images p) e r says same)
