-- Why there is no report of a core, step by step.
use Rattle.std.proofs.Common.{◌≡◌, ℕ, List, sym, subst, inl, inr}
use Rattle.std.specs.Prelude.{Some, Result, Ok, Err, IfErr}
use Rattle.elf64_core.specs.Header.{machine_of}
use Rattle.image_memory.specs.Images.{Pushed}
use Rattle.image_memory.specs.Maps.{in_maps}
use Rattle.process_memory.specs.Memory.{Fault}
use Rattle.py_fields.specs.declared.layout.Layout.{Layout}
use Rattle.py_fields.specs.declared.version.Version.{Version}
use Rattle.py_stacks.specs.declared.config.Config.{Config}
use Rattle.py_process.specs.Candidates.{IsFirstOf, candidates_of}
use Rattle.py_process.specs.Facts.{Known}
use Rattle.py_process.specs.Findings.{AfterImages, AfterSearch, Finding, FindingIs, FindsIn, IsChosen, IsFound}
use Rattle.py_process.specs.Findings.{IsMade, LayoutSays, LockSays, SearchSays}
use Rattle.py_process.specs.Findings.{VersionSays, finding}
use Rattle.py_process.specs.Programs.{ArePrograms, ImagesSay, IsKnown, MapsSay, Programs}
use Rattle.py_process.specs.Reports.{AfterCore, AfterFinding, CoreSays, Dumped, IsDumped, IsTold, MeetsFault, ReportIs}
use Rattle.py_process.specs.Reports.{StacksSay, memory_in, reported}
use Rattle.py_process.specs.Sources.{FirstTells, sources_of}
use Rattle.py_process.specs.Steps.{Then}
use Rattle.py_process.specs.declared.core_error.CoreError.{CoreError}
use Rattle.py_process.specs.declared.core_error.CoreError.TheVariants as core
use Rattle.py_process.specs.declared.report.Report.{Report}
use Rattle.core_stacks.specs.ReportCauses.{IsReportCause, MeetsRest}
use Rattle.py_process.proofs.Agreement.{ok_not_err}
use Rattle.core_stacks.proofs.Left.{limit_none}
use Rattle.core_stacks.proofs.PlainFaults.{IsPlain}
use Rattle.py_process.proofs.ReportLaws.{found_by}
use Rattle.core_stacks.proofs.Unfaulted.{rest_fault}

err_is : {T : Type 0} (e d : CoreError) → ◌≡◌ {A = Result T CoreError} (Err e) (Err d) → d ≡ e
err_is e d is = cc

-- an error of two steps is one of the first, or of the rest
by_step : {T U : Type 0} (First : Result T CoreError → Type 0) (Rest : T → Result U CoreError → Type 0)
    (P : CoreError → Type 0)
    (e : CoreError) → ((d : CoreError) → First (Err d) → P d) → ((x : T) → First (Ok x) → Rest x (Err e) → P e)
    → Then First Rest (Err e) → P e
by_step First Rest P e first rest (inl (d, one, is)) = subst P (err_is e d is) (first d one)
by_step First Rest P e first rest (inr (x, one, more)) = rest x one more

module _ (bytes : List ℕ) (images : Pushed) (layouts : List Layout) (config : Config) where
  abbrev IsCause : CoreError → Type 0
  IsCause e = IsReportCause bytes images layouts config e

  core_cause : (e : CoreError) → CoreSays bytes images (Err e) → IsCause e
  core_cause core.NotElf64 h = tt
  core_cause core.BadHeader h = tt
  core_cause core.NoNotes h = tt
  core_cause core.BadNote h = tt
  core_cause core.OutOfMemory h = tt
  core_cause _ h = absurd h

  module _ (d : Dumped) (dumped : IsDumped bytes images d) where
    maps_cause : (e : CoreError) → MapsSay d.maps (Err e) → IsCause e
    maps_cause core.NoBinary h = tt
    maps_cause core.OutOfMemory h = tt
    maps_cause _ h = absurd h

    images_cause : (p : Programs) (e : CoreError) → ImagesSay images p (Err e) → IsCause e
    images_cause p (core.NoImage path) h = tt
    images_cause p (core.BadImage path) h = tt
    images_cause p core.OutOfMemory h = tt
    images_cause p _ h = absurd h

    version_cause : (k : Known) (e : CoreError) → VersionSays (memory_in d) k (Err e) → IsCause e
    version_cause k (core.UnreadableVersion addr len) h = tt
    version_cause k core.NoVersion h = tt
    version_cause k core.OutOfMemory h = tt
    version_cause k _ h = absurd h

    layout_cause : (v : Version) (e : CoreError) → LayoutSays layouts v (Err e) → IsCause e
    layout_cause v (core.UnsupportedVersion named) h = tt
    layout_cause v core.OutOfMemory h = tt
    layout_cause v _ h = absurd h

    search_cause : (k : Known) (v : Version) (l : Layout) (e : CoreError)
        → SearchSays (memory_in d) (in_maps d.maps) k v l (Err e) → IsCause e
    search_cause k v l core.NoInterpreter h = tt
    search_cause k v l core.OutOfMemory h = tt
    search_cause k v l _ h = absurd h

    module _ (p : Programs) (are : ArePrograms d.maps p) (k : Known) (is_known : IsKnown images p k) (v : Version)
        (told : FirstTells (memory_in d) (sources_of k) (Ok (Some v))) (l : Layout) (chosen : IsChosen layouts v l)
        (a : ℕ)
        (first : IsFirstOf (in_maps d.maps) l (memory_in d) (candidates_of k v l (memory_in d)) a) where
      lock_cause : (e : CoreError) → LockSays (memory_in d) (machine_of bytes) k v l a (Err e) → IsCause e
      lock_cause (core.Unreadable addr len) h = inl (record {
        dumped = d;
        is_dumped = dumped;
        programs = p;
        are_programs = are;
        known = k;
        is_known = is_known;
        version = v;
        told = told;
        layout = l;
        chosen = chosen;
        interpreter = a;
        first = first;
        lacks = h;
      })
      lock_cause core.OutOfMemory h = tt
      lock_cause _ h = absurd h

    finding_cause : (e : CoreError) → FindingIs (memory_in d) (machine_of bytes) d.maps images layouts (Err e)
        → IsCause e
    finding_cause e h =
        let m = memory_in d in
        let machine = machine_of bytes in
        let contains = in_maps d.maps in
        let after = AfterImages m machine contains layouts in
        let sought = FindsIn m machine contains in
        by_step (MapsSay d.maps) (λ p. Then (ImagesSay images p) after) IsCause e maps_cause (λ p are.
        by_step (ImagesSay images p) after IsCause e (images_cause p) (λ k known.
        by_step (VersionSays m k) (λ v. Then (LayoutSays layouts v) (sought k v)) IsCause e (version_cause k) (λ v told.
        by_step (LayoutSays layouts v) (sought k v) IsCause e (layout_cause v) (λ l chosen.
        by_step (SearchSays m contains k v l) (AfterSearch m machine k v l) IsCause e (search_cause k v l) (λ a first.
        by_step (LockSays m machine k v l a) (IsMade v l a) IsCause e (lock_cause p are k known v told l chosen a first)
        (λ lock held made. absurd (ok_not_err (finding v l a lock) e (sym made)))))))) h

    module _ (f : Finding) (found : IsFound (memory_in d) (machine_of bytes) d.maps images layouts f) where
      meets : (fault : Fault) → MeetsFault (memory_in d) f config fault → MeetsRest bytes images layouts config fault
      meets fault h = record {
        dumped = d;
        is_dumped = dumped;
        finding = f;
        found = found;
        rest = rest_fault (memory_in d) f config fault found.first.is.is h.first;
      }

      no_limit : (fault : Fault) → MeetsFault (memory_in d) f config fault → IsPlain fault
      no_limit fault h = limit_none (memory_in d) f config fault
          (rest_fault (memory_in d) f config fault found.first.is.is h.first)

      stacks_cause : (e : CoreError) → StacksSay (memory_in d) f config (Err e) → IsCause e
      stacks_cause core.NativeUnsupported h = h
      stacks_cause core.SubprocessesUnsupported h = h.1
      stacks_cause core.OutOfMemory h = tt
      stacks_cause (core.Unreadable addr len) h = inr (meets _ h)
      stacks_cause (core.BadValue frame) h = meets _ h
      stacks_cause (core.LocalsLimit count) h = meets _ h
      stacks_cause core.ThreadLimit h = no_limit _ h
      stacks_cause core.FrameLimit h = no_limit _ h
      stacks_cause core.ChainLimit h = no_limit _ h
      stacks_cause _ h = absurd h

  report_cause : (e : CoreError) → ReportIs bytes images layouts config (Err e) → IsCause e
  report_cause e h =
      by_step (CoreSays bytes images) (AfterCore bytes images layouts config) IsCause e core_cause (λ d one.
      by_step (FindingIs (memory_in d) (machine_of bytes) d.maps images layouts)
      (AfterFinding bytes d config) IsCause e (finding_cause d one.1) (λ f finds.
      by_step (StacksSay (memory_in d) f config) (IsTold bytes f) IsCause e
      (stacks_cause d one.1 f (found_by (memory_in d) (machine_of bytes) d.maps images layouts f finds))
      (λ traces has told. absurd (ok_not_err told.0 e (sym told.2))))) h

  pub report_causes : (r : Result Report CoreError) → ReportIs bytes images layouts config (reported r)
      → IfErr r IsCause
  report_causes (Ok r) h = tt
  report_causes (Err e) h = report_cause e h
