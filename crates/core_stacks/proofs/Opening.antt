-- Steps by which the process of a core is opened; and that there is one.
use Rattle.std.proofs.Common.{◌≡◌, ℕ, List, ap, false, inl, inr, refl, subst, sym, true, ◌∙◌}
use Rattle.std.specs.Prelude.{None, Result, Ok, Err}
use Rattle.image_memory.specs.Cores.{IsCore}
use Rattle.image_memory.specs.Images.{Pushed}
use Rattle.image_memory.specs.declared.maps.CoreMapRange.{CoreMapRange}
use Rattle.py_fields.specs.declared.layout.Layout.{Layout}
use Rattle.py_fields.specs.declared.version.Version.{Version}
use Rattle.py_process.specs.Facts.{Known}
use Rattle.py_process.specs.Findings.{ProcessThen, VersionThen}
use Rattle.py_process.specs.Programs.{ImagesSay, MapsSay, Programs}
use Rattle.py_process.specs.Reports.{CoreSays, Dumped, IsDumped, memory_in}
use Rattle.py_process.specs.Steps.{Then}
use Rattle.py_process.specs.declared.core_error.CoreError.{CoreError}
use Rattle.py_process.specs.declared.core_error.CoreError.TheVariants as core
use Rattle.core_stacks.specs.Named.{NamesNone, NamesThis, OrNamed, ProcessOrNamed, is_untold, with_why}
use Rattle.core_stacks.specs.declared.named.Covered.{Covered}
use Rattle.core_stacks.specs.Process.{IsOpenedBy, OpenedProcess, ProcessIs}
use Rattle.core_stacks.specs.Seen.{IsCovered}
use Rattle.core_stacks.specs.Sole.{Settles}
use Rattle.py_process.proofs.Agreement.{Agree, err_is, ok_is, ok_not_err, then_agree}
use Rattle.py_process.proofs.FindingLaws.{ChoosesOnce, process_then_agree}
use Rattle.py_process.proofs.ReportLaws.{core_agree}
use Rattle.core_stacks.proofs.Settling.{settles_agree}
use Rattle.core_stacks.proofs.Steps.{covered_fails, covered_then, known_then, unknown_then}

opened_agree : (d : Dumped) (k : Known) (v : Version) (l : Layout) → Agree (IsOpenedBy d k v l)
opened_agree d k v l a b one other na nb = one ∙ sym other

-- a cause of the core, of its maps or of its images is none of a version that isn't told
wrong : false ≡ true → ⊥
wrong e = cc

core_told : (bytes : List ℕ) (images : Pushed) (e : CoreError) → CoreSays bytes images (Err e) → is_untold e ≡ true → ⊥
core_told bytes images core.NoVersion h u = h
core_told bytes images (core.UnreadableVersion addr len) h u = h
core_told bytes images _ h u = wrong u

maps_told : (maps : List CoreMapRange) (e : CoreError) → MapsSay maps (Err e) → is_untold e ≡ true → ⊥
maps_told maps core.NoVersion h u = h
maps_told maps (core.UnreadableVersion addr len) h u = h
maps_told maps _ h u = wrong u

images_told : (images : Pushed) (p : Programs) (e : CoreError) → ImagesSay images p (Err e) → is_untold e ≡ true → ⊥
images_told images p core.NoVersion h u = h
images_told images p (core.UnreadableVersion addr len) h u = h
images_told images p _ h u = wrong u

known_told : (maps : List CoreMapRange) (images : Pushed) (e : CoreError) → Then (MapsSay maps) (ImagesSay images) (Err e)
    → is_untold e ≡ true → ⊥
known_told maps images e (inl (d, says, is)) u = maps_told maps d says (ap is_untold (sym (err_is e d is)) ∙ u)
known_told maps images e (inr (p, programs, says)) u = images_told images p e says u

module _ (bytes : List ℕ) (images : Pushed) (layouts : List Layout) where
  -- the core is refused
  pub refused : (e : CoreError) → CoreSays bytes images (Err e) → ProcessOrNamed bytes images layouts (Err e)
  refused e says = (inl (e, says, refl), (λ u. absurd (core_told bytes images e says u)))

  no_memory : ProcessOrNamed bytes images layouts (Err core.OutOfMemory)
  no_memory = (inl (core.OutOfMemory, tt, refl), (λ u. absurd (wrong u)))

  -- a core and its images have one process
  pub process_agree : ChoosesOnce layouts → Agree (ProcessIs bytes images layouts)
  process_agree once =
      then_agree (CoreSays bytes images) (λ d. ProcessThen (memory_in d) d.maps images layouts (IsOpenedBy d)) (core_agree bytes images)
      (λ d h. process_then_agree (memory_in d) layouts once (IsOpenedBy d) (opened_agree d) d.maps images)

  -- by a core that holds these bytes
  module _ (core : List ℕ) (same : core ≡ bytes) (d : Dumped) (accepted : IsCore core) (dumped : IsDumped core images d) where
    loaded : CoreSays bytes images (Ok d)
    loaded = subst (λ b. IsCore b × IsDumped b images d) same (accepted, dumped)

    -- nothing is known of it
    pub unknown : (e : CoreError) → Then (MapsSay d.maps) (ImagesSay images) (Err e) → ProcessIs bytes images layouts (Err e)
    unknown e says = inr (d, loaded, (unknown_then (memory_in d) d.maps images layouts (IsOpenedBy d) e (Err e) says refl).right)

    -- and so it is with names
    pub unknown_named : (e : CoreError) → Then (MapsSay d.maps) (ImagesSay images) (Err e)
        → ProcessOrNamed bytes images layouts (Err e)
    unknown_named e says = (unknown e says, (λ u. absurd (known_told d.maps images e says u)))

    module _ (k : Known) (says : Then (MapsSay d.maps) (ImagesSay images) (Ok k)) where
      abbrev versions : Result (Version × Layout) CoreError → Type 0
      versions = VersionThen (memory_in d) layouts k IsCovered

      known : (r : Result OpenedProcess CoreError) → Settles (VersionThen (memory_in d) layouts k (IsOpenedBy d k)) r → ProcessIs bytes images layouts r
      known r rest = inr (d, loaded, (known_then (memory_in d) d.maps images layouts (IsOpenedBy d) k r says rest).right)

      -- no version is told, or no layout covers it
      pub uncovered : (e : CoreError) → Settles versions (Err e) → ProcessIs bytes images layouts (Err e)
      uncovered e h = known (Err e) (covered_fails (memory_in d) layouts k (IsOpenedBy d k) e (Err e) h refl)

      pub opened : (v : Version) (l : Layout) → Settles versions (Ok (v, l))
          → ProcessIs bytes images layouts
          (Ok (record { dumped = d; known = k; version = v; layout = l; untold = None }))
      opened v l h =
          known _ (covered_then (memory_in d) layouts k (IsOpenedBy d k) v l _ h
          (settles_agree (IsOpenedBy d k v l) (opened_agree d k v l) _ refl))

      -- a version with its layout, and why nothing that is there tells it
      abbrev pub process_of : Covered → OpenedProcess
      process_of c = record { dumped = d; known = k; version = c.version; layout = c.layout; untold = c.untold }

      -- it is told, or names tell it
      pub covered : (told : Result (Version × Layout) CoreError) (c : Covered) → Settles versions told
          → OrNamed core layouts told (Ok c) → ProcessOrNamed bytes images layouts (Ok (process_of c))
      covered (Ok told) c h is =
          inl (subst (λ (x : Covered). ProcessIs bytes images layouts (Ok (process_of x)))
          (sym (ok_is c (with_why told None) is)) (opened told.0 told.1 h))
      covered (Err why) c h (untold, names, is) = inr (record {
        why = why;
        why_is = is;
        untold = untold;
        unopened = uncovered why h;
        dumped = loaded;
        known = says;
        names = subst (λ bs. NamesThis bs layouts c.version c.layout) same names;
      })

      -- it is neither
      pub unnamed : (told : Result (Version × Layout) CoreError) (e : CoreError) → Settles versions told
          → OrNamed core layouts told (Err e) → ProcessOrNamed bytes images layouts (Err e)
      unnamed (Ok told) e h is = absurd (ok_not_err (with_why told None) e (sym is))
      unnamed (Err why) e h (inl memory) = rw memory no_memory
      unnamed (Err why) e h (inr (is, none)) =
          rw is (uncovered why h, (λ u. subst (λ bs. NamesNone bs layouts) same (none u)))
