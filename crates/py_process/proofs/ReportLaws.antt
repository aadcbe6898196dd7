-- A core and its images have one report, and what is found is a step of it.
use Rattle.std.proofs.Common.{◌≡◌, ℕ, List, refl, sym, ap, subst, ◌∙◌, inr}
use Rattle.std.specs.Prelude.{ℤ, Option, Result, Ok, Err, option_map}
use Rattle.elf64_core.specs.Header.{machine_of}
use Rattle.elf64_core.specs.declared.header.Machine.{Machine}
use Rattle.image_memory.specs.Cores.{IsCore, RefusesCore}
use Rattle.image_memory.specs.Images.{Pushed}
use Rattle.image_memory.specs.Maps.{in_maps}
use Rattle.image_memory.specs.declared.dump_error.DumpError.{DumpError}
use Rattle.image_memory.specs.declared.dump_error.DumpError.TheVariants as dump
use Rattle.image_memory.specs.declared.maps.CoreMapRange.{CoreMapRange}
use Rattle.image_memory.proofs.Noted.{AreStatuses-once, IsProcess-once}
use Rattle.image_memory.proofs.Refusals.{no_core, one_refusal}
use Rattle.process_memory.specs.Memory.{Memory}
use Rattle.py_fields.specs.declared.layout.Layout.{Layout}
use Rattle.py_stacks.specs.Threads.{Trace}
use Rattle.py_stacks.specs.declared.config.Config.{Config}
use Rattle.py_process.specs.Causes.{cause_of_dump}
use Rattle.py_process.specs.Findings.{AfterImages, AfterSearch, Finding, FindingIs, FindsIn, IsFound, IsMade}
use Rattle.py_process.specs.Findings.{LayoutSays, LockSays, SearchSays, VersionSays, finding}
use Rattle.py_process.specs.Programs.{ImagesSay, MapsSay}
use Rattle.py_process.specs.Reports.{AfterCore, AfterFinding, CoreSays, IsTold, NotesTell, ReportIs, Reported}
use Rattle.py_process.specs.Steps.{Then}
use Rattle.py_process.specs.Reports.{StacksSay, TellsReport, Dumped, IsDumped, memory_in, first_signal, process_told}
use Rattle.py_process.specs.declared.core_error.CoreError.{CoreError}
use Rattle.py_process.specs.declared.core_error.CoreError.TheVariants as core
use Rattle.py_process.proofs.Agreement.{Agree, IsKept, ok_is, then_agree, then_ok}
use Rattle.py_process.proofs.Dumped.{dumped_once}
use Rattle.py_process.proofs.FindingLaws.{ChoosesOnce, finding_agree}
use Rattle.py_process.proofs.StackCauses.{stacks_agree}

-- ---- the core

module _ (bytes : List ℕ) (images : Pushed) where
  data CoreCause (r : Result Dumped CoreError) : Type 0 where
    refused : (e : DumpError) → r ≡ Err (cause_of_dump e) → RefusesCore bytes e → CoreCause r
    dumped : (d : Dumped) → r ≡ Ok d → IsCore bytes → IsDumped bytes images d → CoreCause r

  core_cause : (r : Result Dumped CoreError) → CoreSays bytes images r → IsKept r → CoreCause r
  core_cause (Ok d) h kept = dumped d refl h.0 h.1
  core_cause (Err core.NotElf64) h kept = refused dump.NotElf64 refl h
  core_cause (Err core.BadHeader) h kept = refused dump.BadHeader refl h
  core_cause (Err core.NoNotes) h kept = refused dump.NoNotes refl h
  core_cause (Err core.BadNote) h kept = refused dump.BadNote refl h
  core_cause (Err core.OutOfMemory) h kept = absurd (kept refl)
  core_cause (Err _) h kept = absurd h

  not_memory : {T : Type 0} (e : DumpError) (r : Result T CoreError) → r ≡ Err (cause_of_dump e) → IsKept r → ¬ (e ≡ dump.OutOfMemory)
  not_memory e r is kept same = kept (is ∙ ap (λ d. Err (cause_of_dump d)) same)

  core_one : (a b : Result Dumped CoreError) → IsKept a → IsKept b → CoreCause a → CoreCause b → a ≡ b
  core_one a b na nb (refused e is h) (refused f is' g) =
      is ∙ ap (λ d. Err (cause_of_dump d)) (one_refusal bytes e f h g (not_memory e a is na) (not_memory f b is' nb)) ∙ sym is'
  core_one a b na nb (refused e is h) (dumped d is' c are) = absurd (no_core bytes e h (not_memory e a is na) c)
  core_one a b na nb (dumped d is c are) (refused e is' h) = absurd (no_core bytes e h (not_memory e b is' nb) c)
  core_one a b na nb (dumped d is c are) (dumped other is' c' are') =
      is ∙ ap (λ x. Ok x) (dumped_once bytes images d other are are') ∙ sym is'

  pub core_agree : Agree (CoreSays bytes images)
  core_agree a b one two na nb = core_one a b na nb (core_cause a one na) (core_cause b two nb)

-- a refusal of the core
pub core_says : (bytes : List ℕ) (images : Pushed) (e : DumpError) → RefusesCore bytes e → CoreSays bytes images (Err (cause_of_dump e))
core_says bytes images dump.NotElf64 h = h
core_says bytes images dump.BadHeader h = h
core_says bytes images dump.NoNotes h = h
core_says bytes images dump.BadNote h = h
core_says bytes images dump.OutOfMemory h = tt

-- ---- what is told

pub notes_same : (bytes : List ℕ) (s t : Option ℤ) (p q : Option (ℤ × List ℕ)) → NotesTell bytes s p → NotesTell bytes t q → (s ≡ t) × (p ≡ q)
notes_same bytes s t p q one two = (
  one.signal_is ∙ ap first_signal (AreStatuses-once bytes one.statuses two.statuses one.are_statuses two.are_statuses) ∙ sym two.signal_is,
  one.process_is ∙ ap (option_map process_told) (IsProcess-once bytes one.last two.last one.is_last two.is_last) ∙ sym two.process_is,
)

told_same : (bytes : List ℕ) (f : Finding) (traces : List Trace) (r q : Reported) → TellsReport bytes f traces r → TellsReport bytes f traces q → r ≡ q
told_same bytes f traces r q one two = λ i. record {
  signal = (notes_same bytes r.signal q.signal r.process q.process one.notes two.notes).0 i;
  process = (notes_same bytes r.signal q.signal r.process q.process one.notes two.notes).1 i;
  version = (one.version_is ∙ sym two.version_is) i;
  traces = (one.traces_are ∙ sym two.traces_are) i;
}

pub told_agree : (bytes : List ℕ) (f : Finding) (traces : List Trace) → Agree (IsTold bytes f traces)
told_agree bytes f traces a b (r, one, is) (q, two, is') na nb = is ∙ ap (λ x. Ok x) (told_same bytes f traces r q one two) ∙ sym is'

-- ---- one report

module _ (bytes : List ℕ) (images : Pushed) (layouts : List Layout) (config : Config) (apart : ChoosesOnce layouts) where
  abbrev after_finding : (d : Dumped) (f : Finding) → Agree (AfterFinding bytes d config f)
  after_finding d f = then_agree (StacksSay (memory_in d) f config) (IsTold bytes f)
      (stacks_agree (memory_in d) f config) (λ traces h. told_agree bytes f traces)

  after_core : (d : Dumped) → Agree (AfterCore bytes images layouts config d)
  after_core d = then_agree (FindingIs (memory_in d) (machine_of bytes) d.maps images layouts) (AfterFinding bytes d config)
      (finding_agree (memory_in d) (machine_of bytes) d.maps images layouts apart) (λ f h. after_finding d f)

  pub report_agree : Agree (ReportIs bytes images layouts config)
  report_agree = then_agree (CoreSays bytes images) (AfterCore bytes images layouts config) (core_agree bytes images) (λ d h. after_core d)

-- ---- what was found, in one record

pub found_by : (m : Memory) (machine : Machine) (maps : List CoreMapRange) (images : Pushed) (layouts : List Layout) (f : Finding)
    → FindingIs m machine maps images layouts (Ok f) → IsFound m machine maps images layouts f
found_by m machine maps images layouts f h =
    let known = AfterImages m machine (in_maps maps) layouts in
    let one = then_ok (MapsSay maps) (λ p. Then (ImagesSay images p) known) f h in
    let two = then_ok (ImagesSay images one.0) known f one.2 in
    let sought = FindsIn m machine (in_maps maps) two.0 in
    let three = then_ok (VersionSays m two.0) (λ v. Then (LayoutSays layouts v) (sought v)) f two.2 in
    let four = then_ok (LayoutSays layouts three.0) (sought three.0) f three.2 in
    let five = then_ok (SearchSays m (in_maps maps) two.0 three.0 four.0) (AfterSearch m machine two.0 three.0 four.0) f four.2 in
    let six = then_ok (LockSays m machine two.0 three.0 four.0 five.0) (IsMade three.0 four.0 five.0) f five.2 in
    subst (λ x. IsFound m machine maps images layouts x) (sym (ok_is f (finding three.0 four.0 five.0 six.0) six.2)) (record {
      programs = one.0;
      are_programs = one.1;
      known = two.0;
      is_known = two.1;
      told = three.1;
      chosen = four.1;
      first = five.1;
      lock = six.1;
    })

pub finds : (m : Memory) (machine : Machine) (maps : List CoreMapRange) (images : Pushed) (layouts : List Layout) (f : Finding)
    → IsFound m machine maps images layouts f → FindingIs m machine maps images layouts (Ok f)
finds m machine maps images layouts f found =
    inr (
      found.programs,
      found.are_programs,
      inr (
        found.known,
        found.is_known,
        inr (
          f.version,
          found.told,
          inr (
            f.layout,
            found.chosen,
            inr (f.addresses.interpreter, found.first, inr (f.addresses.lock, found.lock, refl)),
          ),
        ),
      ),
    )
