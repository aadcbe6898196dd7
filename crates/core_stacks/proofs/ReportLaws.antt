-- The report of a core is right, and it is owed where the input can be read.
use Rattle.std.proofs.Common.{◌≡◌, ℕ, List, sym, subst, inl, inr, ⊎_elim}
use Rattle.std.specs.Prelude.{Some, None, Result, Ok, Err, IfOk}
use Rattle.elf64_core.specs.Header.{machine_of}
use Rattle.image_memory.specs.Images.{Pushed}
use Rattle.image_memory.specs.Maps.{in_maps}
use Rattle.py_fields.specs.declared.layout.Layout.{Layout}
use Rattle.py_stacks.specs.StacksOver.{AreStacksOver}
use Rattle.py_stacks.specs.Threads.{Trace}
use Rattle.py_stacks.specs.declared.config.Config.{Config}
use Rattle.py_process.specs.Findings.{FindingIs, IsChosen}
use Rattle.py_process.specs.Lock.{lock_address_of}
use Rattle.py_process.specs.Candidates.{IsFirstOf, candidates_of}
use Rattle.py_process.specs.Sources.{FirstTells, sources_of}
use Rattle.py_process.specs.Reports.{AfterCore, AfterFinding, AsksNoOther, CoreSays, IsReadable, IsRight, IsTold}
use Rattle.py_process.specs.Reports.{ReportIs, Reported, StacksSay, fault_on, reported, reported_of}
use Rattle.py_process.specs.Reports as reports
use Rattle.py_process.specs.declared.report.Report.{Report}
use Rattle.py_process.specs.declared.core_error.CoreError.{CoreError}
use Rattle.py_process.specs.declared.core_error.CoreError.TheVariants as core
use Rattle.py_process.proofs.Agreement.{IsKept, err_kept, kept_or, ok_is, ok_not_err, then_ok, then_value}
use Rattle.py_process.proofs.Bare.{over_bare}
use Rattle.py_process.proofs.FindingLaws.{finding_agree}
use Rattle.py_process.proofs.ReportLaws.{core_agree, finds, found_by}
use Rattle.py_process.proofs.StackCauses.{stacks_only}
use Rattle.core_stacks.specs.Opened.{Opened, opened_memory}
use Rattle.core_stacks.proofs.Layouts.{NoneClash, chooses_once}
use Rattle.core_stacks.proofs.Unfaulted.{unfaulted}

-- a report is right
pub report_whole : (bytes : List ℕ) (images : Pushed) (layouts : List Layout) (config : Config) (r : Reported)
    → ReportIs bytes images layouts config (Ok r) → IsRight bytes images layouts config r
report_whole bytes images layouts config r h =
    let one = then_ok (CoreSays bytes images) (AfterCore bytes images layouts config) r h in
    let m = reports.memory_in one.0 in
    let two = then_ok (FindingIs m (machine_of bytes) one.0.maps images layouts) (AfterFinding bytes one.0 config) r one.2 in
    let three = then_ok (StacksSay m two.0 config) (IsTold bytes two.0) r two.2 in
    let found = found_by m (machine_of bytes) one.0.maps images layouts two.0 two.1 in
    let is : r ≡ three.2.0 = ok_is r three.2.0 three.2.2 in
    let tells = three.2.1 in
    let lock = two.0.addresses.lock in
    let interpreter = two.0.addresses.interpreter in
    let stacks : AreStacksOver config two.0.layout m lock interpreter three.2.0.traces =
    subst (AreStacksOver config two.0.layout m lock interpreter) (sym tells.traces_are) three.1.are in
    let bare = over_bare config two.0.layout m lock interpreter three.2.0.traces stacks in
    subst (λ x. IsRight bytes images layouts config x) (sym is) (record {
      has = record {
        core = one.1.0;
        dumped = one.0;
        is_dumped = one.1.1;
        programs = found.programs;
        are_programs = found.are_programs;
        known = found.known;
        is_known = found.is_known;
        told = subst (λ v. FirstTells m (sources_of found.known) (Ok (Some v))) (sym tells.version_is) found.told;
        layout = two.0.layout;
        chosen = subst (λ v. IsChosen layouts v two.0.layout) (sym tells.version_is) found.chosen;
        interpreter = interpreter;
        first = subst (λ v. IsFirstOf (in_maps one.0.maps) two.0.layout m (candidates_of found.known v two.0.layout m) interpreter)
            (sym tells.version_is) found.first;
        walked = bare.walked;
        are_walked = bare.are;
        threads = bare.same;
      };
      lock = lock;
      is_lock = subst (λ v. lock_address_of (machine_of bytes) found.known v two.0.layout m interpreter ≡ Ok lock)
          (sym tells.version_is) found.lock;
      stacks = stacks;
      notes = tells.notes;
    })

-- where the input can be read, no cause is right
pub report_complete : (bytes : List ℕ) (images : Pushed) (layouts : List Layout) (config : Config) → NoneClash layouts
    → IsReadable bytes images layouts config → (e : CoreError) → ReportIs bytes images layouts config (Err e)
    → IsKept {T = Reported} (Err e) → ⊥
report_complete bytes images layouts config apart good e h kept =
    let m = reports.memory_in good.dumped in
    let maps = good.dumped.maps in
    let one = then_value (CoreSays bytes images) (AfterCore bytes images layouts config) (core_agree bytes images) good.dumped (good.core, good.is_dumped) (Err e) kept h in
    let two = then_value (FindingIs m (machine_of bytes) maps images layouts) (AfterFinding bytes good.dumped config) (finding_agree m (machine_of bytes) maps images layouts (chooses_once layouts apart))
    good.finding (finds m (machine_of bytes) maps images layouts good.finding good.found) (Err e) kept one in
    by two
  where
    by : AfterFinding bytes good.dumped config good.finding (Err e) → ⊥
    by (inl (d, says, is)) = stacks_only (reports.memory_in good.dumped) good.finding config good.asks
        (unfaulted (reports.memory_in good.dumped) good.finding config good.found.first.is.is good.rest) d says (err_kept (Err e) d is kept)
    by (inr (traces, has, (r, tells, is))) = absurd (ok_not_err r e (sym is))

-- where the process was found, nothing else is asked for and no fault is met, what is left is out of memory
pub left_memory : (o : Opened) (config : Config) → AsksNoOther config → fault_on (opened_memory o) o.finding config ≡ None → (e : CoreError)
    → StacksSay (opened_memory o) o.finding config (Err e) → e ≡ core.OutOfMemory
left_memory o config asks none e h =
    ⊎_elim (λ same. of_err e core.OutOfMemory same)
    (λ kept. absurd (stacks_only (opened_memory o) o.finding config asks none e h kept)) (kept_or {T = List Trace} (Err e))
  where
    of_err : (e d : CoreError) → ◌≡◌ {A = Result (List Trace) CoreError} (Err e) (Err d) → e ≡ d
    of_err e d same = cc

module _ (bytes : List ℕ) (images : Pushed) (layouts : List Layout) (config : Config) where
  pub whole : (r : Result Report CoreError) → ReportIs bytes images layouts config (reported r)
      → IfOk r (λ report. IsRight bytes images layouts config (reported_of report))
  whole (Ok report) h = report_whole bytes images layouts config (reported_of report) h
  whole (Err e) h = tt
