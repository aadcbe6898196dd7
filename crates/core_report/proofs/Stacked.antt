-- An opened process with its traces is one, and none is opened for the causes for which there is no report.
use Rattle.std.proofs.Common.{◌≡◌, ℕ, List, inl, inr, sym, ◌∙◌}
use Rattle.std.specs.Prelude.{Result, Err}
use Rattle.elf64_core.specs.Header.{machine_of}
use Rattle.image_memory.specs.Images.{Pushed}
use Rattle.py_fields.specs.declared.layout.Layout.{Layout}
use Rattle.py_stacks.specs.Threads.{Trace}
use Rattle.py_stacks.specs.declared.config.Config.{Config}
use Rattle.py_process.specs.Findings.{Finding, FindingIs}
use Rattle.py_process.specs.Reports.{AfterCore, AfterFinding, CoreSays, Dumped, IsTold, ReportIs, StacksSay, memory_in}
use Rattle.py_process.specs.Steps.{Then}
use Rattle.py_process.specs.declared.core_error.CoreError.{CoreError}
use Rattle.py_process.proofs.Agreement.{Agree, err_is, ok_not_err, then_agree}
use Rattle.py_process.proofs.FindingLaws.{ChoosesOnce, finding_agree}
use Rattle.py_process.proofs.ReportLaws.{core_agree}
use Rattle.py_process.proofs.StackCauses.{stacks_agree}
use Rattle.core_report.specs.Stacked.{IsStacked, StackedCore, StackedFinding, StackedIs}

made_agree : (d : Dumped) (f : Finding) (traces : List Trace) → Agree (IsStacked d f traces)
made_agree d f traces a b one other na nb = one ∙ sym other

module _ (bytes : List ℕ) (images : Pushed) (layouts : List Layout) (config : Config) where
  after_finding : (d : Dumped) (f : Finding) → Agree (StackedFinding d config f)
  after_finding d f = then_agree (StacksSay (memory_in d) f config) (IsStacked d f)
      (stacks_agree (memory_in d) f config) (λ traces h. made_agree d f traces)

  after_core : ChoosesOnce layouts → (d : Dumped) → Agree (StackedCore bytes images layouts config d)
  after_core apart d = then_agree (FindingIs (memory_in d) (machine_of bytes) d.maps images layouts) (StackedFinding d config)
      (finding_agree (memory_in d) (machine_of bytes) d.maps images layouts apart) (λ f h. after_finding d f)

  pub stacked_agree : ChoosesOnce layouts → Agree (StackedIs bytes images layouts config)
  stacked_agree apart = then_agree (CoreSays bytes images) (StackedCore bytes images layouts config) (core_agree bytes images) (λ d h. after_core apart d)

  -- ---- the causes are a report's

  -- a cause of the first step, or of what follows its value
  pub step : {T U V : Type 0} (First : Result T CoreError → Type 0) (Rest : T → Result U CoreError → Type 0) (Other : T → Result V CoreError → Type 0) (e : CoreError)
      → ((x : T) → Rest x (Err e) → Other x (Err e)) → Then First Rest (Err e) → Then First Other (Err e)
  step {T} {U} {V} First Rest Other e rest (inl (error, first, is)) = inl (error, first, by (err_is e error is))
    where
      by : e ≡ error → ◌≡◌ {A = Result V CoreError} (Err e) (Err error)
      by same = λ i. Err (same i)
  step First Rest Other e rest (inr (x, first, h)) = inr (x, first, rest x h)

  pub unstacked : (e : CoreError) → StackedIs bytes images layouts config (Err e) → ReportIs bytes images layouts config (Err e)
  unstacked e h = step (CoreSays bytes images) (StackedCore bytes images layouts config) (AfterCore bytes images layouts config) e
      (λ d. step (FindingIs (memory_in d) (machine_of bytes) d.maps images layouts) (StackedFinding d config) (AfterFinding bytes d config) e
      (λ f. step (StacksSay (memory_in d) f config) (IsStacked d f) (IsTold bytes f) e (λ traces is. absurd (ok_not_err _ e (sym is))))) h
