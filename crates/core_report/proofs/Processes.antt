-- Where an interpreter is, and slim cores: two outcomes over the same contents agree, and over contents with which
-- nothing is wrong no outcome is a cause but that there are too many pieces.
use Rattle.std.proofs.Common.{◌≡◌, ◌≢◌, ◌⊎◌, ℕ, Bool, true, false, List, [], ◌∷◌, Result, Ok, Err, refl, sym, ap, subst}
use Rattle.std.proofs.Common.{◌∙◌, ◌≤◌, arith, inl, inr, length, ⊎_elim}
use Rattle.elf64_core.specs.Header.{machine_of}
use Rattle.image_memory.specs.Cores.{IsCore}
use Rattle.image_memory.specs.Images.{Pushed}
use Rattle.py_fields.specs.declared.layout.Layout.{Layout}
use Rattle.py_layout.specs.File.{IsRightFor}
use Rattle.py_layout.specs.declared.error.LayoutError.{LayoutError}
use Rattle.py_layout.proofs.Answering.{right-unique}
use Rattle.py_stacks.specs.Asking.{default_config}
use Rattle.py_stacks.specs.Threads.{Trace}
use Rattle.py_stacks.specs.declared.config.Config.{Config}
use Rattle.py_process.specs.Findings.{FindingIs}
use Rattle.py_process.specs.Reports.{AfterCore, AfterFinding, CoreSays, IsReadable, ReportIs, StacksSay, memory_in}
use Rattle.py_process.specs.declared.core_error.CoreError.{CoreError}
use Rattle.py_process.specs.declared.core_error.CoreError.TheVariants as core
use Rattle.py_process.proofs.Agreement as steps
use Rattle.py_process.proofs.Dumped.{backed_once}
use Rattle.py_process.proofs.FindingLaws.{ChoosesOnce, finding_agree}
use Rattle.py_process.proofs.ReportLaws.{core_agree}
use Rattle.py_process.proofs.StackCauses.{stacks_agree}
use Rattle.core_slim.proofs.Fewer.{pieces_few}
use Rattle.core_slim.proofs.Parts.{whole_held}
use Rattle.core_slim.specs.declared.error.SlimError.{SlimError}
use Rattle.core_slim.specs.declared.error.SlimError.TheVariants as slimmer
use Rattle.core_stacks.specs.Opened.{IsOpened, Opened, Opens, opened_memory}
use Rattle.core_stacks.specs.Reached.{finding_cost}
use Rattle.core_stacks.specs.Seen.{FindsProcess}
use Rattle.core_stacks.specs.Slimmed.{IsSlimmedFor, SlimmedSays}
use Rattle.core_stacks.specs.declared.slimmed_error.SlimmedError.{SlimmedError}
use Rattle.core_stacks.specs.declared.slimmed_error.SlimmedError.TheVariants as slim
use Rattle.core_stacks.proofs.Layouts.{chooses_once}
use Rattle.core_stacks.proofs.ReportLaws.{report_complete}
use Rattle.core_words.specs.Words.{Locate as AsksLocate, Sample as AsksSample, Slim as AsksSlim}
use Rattle.core_report.specs.declared.cause.Cause.{Cause}
use Rattle.core_report.specs.declared.cause.Cause.TheVariants.{Core, Layouts, Merge, MergeIndex, Reach, ReachIndex}
use Rattle.core_report.specs.declared.cause.Cause.TheVariants.{TooManyPieces, OutOfMemory}
use Rattle.core_report.specs.Opening.{IsOpenedWith, OpenedCore, OpenedIs, level_asked, locate_text, slim_cause}
use Rattle.core_report.specs.Outcome.{IsFaultlessProcess, IsLocateOutcome, IsLocated, IsOwnCause, IsSampleOutcome}
use Rattle.core_report.specs.Outcome.{IsSampledAs, IsSlimOutcome, IsSlimmedFrom, OpensBy, cause_status, images_read}
use Rattle.core_report.specs.Outcome.{outcome_status}
use Rattle.core_report.specs.Run.{HasFewReads}
use Rattle.program_run.proofs.Statuses.{core_one, core_within, flaw_status}
use Rattle.core_report.proofs.Agreement.{Agree, NoCause, cause_is, err_kept, outcome_class, settled, text_agree}
use Rattle.core_report.proofs.Agreement.{text_apart, text_sound}
use Rattle.program_run.proofs.Outcomes.{Excludes, flaw_apart, ok_unique, steps_agree, steps_sound}
use Rattle.core_report.proofs.Stacked.{step}

-- ---- one process

module _ (bytes : List ℕ) (images : Pushed) (layouts : List Layout) where
  opened_agree : ChoosesOnce layouts → steps.Agree (OpenedIs bytes images layouts)
  opened_agree once = steps.then_agree (CoreSays bytes images) (OpenedCore bytes images layouts) (core_agree bytes images)
      (λ d h. steps.then_agree (FindingIs (memory_in d) (machine_of bytes) d.maps images layouts) (IsOpenedWith bytes d)
      (finding_agree (memory_in d) (machine_of bytes) d.maps images layouts once) (λ f found a b one other na nb. one ∙ sym other))

  -- why none is opened is why there is no report
  unopened : (config : Config) (e : CoreError) → OpenedIs bytes images layouts (Err e) → ReportIs bytes images layouts config (Err e)
  unopened config e h = step bytes images layouts config (CoreSays bytes images) (OpenedCore bytes images layouts) (AfterCore bytes images layouts config) e
      (λ d. step bytes images layouts config (FindingIs (memory_in d) (machine_of bytes) d.maps images layouts) (IsOpenedWith bytes d) (AfterFinding bytes d config) e
      (λ f is. absurd (steps.ok_not_err _ e (sym is)))) h

  -- and so is why it has no stacks
  unstacked_process : (config : Config) (o : Opened) (e : CoreError) → OpenedIs bytes images layouts (Ok o)
      → StacksSay (opened_memory o) o.finding config (Err e) → ReportIs bytes images layouts config (Err e)
  unstacked_process config o e (inl (f, first, is)) says = absurd (steps.ok_not_err o f is)
  unstacked_process config o e (inr (d, first, inl (f, found, is))) says = absurd (steps.ok_not_err o f is)
  unstacked_process config o e (inr (d, first, inr (f, found, is))) says = inr (
    d,
    first,
    inr (f, found, inl (e, subst (λ (x : Opened). StacksSay (opened_memory x) x.finding config (Err e)) (steps.ok_is o _ is) says, refl)),
  )

-- what opening it answers
pub opens_of : (bytes : List ℕ) (images : Pushed) (layouts : List Layout) → IsCore bytes → (held : List ℕ) (result : Result Opened CoreError)
    → held ≡ bytes → Opens held images layouts result → OpenedIs bytes images layouts result
opens_of bytes images layouts is_core held (Ok o) same h = of_opened (subst (λ b. IsOpened b images layouts o) same h)
  where
    of_opened : IsOpened bytes images layouts o → OpenedIs bytes images layouts (Ok o)
    of_opened h =
        let pieces : o.pieces ≡ h.finds.dumped.pieces = backed_once bytes images o.pieces h.finds.dumped.pieces h.memory h.finds.is_dumped.memory in
        inr (
          h.finds.dumped,
          (is_core, h.finds.is_dumped),
          inr (o.finding, h.finds.is, λ i. Ok (record { core = h.core_is i; pieces = pieces i; finding = o.finding })),
        )
opens_of bytes images layouts is_core held (Err e) same (inl memory) =
    subst (λ x. OpenedIs bytes images layouts (Err x)) (sym memory) (inl (core.OutOfMemory, tt, refl))
opens_of bytes images layouts is_core held (Err e) same (inr finds) =
    of_found (subst (λ b. FindsProcess b images layouts (Err e)) same finds)
  where
    of_found : FindsProcess bytes images layouts (Err e) → OpenedIs bytes images layouts (Err e)
    of_found h = inr (h.dumped, (is_core, h.is_dumped), inl (e, h.is, refl))

-- ---- by the files of a report

-- a cause why no process is opened is of layouts, or of a core
abbrev OfLayouts : List ℕ → Cause → Type 0
OfLayouts text cause = (e : LayoutError) × (cause ≡ Layouts e) × IsRightFor text (Err e)

abbrev OfCore : List (List ℕ × List ℕ) → List ℕ → List ℕ → List (List ℕ) → Cause → Type 0
OfCore named core text images cause = (e : CoreError) × (list : List Layout) × (cause ≡ Core e) × IsRightFor text (Ok list)
    × OpenedIs core (images_read named images) list (Err e)

module _ (named : List (List ℕ × List ℕ)) (bytes text : List ℕ) (images : List (List ℕ)) where
  why : (cause : Cause) → OpensBy named (bytes ∷ text ∷ images) (Err cause) → OfLayouts text cause ⊎ OfCore named bytes text images cause
  why (Layouts e) h = inl (e, refl, h)
  why (Core e) h = inr (e, h.0, refl, h.1, h.2)
  why (Reach e) h = absurd h
  why (ReachIndex index) h = absurd h
  why (Merge e) h = absurd h
  why (MergeIndex index) h = absurd h
  why (TooManyPieces count) h = absurd h
  why OutOfMemory h = absurd h

  kept : {T : Type 0} (cause : Cause) (e : CoreError) → cause ≡ Core e → cause_status cause ≢ 5 → steps.IsKept {T = T} (Err e)
  kept cause e is ne same = (core_one e (λ five. ne (ap cause_status is ∙ five))).1 (steps.err_is e core.OutOfMemory same)

  one_list : (a b : List Layout) → IsRightFor text (Ok a) → IsRightFor text (Ok b) → a ≡ b
  one_list a b one other = ok_unique (IsRightFor text) (right-unique text) a b one other

  open_one : (a b : Opened) → OpensBy named (bytes ∷ text ∷ images) (Ok a) → OpensBy named (bytes ∷ text ∷ images) (Ok b) → a ≡ b
  open_one a b (list, says, one) (more, also, other) =
      steps.ok_is a b (opened_agree bytes (images_read named images) list (chooses_once list (text_apart text list says)) (Ok a) (Ok b) one
      (subst (λ l. OpenedIs bytes (images_read named images) l (Ok b)) (one_list more list also says) other) (steps.ok_kept a) (steps.ok_kept b))

  open_apart : (o : Opened) (cause : Cause) → OpensBy named (bytes ∷ text ∷ images) (Ok o) → OpensBy named (bytes ∷ text ∷ images) (Err cause)
      → cause_status cause ≢ 5 → ⊥
  open_apart o cause (list, says, one) other ne = ⊎_elim
      (λ p. flaw_apart (IsRightFor text) (right-unique text) list p.0 (flaw_status p.0 (λ five. ne (ap cause_status p.1 ∙ five))).1 says p.2)
      (λ p. steps.ok_not_err o p.0 (opened_agree bytes (images_read named images) list (chooses_once list (text_apart text list says)) (Ok o) (Err p.0) one
      (subst (λ l. OpenedIs bytes (images_read named images) l (Err p.0)) (one_list p.1 list p.3 says) p.4) (steps.ok_kept o) (kept cause p.0 p.2 ne)))
      (why cause other)

  open_alike : (a b : Cause) → OpensBy named (bytes ∷ text ∷ images) (Err a) → OpensBy named (bytes ∷ text ∷ images) (Err b)
      → cause_status a ≢ 5 → cause_status b ≢ 5 → cause_status a ≡ cause_status b
  open_alike a b one other na nb = by (why a one) (why b other)
    where
      flawed : (c : Cause) (p : OfLayouts text c) → cause_status c ≢ 5 → cause_status c ≡ 6
      flawed c p ne = ap cause_status p.1 ∙ (flaw_status p.0 (λ five. ne (ap cause_status p.1 ∙ five))).0

      failed : (c : Cause) (p : OfCore named bytes text images c) → cause_status c ≢ 5 → cause_status c ≡ 1
      failed c p ne = ap cause_status p.2 ∙ (core_one p.0 (λ five. ne (ap cause_status p.2 ∙ five))).0

      never : (c : Cause) (p : OfLayouts text c) (list : List Layout) → cause_status c ≢ 5 → IsRightFor text (Ok list) → ⊥
      never c p list ne says = flaw_apart (IsRightFor text) (right-unique text) list p.0 (flaw_status p.0 (λ five. ne (ap cause_status p.1 ∙ five))).1 says p.2

      by : OfLayouts text a ⊎ OfCore named bytes text images a → OfLayouts text b ⊎ OfCore named bytes text images b → cause_status a ≡ cause_status b
      by (inl p) (inl q) = flawed a p na ∙ sym (flawed b q nb)
      by (inl p) (inr q) = absurd (never a p q.1 na q.3)
      by (inr p) (inl q) = absurd (never b q p.1 nb p.3)
      by (inr p) (inr q) = failed a p na ∙ sym (failed b q nb)

  open_sound : (config : Config) (list : List Layout) → IsRightFor text (Ok list) → IsReadable bytes (images_read named images) list config
      → (cause : Cause) → OpensBy named (bytes ∷ text ∷ images) (Err cause) → cause_status cause ≢ 5 → ⊥
  open_sound config list says good cause h ne = ⊎_elim
      (λ p. flaw_apart (IsRightFor text) (right-unique text) list p.0 (flaw_status p.0 (λ five. ne (ap cause_status p.1 ∙ five))).1 says p.2)
      (λ p. report_complete bytes (images_read named images) list config (text_apart text list says) good p.0
      (unopened bytes (images_read named images) list config p.0 (subst (λ l. OpenedIs bytes (images_read named images) l (Err p.0)) (one_list p.1 list p.3 says) p.4))
      (kept cause p.0 p.2 ne))
      (why cause h)

  -- a process that is opened has its stacks
  stacks_sound : (config : Config) (list : List Layout) → IsRightFor text (Ok list) → IsReadable bytes (images_read named images) list config
      → (o : Opened) → OpensBy named (bytes ∷ text ∷ images) (Ok o) → (e : CoreError) → e ≢ core.OutOfMemory
      → StacksSay (opened_memory o) o.finding config (Err e) → ⊥
  stacks_sound config list says good o (more, also, opened) e ne stacks =
      report_complete bytes (images_read named images) list config (text_apart text list says) good e
      (unstacked_process bytes (images_read named images) list config o e
      (subst (λ l. OpenedIs bytes (images_read named images) l (Ok o)) (one_list more list also says) opened) stacks) (err_kept e ne)

-- the same for all contents
opens_exclude : (named : List (List ℕ × List ℕ)) (contents : List (List ℕ)) → Excludes cause_status (λ cause. cause) (OpensBy named contents)
opens_exclude named [] = record { apart = λ o e one other ne. absurd one; alike = λ e f one other ne nf. absurd one }
opens_exclude named (core ∷ []) = record { apart = λ o e one other ne. absurd one; alike = λ e f one other ne nf. absurd one }
opens_exclude named (core ∷ text ∷ images) = record { apart = open_apart named core text images; alike = open_alike named core text images }

opens_once : (named : List (List ℕ × List ℕ)) (contents : List (List ℕ)) (a b : Opened) → OpensBy named contents (Ok a) → OpensBy named contents (Ok b) → a ≡ b
opens_once named [] a b one other = absurd one
opens_once named (core ∷ []) a b one other = absurd one
opens_once named (core ∷ text ∷ images) a b one other = open_one named core text images a b one other

-- ---- where an interpreter is

pub locate_agree : (l : AsksLocate) (contents : List (List ℕ)) → Agree (IsLocateOutcome l contents)
locate_agree l contents = steps_agree cause_status settled (λ cause. cause) (OpensBy l.images contents) IsLocated (opens_exclude l.images contents)
    (λ x y one other a b p q na nb. text_agree _ _ a b p q)

pub locate_sound : (l : AsksLocate) (contents : List (List ℕ)) → IsFaultlessProcess l.images default_config contents → NoCause (IsLocateOutcome l contents)
locate_sound l [] good = absurd good
locate_sound l (core ∷ []) good = absurd good
locate_sound l (core ∷ text ∷ images) (list, says, good) = steps_sound cause_status IsOwnCause (λ cause. cause) (OpensBy l.images (core ∷ text ∷ images)) IsLocated
    (open_sound l.images core text images default_config list says good)
    (λ o opened. text_sound (locate_text o.finding.version o.finding.addresses))

-- ---- programs that are made up

sampled_agree : (core : Bool) (seed : ℕ) → Agree (IsSampledAs core seed)
sampled_agree false seed a b one other na nb = text_agree _ _ a b one other
sampled_agree true seed a b one other na nb = text_agree _ _ a b one.1 other.1

pub sample_agree : (s : AsksSample) (contents : List (List ℕ)) → Agree (IsSampleOutcome s contents)
sample_agree s [] a b one other na nb = sampled_agree s.core s.seed a b one other na nb
sample_agree s (x ∷ xs) a b one other na nb = absurd one

sampled_sound : (core : Bool) (seed : ℕ) → NoCause (IsSampledAs core seed)
sampled_sound false seed cause ne is = absurd (let h : _ = is in cc)
sampled_sound true seed cause ne is = absurd (let h : _ = is.1 in cc)

pub sample_sound : (s : AsksSample) (contents : List (List ℕ)) → NoCause (IsSampleOutcome s contents)
sample_sound s [] cause ne is = sampled_sound s.core s.seed cause ne is
sample_sound s (x ∷ xs) cause ne is = absurd is

-- ---- slim cores

module _ (level : ℕ) (o : Opened) where
  -- where there are stacks there is no cause why there are none
  refused_apart : (e : CoreError) (result : Result (List ℕ) SlimError) → e ≢ core.OutOfMemory
      → StacksSay (opened_memory o) o.finding (level_asked level) (Err e) → IsSlimmedFor o (level_asked level) result → ⊥
  refused_apart e result ne says h =
      steps.ok_not_err h.traces e (stacks_agree (opened_memory o) o.finding (level_asked level) (Ok h.traces) (Err e)
      (h.footprint.enough (opened_memory o) (whole_held (opened_memory o) h.ranges h.footprint.held)) says (steps.ok_kept h.traces) (err_kept_at e ne))
    where
      err_kept_at : (e : CoreError) → e ≢ core.OutOfMemory → steps.IsKept {T = List Trace} (Err e)
      err_kept_at e ne is = ne (steps.err_is e core.OutOfMemory is)

  refusals_alike : (e f : SlimmedError) → SlimmedSays o (level_asked level) (Err e) → SlimmedSays o (level_asked level) (Err f)
      → cause_status (slim_cause e) ≢ 5 → cause_status (slim_cause f) ≢ 5
      → settled (cause_status (slim_cause e)) ≡ settled (cause_status (slim_cause f))
  refusals_alike (slim.Core e) (slim.Core f) one other ne nf = ap settled ((core_one e ne).0 ∙ sym (core_one f nf).0)
  refusals_alike (slim.Core e) (slim.TooManyPieces count) one other ne nf = absurd (refused_apart e _ one.0 one.1 other)
  refusals_alike (slim.Core e) slim.OutOfMemory one other ne nf = absurd (nf refl)
  refusals_alike (slim.TooManyPieces count) (slim.Core f) one other ne nf = absurd (refused_apart f _ other.0 other.1 one)
  refusals_alike (slim.TooManyPieces count) (slim.TooManyPieces more) one other ne nf = refl
  refusals_alike (slim.TooManyPieces count) slim.OutOfMemory one other ne nf = absurd (nf refl)
  refusals_alike slim.OutOfMemory f one other ne nf = absurd (ne refl)

  refusal_settled : (e : SlimmedError) (bytes : List ℕ) → SlimmedSays o (level_asked level) (Err e) → SlimmedSays o (level_asked level) (Ok bytes)
      → cause_status (slim_cause e) ≢ 5 → settled (cause_status (slim_cause e)) ≡ 0
  refusal_settled (slim.Core e) bytes one other ne = absurd (refused_apart e _ one.0 one.1 other)
  refusal_settled (slim.TooManyPieces count) bytes one other ne = refl
  refusal_settled slim.OutOfMemory bytes one other ne = absurd (ne refl)

  slimmed_agree : Agree (IsSlimmedFrom level o)
  slimmed_agree a b (inl p) (inl q) na nb = ap outcome_class p.1
      ∙ refusals_alike p.0 q.0 p.2 q.2 (λ five. na (ap outcome_status p.1 ∙ five)) (λ five. nb (ap outcome_status q.1 ∙ five))
      ∙ sym (ap outcome_class q.1)
  slimmed_agree a b (inl p) (inr q) na nb = ap outcome_class p.1
      ∙ refusal_settled p.0 q.0 p.2 q.1 (λ five. na (ap outcome_status p.1 ∙ five)) ∙ sym (ap outcome_class q.2)
  slimmed_agree a b (inr p) (inl q) na nb = ap outcome_class p.2
      ∙ sym (refusal_settled q.0 p.0 q.2 p.1 (λ five. nb (ap outcome_status q.1 ∙ five))) ∙ sym (ap outcome_class q.1)
  slimmed_agree a b (inr p) (inr q) na nb = text_agree p.0 q.0 a b p.2 q.2

  slimmed_sound : ((e : CoreError) → e ≢ core.OutOfMemory → StacksSay (opened_memory o) o.finding (level_asked level) (Err e) → ⊥)
      → NoCause (IsSlimmedFrom level o)
  slimmed_sound none cause ne (inl (slim.Core e, is, says)) = absurd (none e says.0 says.1)
  slimmed_sound none cause ne (inl (slim.TooManyPieces count, is, says)) = subst IsOwnCause (sym (cause_is cause _ is)) tt
  slimmed_sound none cause ne (inl (slim.OutOfMemory, is, says)) = absurd (ne (ap outcome_status is))
  slimmed_sound none cause ne (inr p) = absurd (let h : _ = p.2 in cc)

pub slim_agree : (s : AsksSlim) (contents : List (List ℕ)) → Agree (IsSlimOutcome s contents)
slim_agree s contents = steps_agree cause_status settled (λ cause. cause) (OpensBy s.images contents) (IsSlimmedFrom s.level) (opens_exclude s.images contents)
    (λ x y one other a b p q na nb. slimmed_agree s.level x a b p
    (subst (λ o. IsSlimmedFrom s.level o b) (opens_once s.images contents y x other one) q) na nb)

pub slim_sound : (s : AsksSlim) (contents : List (List ℕ)) → IsFaultlessProcess s.images (level_asked s.level) contents → NoCause (IsSlimOutcome s contents)
slim_sound s [] good = absurd good
slim_sound s (core ∷ []) good = absurd good
slim_sound s (core ∷ text ∷ images) (list, says, good) = steps_sound cause_status IsOwnCause (λ cause. cause) (OpensBy s.images (core ∷ text ∷ images)) (IsSlimmedFrom s.level)
    (open_sound s.images core text images (level_asked s.level) list says good)
    (λ o opened. slimmed_sound s.level o (stacks_sound s.images core text images (level_asked s.level) list says good o opened))

-- stacks that take few reads have no footprint of too many pieces
module _ (s : AsksSlim) (contents : List (List ℕ)) (few : HasFewReads s contents) where
  fewer_pieces : (o : Opened) → o ≡ few.process → (count : ℕ) → IsSlimmedFor o (level_asked s.level) (Err (slimmer.TooManyPieces count)) → ⊥
  fewer_pieces o same count h =
      let ranges : length h.is.0 ≤ length h.ranges = pieces_few h.ranges h.is.0 h.is.1 in
      let cost = ap (λ (x : Opened). finding_cost (level_asked s.level) (opened_memory x) x.finding) same in
      omega (arith, ranges, h.is.2, h.footprint.few, cost, few.few)

  never_too_many : (o : Opened) → o ≡ few.process → (cause : Cause) → cause_status cause ≡ 8 → (e : SlimmedError) → cause ≡ slim_cause e
      → SlimmedSays o (level_asked s.level) (Err e) → ⊥
  never_too_many o same cause eight (slim.Core e) is says = omega (arith, eight, ap cause_status is, core_within e)
  never_too_many o same cause eight (slim.TooManyPieces count) is says = fewer_pieces o same count says
  never_too_many o same cause eight slim.OutOfMemory is says = omega (arith, eight, ap cause_status is)

  pub slim_few : (cause : Cause) → cause_status cause ≡ 8 → IsSlimOutcome s contents (Err cause) → ⊥
  slim_few cause eight (inl (other, is, opens)) =
      (opens_exclude s.images contents).apart few.process other few.opens opens (λ five. absurd (omega (arith, eight, five, ap cause_status (cause_is cause other is))))
  slim_few cause eight (inr (o, opens, inl (e, is, says))) =
      never_too_many o (opens_once s.images contents o few.process opens few.opens) cause eight e (cause_is cause (slim_cause e) is) says
  slim_few cause eight (inr (o, opens, inr p)) = absurd (let h : _ = p.2 in cc)
