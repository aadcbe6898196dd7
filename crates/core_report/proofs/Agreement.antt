-- Two outcomes of a command over the same contents have one status, out of memory aside; and over contents with
-- which nothing is wrong no outcome is a cause: of walks, reports, groups, objects and merged threads.
use Rattle.std.proofs.Common.{◌≡◌, ◌≢◌, ◌⊎◌, ℕ, List, [], ◌∷◌, Result, Ok, Err, refl, sym, ap, subst, ◌∙◌, Bool, inl}
use Rattle.std.proofs.Common.{inr, ⊎_elim, rules}
use Rattle.std.proofs.lemmas.Bool.{cond-false}
use Rattle.std.proofs.lemmas.Bool.Decides.{eqb_tells}
use Rattle.py_fields.specs.declared.layout.Layout.{Layout}
use Rattle.py_fields.specs.Samples.{sample_layout}
use Rattle.py_fields.specs.Sound.{IsSound}
use Rattle.py_layout.specs.declared.error.LayoutError.{LayoutError}
use Rattle.py_layout.specs.declared.error.LayoutError.TheVariants as layout
use Rattle.py_layout.specs.Lists.{AreSound}
use Rattle.py_layout.specs.File.{IsRightFor}
use Rattle.image_memory.specs.Images.{Pushed}
use Rattle.py_stacks.specs.declared.config.Config.{Config}
use Rattle.std.specs.Prelude.{Vec, map, ◌==◌, if◌then◌else◌}
use Rattle.std.specs.Global.{Global}
use Rattle.py_stacks.specs.Frames.{Call}
use Rattle.py_stacks.specs.Threads.{Trace, trace_of}
use Rattle.py_stacks.specs.declared.trace.StackTrace.{StackTrace}
use Rattle.py_process.specs.Reports.{IsReadable, Reported, reported_of}
use Rattle.py_process.specs.declared.report.Report.{Report}
use Rattle.py_layout.proofs.Answering.{right-unique}
use Rattle.py_process.specs.declared.core_error.CoreError.{CoreError}
use Rattle.py_process.specs.declared.core_error.CoreError.TheVariants as core
use Rattle.core_words.specs.Dump.{Dump}
use Rattle.core_words.specs.Words.{LayoutSource, Merge as AsksMerge, Reach as AsksReach, Triage, Walk, sample, file}
use Rattle.core_texts.specs.Text.{walk_text}
use Rattle.core_stacks.specs.Answer.{IsWalkable}
use Rattle.py_process.proofs.ReportLaws.{report_agree}
use Rattle.core_stacks.proofs.ReportLaws.{report_complete}
use Rattle.core_stacks.proofs.Layouts.{NoneClash, chooses_once}
use Rattle.core_stacks.proofs.Walked.{walk_agree as walks_agree, walk_complete}
use Rattle.core_report.specs.declared.cause.Cause.{Cause}
use Rattle.core_report.specs.declared.cause.Cause.TheVariants.{Core, Layouts, Merge, Reach}
use Rattle.core_merge.specs.CoreMerges.{CoreMergeIs}
use Rattle.core_merge.proofs.Chain.{core_merge_once, err_is as merge_err_is, ok_err as merge_ok_err}
use Rattle.core_report.specs.Merged.{python_in}
use Rattle.py_stacks.specs.Asking.{default_config}
use Rattle.object_reach.specs.declared.reached.ReachError.{ReachError}
use Rattle.object_reach.specs.declared.reached.ReachError.TheVariants as reaching
use Rattle.std.proofs.lemmas.Option.{same_Some, none-some}
use Rattle.py_process.proofs.Agreement.{err_is, ok_is, ok_kept, ok_not_err}
use Rattle.program_run.specs.Outcomes.{OutcomeThen}
use Rattle.program_run.proofs.Outcomes.{AgreeBy, Excludes, NoCauseBut, Unique, core_exclude, flaw_apart}
use Rattle.program_run.proofs.Outcomes.{layouts_exclude, ok_unique, steps_agree, steps_sound}
use Rattle.program_run.proofs.Statuses.{core_one, flaw_status}
use Rattle.core_report.specs.Reading.{HasFlaw}
use Rattle.core_report.specs.Stacked.{LeadsTo, Stacked, StackedIs, locals_asked, reach_text}
use Rattle.core_report.proofs.Binaries.{binaries_once}
use Rattle.core_report.proofs.Stacked.{stacked_agree, unstacked}
use Rattle.core_report.specs.Outcome.{IsDumpOutcome, IsDumpedBy, IsFaultlessDump, IsFaultlessMerge, IsFaultlessReach}
use Rattle.core_report.specs.Outcome.{IsFaultlessTriage, IsFaultlessWalk, IsMergeOutcome, IsMergedBy, IsMergedFrom}
use Rattle.core_report.specs.Outcome.{IsMergedIn, IsMergedText, IsOwnCause, IsReachOutcome, IsReachedBy, IsReachedFrom}
use Rattle.core_report.specs.Outcome.{IsReachedIn, IsReported, IsTriageOutcome, IsTriagedBy, reach_status, IsShown}
use Rattle.core_report.specs.Outcome.{IsWalkOutcome, IsWalkedBy, Outcome, ReportAnswers, SourceSays}
use Rattle.core_report.specs.Outcome.{WalkAnswers, cause_status, images_read, merge_status}
use Rattle.core_report.specs.Outcome.{outcome_status, shown_report}

-- one sound layout is a sound list
pub one_sound : (l : Layout) → IsSound l → AreSound (l ∷ [])
one_sound l s = record { each = search rules; apart = search rules }

-- in a list of one no two clash
one_apart : (l : Layout) → NoneClash (l ∷ [])
one_apart l = search rules

-- a slim core, and that what the stacks need has too many pieces, may both be right: both count as one
abbrev pub settled : ℕ → ℕ
settled n = if n == 8 then 0 else n

pub settled-other : (n : ℕ) → n ≢ 8 → settled n ≡ n
settled-other n ne = ⊎_elim (λ p. absurd (ne p.1)) (λ p. cond-false (n == 8) 0 n p.0) (eqb_tells n 8)

abbrev pub outcome_class : Outcome → ℕ
outcome_class outcome = settled (outcome_status outcome)

-- two outcomes count as one, unless memory ran out
abbrev pub Agree : (Outcome → Type 0) → Type 0
Agree Right = AgreeBy cause_status settled Right

-- no cause is right but out of memory, and those that a command has of its own
abbrev pub NoCause : (Outcome → Type 0) → Type 0
NoCause Right = NoCauseBut cause_status IsOwnCause Right

-- ---- layouts

-- a step of layouts, after which the work agrees
pub layouts_agree : (Says : Result (List Layout) LayoutError → Type 0) (Works : List Layout → Outcome → Type 0) → Unique Says
    → ((layouts : List Layout) → Says (Ok layouts) → Agree (Works layouts)) → Agree (OutcomeThen (λ error. Layouts error) Says Works)
layouts_agree Says Works unique agree = steps_agree cause_status settled (λ error. Layouts error) Says Works
    (layouts_exclude Says unique cause_status (λ error. Layouts error) (λ e. refl))
    (λ l m says also a b p q na nb. agree l says a b p (subst (λ x. Works x b) (ok_unique Says unique m l also says) q) na nb)

-- and after which no cause is right
pub layouts_sound : (Says : Result (List Layout) LayoutError → Type 0) (Works : List Layout → Outcome → Type 0) → Unique Says
    → (layouts : List Layout) → Says (Ok layouts) → NoCause (Works layouts) → NoCause (OutcomeThen (λ error. Layouts error) Says Works)
layouts_sound Says Works unique layouts says works = steps_sound cause_status IsOwnCause (λ error. Layouts error) Says Works
    (λ e error ne. flaw_apart Says unique layouts e (flaw_status e ne).1 says error)
    (λ l other. subst (λ m. NoCause (Works m)) (ok_unique Says unique layouts l says other) works)

pub source_unique : (source : LayoutSource) (rest : List (List ℕ)) → Unique (SourceSays source rest)
source_unique sample [] a b one other ne = inl (one ∙ sym other)
source_unique sample (text ∷ rest) a b one other ne = absurd one
source_unique (file name) [] a b one other ne = absurd one
source_unique (file name) (text ∷ []) a b one other ne = right-unique text a b one other ne
source_unique (file name) (text ∷ more ∷ rest) a b one other ne = absurd one

list_is : (a b : List Layout) → ◌≡◌ {A = Result (List Layout) LayoutError} (Ok a) (Ok b) → a ≡ b
list_is a b is = cc

source_apart : (source : LayoutSource) (rest : List (List ℕ)) (list : List Layout) → SourceSays source rest (Ok list) → NoneClash list
source_apart sample [] list says = subst NoneClash (sym (list_is list (sample_layout ∷ []) says)) (one_apart sample_layout)
source_apart sample (text ∷ rest) list says = absurd says
source_apart (file name) [] list says = absurd says
source_apart (file name) (text ∷ []) list says = says.sound.apart
source_apart (file name) (text ∷ more ∷ rest) list says = absurd says

-- ---- the work over a core

pub cause_is : (a b : Cause) → ◌≡◌ {A = Outcome} (Err a) (Err b) → a ≡ b
cause_is a b is = cc

pub text_agree : (s t : List ℕ) (a b : Outcome) → a ≡ Ok s → b ≡ Ok t → outcome_class a ≡ outcome_class b
text_agree s t a b one other = ap outcome_class one ∙ sym (ap outcome_class other)

pub text_sound : (text : List ℕ) → NoCause (λ outcome. outcome ≡ Ok text)
text_sound text cause ne is = absurd (cc is)

-- ---- walks

lost_of : (ts : List Trace) (e : CoreError) → ◌≡◌ {A = Result (List Trace) CoreError} (Ok ts) (Err e) → ⊥
lost_of ts e is = cc

lost_kept : (e : CoreError) → e ≢ core.OutOfMemory → ◌≡◌ {A = Result (List Trace) CoreError} (Err e) (Err core.OutOfMemory) → ⊥
lost_kept e ne is = ne (cc)

-- traces and a cause aren't both right
walk_apart : (w : Walk) (bytes : List ℕ) (list : List Layout) → NoneClash list → (v : Vec StackTrace Global) (e : CoreError)
    → WalkAnswers w bytes list (Ok v) → WalkAnswers w bytes list (Err e) → e ≢ core.OutOfMemory → ⊥
walk_apart w bytes list apart v e one other ne =
    lost_of (map trace_of v.items) e (walks_agree bytes list w.version w.addresses apart (Ok (map trace_of v.items)) (Err e) one other
    (lost_of (map trace_of v.items) core.OutOfMemory) (lost_kept e ne))

walked_agree : (w : Walk) (bytes : List ℕ) (list : List Layout) → NoneClash list → Agree (IsWalkedBy w bytes list)
walked_agree w bytes list apart = steps_agree cause_status settled (λ error. Core error) (WalkAnswers w bytes list) (IsShown w)
    (core_exclude cause_status (λ error. Core error) (λ e. refl) (WalkAnswers w bytes list) (walk_apart w bytes list apart))
    (λ s t one other a b p q na nb. text_agree _ _ a b p q)

pub walk_agree : (w : Walk) (contents : List (List ℕ)) → Agree (IsWalkOutcome w contents)
walk_agree w [] a b one other na nb = absurd one
walk_agree w (bytes ∷ rest) a b one other na nb =
    layouts_agree (SourceSays w.layouts rest) (IsWalkedBy w bytes) (source_unique w.layouts rest)
    (λ list says. walked_agree w bytes list (source_apart w.layouts rest list says)) a b one other na nb

walked_sound : (w : Walk) (bytes : List ℕ) (list : List Layout) → NoneClash list
    → IsWalkable bytes list w.version w.addresses → NoCause (IsWalkedBy w bytes list)
walked_sound w bytes list apart good = steps_sound cause_status IsOwnCause (λ error. Core error) (WalkAnswers w bytes list) (IsShown w)
    (λ e error ne. walk_complete bytes list w.version w.addresses apart good e error (lost_kept e (core_one e ne).1))
    (λ traces found. text_sound (walk_text w.version traces.items))

pub walk_sound : (w : Walk) (contents : List (List ℕ)) → IsFaultlessWalk w contents → NoCause (IsWalkOutcome w contents)
walk_sound w [] good cause ne is = absurd good
walk_sound w (bytes ∷ rest) (list, says, good) cause ne is =
    layouts_sound (SourceSays w.layouts rest) (IsWalkedBy w bytes) (source_unique w.layouts rest) list says
    (walked_sound w bytes list (source_apart w.layouts rest list says) good) cause ne is

-- ---- reports

err_of : (r : Reported) (e : CoreError) → ◌≡◌ {A = Result Reported CoreError} (Ok r) (Err e) → ⊥
err_of r e is = cc

pub err_kept : (e : CoreError) → e ≢ core.OutOfMemory → ◌≡◌ {A = Result Reported CoreError} (Err e) (Err core.OutOfMemory) → ⊥
err_kept e ne is = ne (cc)

-- a report and a cause aren't both right
report_apart : (config : Config) (bytes : List ℕ) (images : Pushed) (list : List Layout) → NoneClash list → (r : Report) (e : CoreError)
    → ReportAnswers config bytes images list (Ok r) → ReportAnswers config bytes images list (Err e) → e ≢ core.OutOfMemory → ⊥
report_apart config bytes images list apart r e one other ne =
    err_of (reported_of r) e (report_agree bytes images list config (chooses_once list apart) (Ok (reported_of r)) (Err e) one other
    (err_of (reported_of r) core.OutOfMemory) (err_kept e ne))

dumped_agree : (d : Dump) (bytes : List ℕ) (images : Pushed) (list : List Layout) → NoneClash list → Agree (IsDumpedBy d bytes images list)
dumped_agree d bytes images list apart = steps_agree cause_status settled (λ error. Core error) (ReportAnswers d.config bytes images list) (IsReported d)
    (core_exclude cause_status (λ error. Core error) (λ e. refl) (ReportAnswers d.config bytes images list) (report_apart d.config bytes images list apart))
    (λ s t one other a b p q na nb. text_agree _ _ a b p q)

pub text_apart : (text : List ℕ) (list : List Layout) → IsRightFor text (Ok list) → NoneClash list
text_apart text list says = says.sound.apart

pub dump_agree : (d : Dump) (contents : List (List ℕ)) → Agree (IsDumpOutcome d contents)
dump_agree d [] a b one other na nb = absurd one
dump_agree d (bytes ∷ []) a b one other na nb = absurd one
dump_agree d (bytes ∷ text ∷ images) a b one other na nb =
    layouts_agree (IsRightFor text) (IsDumpedBy d bytes (images_read d.images images)) (right-unique text)
    (λ list says. dumped_agree d bytes (images_read d.images images) list (text_apart text list says)) a b one other na nb

dumped_sound : (d : Dump) (bytes : List ℕ) (images : Pushed) (list : List Layout) → NoneClash list
    → IsReadable bytes images list d.config → NoCause (IsDumpedBy d bytes images list)
dumped_sound d bytes images list apart good = steps_sound cause_status IsOwnCause (λ error. Core error) (ReportAnswers d.config bytes images list) (IsReported d)
    (λ e error ne. report_complete bytes images list d.config apart good e error (err_kept e (core_one e ne).1))
    (λ r found. text_sound (shown_report d r))

pub dump_sound : (d : Dump) (contents : List (List ℕ)) → IsFaultlessDump d contents → NoCause (IsDumpOutcome d contents)
dump_sound d [] good cause ne is = absurd good
dump_sound d (bytes ∷ []) good cause ne is = absurd good
dump_sound d (bytes ∷ text ∷ images) (list, says, good) cause ne is =
    layouts_sound (IsRightFor text) (IsDumpedBy d bytes (images_read d.images images)) (right-unique text) list says
    (dumped_sound d bytes (images_read d.images images) list (text_apart text list says) good) cause ne is

-- ---- cores in groups

triaged_agree : (t : Triage) (contents : List (List ℕ)) (list : List Layout) → Agree (IsTriagedBy t contents list)
triaged_agree t contents list a b (s, one, is) (u, other, same) na nb = text_agree s u a b is same

pub triage_agree : (t : Triage) (contents : List (List ℕ)) → Agree (IsTriageOutcome t contents)
triage_agree t [] a b one other na nb = absurd one
triage_agree t (text ∷ contents) a b one other na nb =
    layouts_agree (IsRightFor text) (IsTriagedBy t contents) (right-unique text) (λ list says. triaged_agree t contents list) a b one other na nb

pub triage_sound : (t : Triage) (contents : List (List ℕ)) → IsFaultlessTriage t contents → NoCause (IsTriageOutcome t contents)
triage_sound t [] good cause ne is = absurd good
triage_sound t (text ∷ contents) (list, says) cause ne is =
    layouts_sound (IsRightFor text) (IsTriagedBy t contents) (right-unique text) list says (λ c n p. text_sound p.0 c n p.2) cause ne is

-- layouts that are right have no flaw
pub flawless : (text : List ℕ) (list : List Layout) → IsRightFor text (Ok list) → ¬ HasFlaw text
flawless text list says h = flaw_apart (IsRightFor text) (right-unique text) list h.flaw h.not_memory says h.is

-- ---- what locals lead to

stacked_apart_by : (config : Config) (bytes : List ℕ) (images : Pushed) (list : List Layout) → NoneClash list → (s : Stacked) (e : CoreError)
    → StackedIs bytes images list config (Ok s) → StackedIs bytes images list config (Err e) → e ≢ core.OutOfMemory → ⊥
stacked_apart_by config bytes images list apart s e one other ne =
    ok_not_err s e (stacked_agree bytes images list config (chooses_once list apart) (Ok s) (Err e) one other
    (ok_not_err s core.OutOfMemory) (λ is. ne (err_is e core.OutOfMemory is)))

reach_own : (e : ReachError) → reach_status e ≢ 5 → e ≡ reaching.ReachLimit
reach_own reaching.ReachLimit ne = refl
reach_own reaching.OutOfMemory ne = absurd (ne refl)

led_exclude : (s : Stacked) (thread : Trace) → Excludes cause_status (λ error. Reach error) (LeadsTo s thread)
led_exclude s thread = record {
  apart = λ objects e one other ne. one.1 (subst (λ x. LeadsTo s thread (Err x)) (reach_own e ne) other);
  alike = λ e f one other ne nf. ap reach_status (reach_own e ne) ∙ sym (ap reach_status (reach_own f nf));
}

from_agree : (s : Stacked) (thread : Trace) → Agree (IsReachedFrom s thread)
from_agree s thread = steps_agree cause_status settled (λ error. Reach error) (LeadsTo s thread) (λ objects text. text ≡ Ok (reach_text objects))
    (led_exclude s thread) (λ x y one other a b p q na nb. text_agree _ _ a b p q)

in_agree : (index : ℕ) (s : Stacked) → Agree (IsReachedIn index s)
in_agree index s a b (inl one) (inl other) na nb = ap outcome_class one.1 ∙ sym (ap outcome_class other.1)
in_agree index s a b (inl one) (inr other) na nb = absurd (none-some other.0 (sym one.0 ∙ other.1))
in_agree index s a b (inr one) (inl other) na nb = absurd (none-some one.0 (sym other.0 ∙ one.1))
in_agree index s a b (inr one) (inr other) na nb =
    from_agree s one.0 a b one.2 (subst (λ t. IsReachedFrom s t b) (same_Some _ _ (sym other.1 ∙ one.1)) other.2) na nb

reached_agree : (r : AsksReach) (bytes : List ℕ) (images : Pushed) (list : List Layout) → NoneClash list → Agree (IsReachedBy r bytes images list)
reached_agree r bytes images list apart = steps_agree cause_status settled (λ error. Core error) (StackedIs bytes images list locals_asked) (IsReachedIn r.index)
    (core_exclude cause_status (λ error. Core error) (λ e. refl) (StackedIs bytes images list locals_asked) (stacked_apart_by locals_asked bytes images list apart))
    (λ s t one other a b p q na nb. in_agree r.index s a b p (subst (λ u. IsReachedIn r.index u b)
    (ok_is t s (stacked_agree bytes images list locals_asked (chooses_once list apart) (Ok t) (Ok s) other one (ok_kept t) (ok_kept s))) q) na nb)

pub reach_agree : (r : AsksReach) (contents : List (List ℕ)) → Agree (IsReachOutcome r contents)
reach_agree r [] a b one other na nb = absurd one
reach_agree r (bytes ∷ []) a b one other na nb = absurd one
reach_agree r (bytes ∷ text ∷ images) a b one other na nb =
    layouts_agree (IsRightFor text) (IsReachedBy r bytes (images_read r.images images)) (right-unique text)
    (λ list says. reached_agree r bytes (images_read r.images images) list (text_apart text list says)) a b one other na nb

from_sound : (s : Stacked) (thread : Trace) → NoCause (IsReachedFrom s thread)
from_sound s thread cause ne (inl p) = subst IsOwnCause (sym (cause_is cause _ p.1)) tt
from_sound s thread cause ne (inr p) = absurd (let h : _ = p.2 in cc)

in_sound : (index : ℕ) (s : Stacked) → NoCause (IsReachedIn index s)
in_sound index s cause ne (inl p) = subst IsOwnCause (sym (cause_is cause _ p.1)) tt
in_sound index s cause ne (inr p) = from_sound s p.0 cause ne p.2

reached_sound : (r : AsksReach) (bytes : List ℕ) (images : Pushed) (list : List Layout) → NoneClash list
    → IsReadable bytes images list locals_asked → NoCause (IsReachedBy r bytes images list)
reached_sound r bytes images list apart good = steps_sound cause_status IsOwnCause (λ error. Core error) (StackedIs bytes images list locals_asked) (IsReachedIn r.index)
    (λ e error ne. report_complete bytes images list locals_asked apart good e (unstacked bytes images list locals_asked e error) (err_kept e (core_one e ne).1))
    (λ s found. in_sound r.index s)

pub reach_sound : (r : AsksReach) (contents : List (List ℕ)) → IsFaultlessReach r contents → NoCause (IsReachOutcome r contents)
reach_sound r [] good cause ne is = absurd good
reach_sound r (bytes ∷ []) good cause ne is = absurd good
reach_sound r (bytes ∷ text ∷ images) (list, says, good) cause ne is =
    layouts_sound (IsRightFor text) (IsReachedBy r bytes (images_read r.images images)) (right-unique text) list says
    (reached_sound r bytes (images_read r.images images) list (text_apart text list says) good) cause ne is

-- ---- threads merged with native addresses

merge_exclude : (core : List ℕ) (images : Pushed) (python : ℕ → Bool) (thread : Trace) (text : List ℕ)
    → Excludes cause_status (λ error. Merge error) (CoreMergeIs core images python thread.frames text)
merge_exclude core images python thread text = record {
  apart = λ x e one other ne. merge_ok_err x e (core_merge_once core images python thread.frames text (Ok x) (Err e) one other);
  alike = λ e f one other ne nf.
      ap merge_status (merge_err_is e f (core_merge_once core images python thread.frames text (Err e) (Err f) one other));
}

merged_text_agree : (s t : List Call) (a b : Outcome) → IsMergedText s a → IsMergedText t b → outcome_class a ≡ outcome_class b
merged_text_agree s t a b one other = text_agree _ _ a b one.2 other.2

merging_agree : (core : List ℕ) (images : Pushed) (python : ℕ → Bool) (thread : Trace) (text : List ℕ)
    → Agree (OutcomeThen (λ error. Merge error) (CoreMergeIs core images python thread.frames text) IsMergedText)
merging_agree core images python thread text = steps_agree cause_status settled (λ error. Merge error)
    (CoreMergeIs core images python thread.frames text) IsMergedText (merge_exclude core images python thread text)
    (λ x y one other a b p q na nb. merged_text_agree x y a b p q)

merged_from_agree : (core : List ℕ) (images : Pushed) (text : List ℕ) (thread : Trace) → Agree (IsMergedFrom core images text thread)
merged_from_agree core images text thread a b (p, l, are, one) (q, k, also, other) na nb =
    let both = binaries_once core images p l q k are also in
    merging_agree core images (python_in p l) thread text a b one
    (subst (λ x. OutcomeThen (λ error. Merge error) (CoreMergeIs core images (python_in x l) thread.frames text) IsMergedText b) (sym both.0)
    (subst (λ y. OutcomeThen (λ error. Merge error) (CoreMergeIs core images (python_in q y) thread.frames text) IsMergedText b) (sym both.1) other)) na nb

merged_in_agree : (index : ℕ) (core : List ℕ) (images : Pushed) (text : List ℕ) (s : Stacked) → Agree (IsMergedIn index core images text s)
merged_in_agree index core images text s a b (inl one) (inl other) na nb = ap outcome_class one.1 ∙ sym (ap outcome_class other.1)
merged_in_agree index core images text s a b (inl one) (inr other) na nb = absurd (none-some other.0 (sym one.0 ∙ other.1))
merged_in_agree index core images text s a b (inr one) (inl other) na nb = absurd (none-some one.0 (sym other.0 ∙ one.1))
merged_in_agree index core images text s a b (inr one) (inr other) na nb =
    merged_from_agree core images text one.0 a b one.2 (subst (λ t. IsMergedFrom core images text t b) (same_Some _ _ (sym other.1 ∙ one.1)) other.2) na nb

merged_agree : (m : AsksMerge) (core : List ℕ) (images : Pushed) (text : List ℕ) (list : List Layout) → NoneClash list
    → Agree (IsMergedBy m core images text list)
merged_agree m core images text list apart = steps_agree cause_status settled (λ error. Core error) (StackedIs core images list default_config) (IsMergedIn m.index core images text)
    (core_exclude cause_status (λ error. Core error) (λ e. refl) (StackedIs core images list default_config) (stacked_apart_by default_config core images list apart))
    (λ s t one other a b p q na nb. merged_in_agree m.index core images text s a b p (subst (λ u. IsMergedIn m.index core images text u b)
    (ok_is t s (stacked_agree core images list default_config (chooses_once list apart) (Ok t) (Ok s) other one (ok_kept t) (ok_kept s))) q) na nb)

pub merge_agree : (m : AsksMerge) (contents : List (List ℕ)) → Agree (IsMergeOutcome m contents)
merge_agree m [] a b one other na nb = absurd one
merge_agree m (core ∷ []) a b one other na nb = absurd one
merge_agree m (core ∷ layouts ∷ rest) a b (text, is, one) (more, also, other) na nb =
    layouts_agree (IsRightFor layouts) (IsMergedBy m core (images_read m.images rest) text) (right-unique layouts)
    (λ list says. merged_agree m core (images_read m.images rest) text list (text_apart layouts list says)) a b one
    (subst (λ t. OutcomeThen (λ error. Layouts error) (IsRightFor layouts) (IsMergedBy m core (images_read m.images rest) t) b)
    (one_text more text (sym also ∙ is)) other) na nb
  where
    one_text : (x y : List ℕ) → x ∷ [] ≡ y ∷ [] → x ≡ y
    one_text x y is = cc

merging_sound : (core : List ℕ) (images : Pushed) (python : ℕ → Bool) (thread : Trace) (text : List ℕ)
    → NoCause (OutcomeThen (λ error. Merge error) (CoreMergeIs core images python thread.frames text) IsMergedText)
merging_sound core images python thread text cause ne (inl p) = subst IsOwnCause (sym (cause_is cause _ p.1)) tt
merging_sound core images python thread text cause ne (inr p) = absurd (let h : _ = p.2.2 in cc)

merged_in_sound : (index : ℕ) (core : List ℕ) (images : Pushed) (text : List ℕ) (s : Stacked) → NoCause (IsMergedIn index core images text s)
merged_in_sound index core images text s cause ne (inl p) = subst IsOwnCause (sym (cause_is cause _ p.1)) tt
merged_in_sound index core images text s cause ne (inr p) =
    merging_sound core images (python_in p.2.0 p.2.1) p.0 text cause ne p.2.3

merged_sound : (m : AsksMerge) (core : List ℕ) (images : Pushed) (text : List ℕ) (list : List Layout) → NoneClash list
    → IsReadable core images list default_config → NoCause (IsMergedBy m core images text list)
merged_sound m core images text list apart good = steps_sound cause_status IsOwnCause (λ error. Core error) (StackedIs core images list default_config) (IsMergedIn m.index core images text)
    (λ e error ne. report_complete core images list default_config apart good e (unstacked core images list default_config e error) (err_kept e (core_one e ne).1))
    (λ s found. merged_in_sound m.index core images text s)

pub merge_sound : (m : AsksMerge) (contents : List (List ℕ)) → IsFaultlessMerge m contents → NoCause (IsMergeOutcome m contents)
merge_sound m [] good cause ne is = absurd good
merge_sound m (core ∷ []) good cause ne is = absurd good
merge_sound m (core ∷ layouts ∷ rest) (list, says, good) cause ne (text, last, is) =
    layouts_sound (IsRightFor layouts) (IsMergedBy m core (images_read m.images rest) text) (right-unique layouts) list says
    (merged_sound m core (images_read m.images rest) text list (text_apart layouts list says) good) cause ne is
