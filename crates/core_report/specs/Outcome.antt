-- What a command comes to over the contents of its files.
use Rattle.std.specs.Prelude.{◌≡◌, ◌≢◌, ◌⊎◌, ℕ, Bool, true, false, List, [], ◌∷◌, drop, length, slice_get, ⊤, Option}
use Rattle.std.specs.Prelude.{Some, None, Result, Ok, Err, Vec, if◌then◌else◌}
use Rattle.std.specs.Global.{Global}
use Rattle.py_fields.specs.declared.layout.Layout.{Layout}
use Rattle.py_fields.specs.Samples.{sample_layout}
use Rattle.py_layout.specs.File.{IsRightFor}
use Rattle.py_layout.specs.declared.error.LayoutError.{LayoutError}
use Rattle.py_stacks.specs.Threads.{Trace}
use Rattle.py_stacks.specs.declared.trace.StackTrace.{StackTrace}
use Rattle.py_process.specs.declared.core_error.CoreError.{CoreError}
use Rattle.core_words.specs.Dump.{Dump}
use Rattle.core_words.specs.Words.{Command, LayoutSource, Locate as AsksLocate, Merge as AsksMerge, Reach as AsksReach}
use Rattle.core_words.specs.Words.{Sample as AsksSample, Slim as AsksSlim, Triage, Walk, dump, file, locate, merge}
use Rattle.core_words.specs.Words.{reach, sample, seeded, slim, triage, walk}
use Rattle.core_texts.specs.Text.{frames_text, report_text, walk_text}
use Rattle.core_texts.specs.Tree.{report_json}
use Rattle.image_memory.specs.Images.{Pushed}
pub use Rattle.named_images.specs.Named.{images_by, images_read}
use Rattle.program_run.specs.Outcomes.{IsAnswerBy, OutcomeThen, status_by}
pub use Rattle.program_run.specs.Statuses.{core_status, layouts_status}
use Rattle.py_stacks.specs.declared.config.Config.{Config}
use Rattle.py_process.specs.Reports.{IsReadable, ReportIs, reported}
use Rattle.py_process.specs.declared.report.Report.{Report}
use Rattle.core_stacks.specs.Answer.{IsWalkable, Means, traced}
use Rattle.core_merge.specs.CoreMerges.{CoreMergeIs}
use Rattle.core_merge.specs.declared.error.CoreMergeError.{CoreMergeError}
use Rattle.core_merge.specs.declared.error.CoreMergeError.TheVariants as merging
use Rattle.native_merge.specs.PythonFrames.{calls}
use Rattle.py_process.specs.Facts.{Facts}
use Rattle.py_stacks.specs.Asking.{default_config}
use Rattle.py_stacks.specs.Frames.{Call}
use Rattle.py_stacks.specs.declared.trace.Frame.{Frame}
use Rattle.core_stacks.specs.Opened.{Opened}
use Rattle.core_stacks.specs.Seen.{AreBinaries}
use Rattle.core_stacks.specs.Slimmed.{SlimmedSays}
use Rattle.object_reach.specs.declared.reached.ReachError.{ReachError}
use Rattle.object_reach.specs.declared.reached.ReachError.TheVariants as reaching
use Rattle.core_report.specs.declared.cause.Cause.{Cause}
use Rattle.core_report.specs.declared.cause.Cause.TheVariants.{Core, Layouts, Merge, MergeIndex, Reach, ReachIndex}
use Rattle.core_report.specs.declared.cause.Cause.TheVariants.{TooManyPieces, OutOfMemory}
use Rattle.core_report.specs.Grouped.{IsGroupedText}
use Rattle.image_builder.specs.Generated.{generated}
use Rattle.image_builder.specs.Inverse.{IsCoreOf}
use Rattle.program_report.specs.Samples.{sample_core, sample_text}
use Rattle.core_report.specs.Merged.{python_in}
use Rattle.core_report.specs.Opening.{OpenedIs, level_asked, locate_text, slim_cause}
use Rattle.core_report.specs.Stacked.{LeadsTo, Stacked, StackedIs, locals_asked, reach_text}

-- a command's text, or the cause why there is none
abbrev pub Outcome : Type 0
Outcome = Result (List ℕ) Cause

-- ---- steps

-- the layouts of a source and of what its file holds, or the first error of the file
abbrev pub SourceSays : LayoutSource → List (List ℕ) → Result (List Layout) LayoutError → Type 0
SourceSays sample [] answer = answer ≡ Ok (sample_layout ∷ [])
SourceSays (file name) (text ∷ []) answer = IsRightFor text answer
SourceSays _ _ answer = ⊥

-- the same, of the text of a layout file, or of none
abbrev pub TextSays : Option (Vec ℕ Global) → Result (List Layout) LayoutError → Type 0
TextSays None answer = answer ≡ Ok (sample_layout ∷ [])
TextSays (Some text) answer = IsRightFor text.items answer

-- the traces of a walk over a core's bytes, or the cause why there are none
abbrev pub WalkAnswers : Walk → List ℕ → List Layout → Result (Vec StackTrace Global) CoreError → Type 0
WalkAnswers w bytes layouts answer = Means bytes layouts w.version w.addresses (traced answer)

-- ---- commands

-- the text of these traces
abbrev pub IsShown : Walk → Vec StackTrace Global → Outcome → Type 0
IsShown w traces outcome = outcome ≡ Ok (walk_text w.version traces.items)

-- a walk over a core's bytes by these layouts
abbrev pub IsWalkedBy : Walk → List ℕ → List Layout → Outcome → Type 0
IsWalkedBy w bytes layouts outcome = OutcomeThen (λ error. Core error) (WalkAnswers w bytes layouts) (IsShown w) outcome

-- the layouts are judged first, and then the core is walked
abbrev pub IsWalkOutcome : Walk → List (List ℕ) → Outcome → Type 0
IsWalkOutcome w [] outcome = ⊥
IsWalkOutcome w (bytes ∷ rest) outcome =
    OutcomeThen (λ error. Layouts error) (SourceSays w.layouts rest) (IsWalkedBy w bytes) outcome

-- the report of a core and its images, as the words ask for it, or the cause why there is none
abbrev pub ReportAnswers : Config → List ℕ → Pushed → List Layout → Result Report CoreError → Type 0
ReportAnswers config core images layouts answer = ReportIs core images layouts config (reported answer)

-- the text of a report, or its threads as JSON, as the words ask
abbrev pub shown_report : Dump → Report → List ℕ
shown_report d r = if d.config.dump_json then report_json r.traces.items
    else report_text d.core r.signal r.process r.version r.traces.items

-- the text of a report
abbrev pub IsReported : Dump → Report → Outcome → Type 0
IsReported d r outcome = outcome ≡ Ok (shown_report d r)

-- a report of a core and its images by these layouts
abbrev pub IsDumpedBy : Dump → List ℕ → Pushed → List Layout → Outcome → Type 0
IsDumpedBy d core images layouts outcome =
    OutcomeThen (λ error. Core error) (ReportAnswers d.config core images layouts) (IsReported d) outcome

-- the layouts are judged first, and then the report is made
abbrev pub IsDumpOutcome : Dump → List (List ℕ) → Outcome → Type 0
IsDumpOutcome d (core ∷ text ∷ images) outcome =
    OutcomeThen (λ error. Layouts error) (IsRightFor text) (IsDumpedBy d core (images_read d.images images)) outcome
IsDumpOutcome d _ outcome = ⊥

-- the cores in groups, by these layouts
abbrev pub IsTriagedBy : Triage → List (List ℕ) → List Layout → Outcome → Type 0
IsTriagedBy t contents layouts outcome = (text : List ℕ)
    × IsGroupedText t.cores (images_read t.images contents) layouts (drop (length t.images) contents) text
    × (outcome ≡ Ok text)

-- The layouts are judged first: where they are at fault, no core was read. Else each core has a report or is refused
abbrev pub IsTriageOutcome : Triage → List (List ℕ) → Outcome → Type 0
IsTriageOutcome t [] outcome = ⊥
IsTriageOutcome t (text ∷ contents) outcome =
    OutcomeThen (λ error. Layouts error) (IsRightFor text) (IsTriagedBy t contents) outcome

-- the objects that a thread's locals lead to, or that they are too many
abbrev pub IsReachedFrom : Stacked → Trace → Outcome → Type 0
IsReachedFrom s thread outcome =
    OutcomeThen (λ error. Reach error) (LeadsTo s thread) (λ objects text. text ≡ Ok (reach_text objects)) outcome

-- the thread of a number, from 0 on, or that there is none
abbrev pub IsReachedIn : ℕ → Stacked → Outcome → Type 0
IsReachedIn index s outcome =
    ((slice_get s.traces index ≡ None) × (outcome ≡ Err (ReachIndex index)))
    ⊎ ((thread : Trace) × (slice_get s.traces index ≡ Some thread) × IsReachedFrom s thread outcome)

-- the process of a core and its images, with its traces, by these layouts
abbrev pub IsReachedBy : AsksReach → List ℕ → Pushed → List Layout → Outcome → Type 0
IsReachedBy r core images layouts outcome = OutcomeThen (λ error. Core error)
    (StackedIs core images layouts locals_asked) (IsReachedIn r.index) outcome

-- the layouts are judged first, then the report's threads with their locals are read, and then what one leads to
abbrev pub IsReachOutcome : AsksReach → List (List ℕ) → Outcome → Type 0
IsReachOutcome r (core ∷ text ∷ images) outcome =
    OutcomeThen (λ error. Layouts error) (IsRightFor text) (IsReachedBy r core (images_read r.images images)) outcome
IsReachOutcome r _ outcome = ⊥

-- the text of merged frames
abbrev pub IsMergedText : List Call → Outcome → Type 0
IsMergedText shown outcome = (frames : List Frame) × (calls frames ≡ shown) × (outcome ≡ Ok (frames_text frames))

-- the frames of a thread, merged with the addresses of a text: by the core's maps, the images, and what those of the
-- program and of Python's library say of which addresses are Python's
abbrev pub IsMergedFrom : List ℕ → Pushed → List ℕ → Trace → Outcome → Type 0
IsMergedFrom core images text thread outcome = (program library : Option Facts)
    × AreBinaries core images program library
    × OutcomeThen (λ error. Merge error)
    (CoreMergeIs core images (python_in program library) thread.frames text) IsMergedText outcome

-- those of the thread of a number, from 0 on, or that there is none
abbrev pub IsMergedIn : ℕ → List ℕ → Pushed → List ℕ → Stacked → Outcome → Type 0
IsMergedIn index core images text s outcome =
    ((slice_get s.traces index ≡ None) × (outcome ≡ Err (MergeIndex index)))
    ⊎ ((thread : Trace) × (slice_get s.traces index ≡ Some thread) × IsMergedFrom core images text thread outcome)

-- the outcome of `merge` over what the files hold
abbrev pub IsMergedBy : AsksMerge → List ℕ → Pushed → List ℕ → List Layout → Outcome → Type 0
IsMergedBy m core images text layouts outcome = OutcomeThen (λ error. Core error)
    (StackedIs core images layouts default_config) (IsMergedIn m.index core images text) outcome

-- the layouts are judged first, then the report's threads are read, and then one is merged with the addresses of the
-- last file
abbrev pub IsMergeOutcome : AsksMerge → List (List ℕ) → Outcome → Type 0
IsMergeOutcome m (core ∷ layouts ∷ rest) outcome = (text : List ℕ) × (drop (length m.images) rest ≡ text ∷ [])
    × OutcomeThen (λ error. Layouts error) (IsRightFor layouts)
    (IsMergedBy m core (images_read m.images rest) text) outcome
IsMergeOutcome m _ outcome = ⊥

-- the process by the contents of the files of a report, or the cause why nothing is found of it: the layouts are judged
-- first
abbrev pub OpensBy : List (List ℕ × List ℕ) → List (List ℕ) → Result Opened Cause → Type 0
OpensBy named (core ∷ text ∷ images) (Ok o) = (layouts : List Layout) × IsRightFor text (Ok layouts)
    × OpenedIs core (images_read named images) layouts (Ok o)
OpensBy named (core ∷ text ∷ images) (Err (Layouts error)) = IsRightFor text (Err error)
OpensBy named (core ∷ text ∷ images) (Err (Core error)) = (layouts : List Layout) × IsRightFor text (Ok layouts)
    × OpenedIs core (images_read named images) layouts (Err error)
OpensBy named _ _ = ⊥

-- the version of Python that ran, and where its interpreter is
abbrev pub IsLocated : Opened → Outcome → Type 0
IsLocated o outcome = outcome ≡ Ok (locate_text o.finding.version o.finding.addresses)

-- the outcome of `locate` over what the files hold
abbrev pub IsLocateOutcome : AsksLocate → List (List ℕ) → Outcome → Type 0
IsLocateOutcome l contents outcome = OutcomeThen (λ cause. cause) (OpensBy l.images contents) IsLocated outcome

-- the bytes of a slim core for these stacks, or why there is none
abbrev pub IsSlimmedFrom : ℕ → Opened → Outcome → Type 0
IsSlimmedFrom level o outcome =
    OutcomeThen slim_cause (SlimmedSays o (level_asked level)) (λ bytes text. text ≡ Ok bytes) outcome

-- the outcome of `slim` over what the files hold
abbrev pub IsSlimOutcome : AsksSlim → List (List ℕ) → Outcome → Type 0
IsSlimOutcome s contents outcome =
    OutcomeThen (λ cause. cause) (OpensBy s.images contents) (IsSlimmedFrom s.level) outcome

-- three lines of the program of a seed, or the bytes of its core, which has the stacks of that program (`IsCoreOf`)
abbrev pub IsSampledAs : (core : Bool) → ℕ → Outcome → Type 0
IsSampledAs false seed outcome = outcome ≡ Ok (sample_text seed (generated seed))
IsSampledAs true seed outcome =
    IsCoreOf sample_layout (generated seed) (sample_core seed) × (outcome ≡ Ok (sample_core seed))

-- the outcome of `sample`, which reads no file
abbrev pub IsSampleOutcome : AsksSample → List (List ℕ) → Outcome → Type 0
IsSampleOutcome s [] outcome = IsSampledAs s.core s.seed outcome
IsSampleOutcome s _ outcome = ⊥

-- what a command comes to over the contents of all that it asks for
abbrev pub IsOutcome : Command → List (List ℕ) → Outcome → Type 0
IsOutcome (walk w) contents outcome = IsWalkOutcome w contents outcome
IsOutcome (dump d) contents outcome = IsDumpOutcome d contents outcome
IsOutcome (triage t) contents outcome = IsTriageOutcome t contents outcome
IsOutcome (reach r) contents outcome = IsReachOutcome r contents outcome
IsOutcome (merge m) contents outcome = IsMergeOutcome m contents outcome
IsOutcome (locate l) contents outcome = IsLocateOutcome l contents outcome
IsOutcome (slim s) contents outcome = IsSlimOutcome s contents outcome
IsOutcome (seeded s) contents outcome = IsSampleOutcome s contents outcome

-- ---- contents with which nothing is wrong

-- no cause applies to these files under `walk`
abbrev pub IsFaultlessWalk : Walk → List (List ℕ) → Type 0
IsFaultlessWalk w [] = ⊥
IsFaultlessWalk w (bytes ∷ rest) =
    (layouts : List Layout) × SourceSays w.layouts rest (Ok layouts) × IsWalkable bytes layouts w.version w.addresses

-- no cause applies to these files under `dump`
abbrev pub IsFaultlessDump : Dump → List (List ℕ) → Type 0
IsFaultlessDump d (core ∷ text ∷ images) = (layouts : List Layout) × IsRightFor text (Ok layouts)
    × IsReadable core (images_read d.images images) layouts d.config
IsFaultlessDump d _ = ⊥

-- no cause applies to these files under `triage`
abbrev pub IsFaultlessTriage : Triage → List (List ℕ) → Type 0
IsFaultlessTriage t [] = ⊥
IsFaultlessTriage t (text ∷ contents) = (layouts : List Layout) × IsRightFor text (Ok layouts)

-- no cause of reading applies to these files under `reach`
abbrev pub IsFaultlessReach : AsksReach → List (List ℕ) → Type 0
IsFaultlessReach r (core ∷ text ∷ images) = (layouts : List Layout) × IsRightFor text (Ok layouts)
    × IsReadable core (images_read r.images images) layouts locals_asked
IsFaultlessReach r _ = ⊥

-- no cause of reading applies to these files under `merge`
abbrev pub IsFaultlessMerge : AsksMerge → List (List ℕ) → Type 0
IsFaultlessMerge m (core ∷ text ∷ rest) = (layouts : List Layout) × IsRightFor text (Ok layouts)
    × IsReadable core (images_read m.images rest) layouts default_config
IsFaultlessMerge m _ = ⊥

-- the stacks of the process of a core can be read, as they are asked for
abbrev pub IsFaultlessProcess : List (List ℕ × List ℕ) → Config → List (List ℕ) → Type 0
IsFaultlessProcess named config (core ∷ text ∷ images) = (layouts : List Layout) × IsRightFor text (Ok layouts)
    × IsReadable core (images_read named images) layouts config
IsFaultlessProcess named config _ = ⊥

-- no cause of reading applies to these files under a command
abbrev pub IsFaultless : Command → List (List ℕ) → Type 0
IsFaultless (walk w) contents = IsFaultlessWalk w contents
IsFaultless (dump d) contents = IsFaultlessDump d contents
IsFaultless (triage t) contents = IsFaultlessTriage t contents
IsFaultless (reach r) contents = IsFaultlessReach r contents
IsFaultless (merge m) contents = IsFaultlessMerge m contents
IsFaultless (locate l) contents = IsFaultlessProcess l.images default_config contents
IsFaultless (slim s) contents = IsFaultlessProcess s.images (level_asked s.level) contents
IsFaultless (seeded s) contents = ⊤

-- the causes that a command may come to though nothing is wrong with its files
abbrev pub IsOwnCause : Cause → Type 0
IsOwnCause (Reach error) = ⊤
IsOwnCause (ReachIndex index) = ⊤
IsOwnCause (Merge error) = ⊤
IsOwnCause (MergeIndex index) = ⊤
IsOwnCause (TooManyPieces count) = ⊤
IsOwnCause _ = ⊥

-- ---- statuses

-- the status of an error of `reach`
abbrev pub reach_status : ReachError → ℕ
reach_status reaching.OutOfMemory = 5
reach_status reaching.ReachLimit = 9

-- the status of an error of `merge`
abbrev pub merge_status : CoreMergeError → ℕ
merge_status merging.OutOfMemory = 5
merge_status _ = 7

-- out of memory has one status, wherever it came
abbrev pub cause_status : Cause → ℕ
cause_status (Core error) = core_status error
cause_status (Layouts error) = layouts_status error
cause_status (Reach error) = reach_status error
cause_status (ReachIndex index) = 9
cause_status (Merge error) = merge_status error
cause_status (MergeIndex index) = 7
cause_status (TooManyPieces count) = 8
cause_status OutOfMemory = 5

-- the status of an outcome
abbrev pub outcome_status : Outcome → ℕ
outcome_status outcome = status_by cause_status outcome

-- the answer of some work is right, unless memory ran out
abbrev pub IsAnswer : (Outcome → Type 0) → Result (Vec ℕ Global) Cause → Type 0
IsAnswer Right result = IsAnswerBy cause_status Right result

-- the process is opened by these contents, or not by a cause, unless memory ran out
abbrev pub IsOpening : List (List ℕ × List ℕ) → List (List ℕ) → Result Opened Cause → Type 0
IsOpening named contents (Ok o) = OpensBy named contents (Ok o)
IsOpening named contents (Err cause) = cause_status cause ≢ 5 → OpensBy named contents (Err cause)

-- the layouts, or their error, are what is said, unless memory ran out
abbrev pub IsJudged : (Result (List Layout) LayoutError → Type 0) → Result (List Layout) Cause → Type 0
IsJudged Says (Ok layouts) = Says (Ok layouts)
IsJudged Says (Err cause) =
    cause_status cause ≢ 5 → (error : LayoutError) × (cause ≡ Layouts error) × Says (Err error)
