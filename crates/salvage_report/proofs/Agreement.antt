-- Two outcomes over the same contents have one status, out of memory aside; and over contents with which nothing is
-- wrong no outcome is a cause.
use Rattle.std.proofs.Common.{◌≡◌, ◌≢◌, ◌≤◌, ℕ, List, [], ◌∷◌, Ok, Err, refl, sym, ap, subst, ◌∙◌, arith}
use Rattle.std.proofs.Common.{inl, inr}
use Rattle.std.specs.Prelude.{Option, Some, None, map}
use Rattle.elf64_core.specs.Header.{machine_of}
use Rattle.image_memory.specs.Images.{Pushed}
use Rattle.image_memory.specs.Maps.{in_maps}
use Rattle.image_memory.specs.declared.maps.CoreMapRange.{CoreMapRange}
use Rattle.image_memory.proofs.Noted.{AreMaps-once, notes_same}
use Rattle.py_fields.specs.declared.layout.Layout.{Layout}
use Rattle.py_layout.specs.File.{IsRightFor}
use Rattle.py_layout.proofs.Answering.{right-unique}
use Rattle.py_process.specs.declared.core_error.CoreError.{CoreError}
use Rattle.py_process.specs.declared.core_error.CoreError.TheVariants as core
use Rattle.py_process.proofs.Agreement.{err_is, ok_is, ok_kept, ok_not_err}
use Rattle.py_process.proofs.FindingLaws.{ChoosesOnce}
use Rattle.core_stacks.specs.Named.{ProcessOrNamed}
use Rattle.core_stacks.specs.Process.{OpenedProcess}
use Rattle.core_stacks.proofs.Layouts.{chooses_once}
use Rattle.py_fronts.specs.declared.search.Looked.{Looked}
use Rattle.py_fronts.specs.Salvaged.{LockedInterpreter, SalvagedShown, locked}
use Rattle.heap_search.proofs.SalvageSteps.{interpreters_same}
use Rattle.py_fronts.specs.declared.crash.Crash.{Crash}
use Rattle.py_fronts.specs.declared.salvaged.SalvagedInterpreter.{SalvagedInterpreter}
use Rattle.salvage_words.specs.Salvage.{Salvage}
use Rattle.salvage_report.specs.declared.cause.Cause.{Cause}
use Rattle.salvage_report.specs.declared.cause.Cause.TheVariants.{Core, Layouts, NoInterpreter, OutOfMemory, Records}
use Rattle.salvage_report.specs.declared.left.Left.{Left}
use Rattle.py_records.specs.File.{IsRightFor as AreRightFor}
use Rattle.py_records.specs.declared.table.RecordTable.{RecordTable}
use Rattle.salvage_report.proofs.NamedOpening.{opened_agree}
use Rattle.salvage_report.proofs.Recorded.{records_apart, records_exclude, records_flaw, records_own, records_within}
use Rattle.salvage_report.proofs.Recorded.{tables_once}
use Rattle.salvage_report.specs.Outcome.{IsCoreFaultless, IsCoreOutcome, IsFaultless, IsFaultlessBy, IsOutcomeBy}
use Rattle.salvage_report.specs.Outcome.{IsLeft, IsLeftOf, IsOutcome, IsSalvagedBy, IsShowable, Outcome}
use Rattle.salvage_report.specs.Outcome.{SearchesBy, asked_of, cause_status, left_at, tables_for}
use Rattle.salvage_report.specs.Pointers.{PointersTold, pointers_of}
use Rattle.py_process.specs.Reports.{memory_in}
use Rattle.salvage_report.specs.Outcome.{outcome_status, shown_or_none}
use Rattle.named_images.specs.Named.{images_read}
use Rattle.program_run.specs.Ends.{IsOwn}
use Rattle.program_run.proofs.Outcomes.{AgreeBy, Excludes, NoCauseBut, core_exclude, flaw_apart, layouts_exclude}
use Rattle.program_run.proofs.Outcomes.{ok_unique, steps_agree, steps_sound}
use Rattle.program_run.proofs.Statuses.{core_one, core_own, core_within, flaw_status, layouts_own, layouts_within, own}
use Rattle.salvage_report.specs.Texts.{shown_left}

-- two outcomes have one status, unless memory ran out
abbrev pub AgreeIn : (Outcome → Type 0) → Type 0
AgreeIn Right = AgreeBy cause_status (λ n. n) Right

-- no cause is right but out of memory
abbrev pub NoCause : (Outcome → Type 0) → Type 0
NoCause Right = NoCauseBut cause_status (λ cause. ⊥) Right

-- ---- statuses

pub cause_own : (cause : Cause) → IsOwn (cause_status cause)
cause_own (Core e) = core_own e
cause_own (Layouts e) = layouts_own e
cause_own (Records e) = records_own e
cause_own (NoInterpreter addresses members) = own 1 (inl refl)
cause_own OutOfMemory = own 5 (inr (omega arith))

pub cause_within : (cause : Cause) → cause_status cause ≤ 6
cause_within (Core e) = core_within e
cause_within (Layouts e) = layouts_within e
cause_within (Records e) = records_within e
cause_within (NoInterpreter addresses members) = omega arith
cause_within OutOfMemory = omega arith

-- ---- layouts

laid_once : (text : List ℕ) (a b : List Layout) → IsRightFor text (Ok a) → IsRightFor text (Ok b) → a ≡ b
laid_once text a b one other = ok_unique (IsRightFor text) (right-unique text) a b one other

-- ---- the opened process

module _ (layouts : List Layout) (once : ChoosesOnce layouts) where
  opened_once : (bytes : List ℕ) (images : Pushed) (o p : OpenedProcess) → ProcessOrNamed bytes images layouts (Ok o)
      → ProcessOrNamed bytes images layouts (Ok p) → o ≡ p
  opened_once bytes images o p one other = ok_is o p (opened_agree bytes images layouts once (Ok o) (Ok p) one other
      (ok_kept o) (ok_kept p))

  opened_apart : (bytes : List ℕ) (images : Pushed) (o : OpenedProcess) (e : CoreError)
      → ProcessOrNamed bytes images layouts (Ok o) → ProcessOrNamed bytes images layouts (Err e)
      → e ≢ core.OutOfMemory → ⊥
  opened_apart bytes images o e one other ne =
      ok_not_err o e (opened_agree bytes images layouts once (Ok o) (Err e) one other (ok_kept o)
      (λ is. ne (err_is e core.OutOfMemory is)))

  opened_excludes : (bytes : List ℕ) (images : Pushed) → Excludes cause_status (λ error. Core error)
      (ProcessOrNamed bytes images layouts)
  opened_excludes bytes images =
      core_exclude cause_status (λ error. Core error) (λ e. refl) (ProcessOrNamed bytes images layouts)
      (opened_apart bytes images)

-- ---- what is left

-- a core tells one list of thread pointers
pointers_once : (bytes one other : List ℕ) → PointersTold bytes one → PointersTold bytes other → one ≡ other
pointers_once bytes one other h k =
    h.says ∙ ap (pointers_of (machine_of bytes))
    (notes_same bytes h.notes k.notes h.are.entries k.are.entries h.are.found k.are.found) ∙ sym k.says

-- whether some interpreters are shown is what their values say
abbrev SameKind : List SalvagedInterpreter → List SalvagedInterpreter → Type 0
SameKind is js = (n m : Looked) (s t : List ℕ) → outcome_status (shown_or_none is n s) ≡ outcome_status
    (shown_or_none js m t)

none_some : (x : LockedInterpreter) (xs : List LockedInterpreter) → [] ≡ x ∷ xs → ⊥
none_some x xs is = cc

same_kind : (is js : List SalvagedInterpreter) → map locked is ≡ map locked js → SameKind is js
same_kind [] [] same n m s t = refl
same_kind [] (j ∷ js) same n m s t = absurd (none_some (locked j) (map locked js) same)
same_kind (i ∷ is) [] same n m s t = absurd (none_some (locked i) (map locked is) (sym same))
same_kind (i ∷ is) (j ∷ js) same n m s t = refl

some_shown : (is : List SalvagedInterpreter) (n : Looked) (s : List ℕ) (cause : Cause) → map locked is ≢ []
    → Err cause ≡ shown_or_none is n s → ⊥
some_shown [] n s cause some e = some refl
some_shown (i ∷ is) n s cause some e = absurd (cc)

module _ (s : Salvage) (bytes : List ℕ) (images : Pushed) (ts : List RecordTable) where
  -- the interpreters that are shown don't depend on which thread got the signal
  shown_of : (o : OpenedProcess) (left : Left) (crash : Option Crash) (segments : List CoreMapRange)
      (pointers : List ℕ) → SearchesBy bytes segments pointers → IsLeft s ts bytes images o left
      → map locked left.salvaged.interpreters.items ≡ (left_at s bytes o crash segments pointers).interpreters
  shown_of o left crash segments pointers by h =
      ap (λ (x : SalvagedShown). x.interpreters) (h.salvaged
      ∙ ap (λ xs. left_at s bytes o left.salvaged.crash xs h.pointers)
      (AreMaps-once bytes h.segments segments h.by.are by.are)
      ∙ ap (left_at s bytes o left.salvaged.crash segments)
      (pointers_once bytes h.pointers pointers h.by.told by.told))
      ∙ interpreters_same (in_maps o.dumped.maps) (machine_of bytes) o.known o.version o.layout (memory_in o.dumped)
      (asked_of s) s.limit left.salvaged.crash crash segments pointers

  left_agree : (o : OpenedProcess) → AgreeIn (IsLeftOf s ts bytes images o)
  left_agree o a b (left, h, is) (other, k, also) na nb =
      ap outcome_status is
      ∙ same_kind left.salvaged.interpreters.items other.salvaged.interpreters.items
      (shown_of o left left.salvaged.crash h.segments h.pointers h.by h
      ∙ sym (shown_of o other left.salvaged.crash h.segments h.pointers h.by k))
      left.salvaged.looked other.salvaged.looked (shown_left s left) (shown_left s other)
      ∙ sym (ap outcome_status also)

module _ (s : Salvage) (ts : List RecordTable) (bytes : List ℕ) (images : Pushed) where
  salvaged_agree : (layouts : List Layout) → ChoosesOnce layouts
      → AgreeIn (IsSalvagedBy s ts bytes images layouts)
  salvaged_agree layouts once = steps_agree cause_status (λ n. n) (λ error. Core error)
      (ProcessOrNamed bytes images layouts) (λ o. IsLeftOf s (tables_for ts o) bytes images o)
      (opened_excludes layouts once bytes images)
      (λ o p one other a b x y na nb. left_agree s bytes images (tables_for ts o) o a b x
      (subst (λ q. IsLeftOf s (tables_for ts q) bytes images q b)
      (opened_once layouts once bytes images p o other one) y)
      na nb)

  salvaged_sound : (layouts : List Layout) → ChoosesOnce layouts → IsShowable s bytes images layouts
      → NoCause (IsSalvagedBy s ts bytes images layouts)
  salvaged_sound layouts once good = steps_sound cause_status (λ cause. ⊥) (λ error. Core error)
      (ProcessOrNamed bytes images layouts) (λ o. IsLeftOf s (tables_for ts o) bytes images o)
      (λ e error ne. opened_apart layouts once bytes images good.opened e good.is_opened error (core_one e ne).1)
      (λ o found cause ne h. some_shown h.0.salvaged.interpreters.items h.0.salvaged.looked (shown_left s h.0) cause
      (λ none. good.shown (sym (shown_of s bytes images (tables_for ts good.opened) good.opened h.0 good.crash
      good.segments good.pointers good.by
      (subst (λ q. IsLeft s (tables_for ts q) bytes images q h.0)
      (opened_once layouts once bytes images o good.opened found good.is_opened) h.1)) ∙ none)) h.2)

core_outcomes_agree : (s : Salvage) (ts : List RecordTable) (contents : List (List ℕ))
    → AgreeIn (IsCoreOutcome s ts contents)
core_outcomes_agree s ts [] a b one other na nb = absurd one
core_outcomes_agree s ts (bytes ∷ []) a b one other na nb = absurd one
core_outcomes_agree s ts (bytes ∷ text ∷ images) a b one other na nb =
    steps_agree cause_status (λ n. n) (λ error. Layouts error) (IsRightFor text)
    (IsSalvagedBy s ts bytes (images_read s.images images))
    (layouts_exclude (IsRightFor text) (right-unique text) cause_status (λ error. Layouts error) (λ e. refl))
    (λ l m says also a b x y na nb. salvaged_agree s ts bytes (images_read s.images images) l
    (chooses_once l says.sound.apart) a b x
    (subst (λ q. IsSalvagedBy s ts bytes (images_read s.images images) q b) (laid_once text m l also says) y) na nb)
    a b one other na nb

core_no_cause : (s : Salvage) (ts : List RecordTable) (contents : List (List ℕ)) → IsCoreFaultless s contents
    → NoCause (IsCoreOutcome s ts contents)
core_no_cause s ts [] good cause ne is = absurd good
core_no_cause s ts (bytes ∷ []) good cause ne is = absurd good
core_no_cause s ts (bytes ∷ text ∷ images) (layouts, says, good) cause ne is =
    steps_sound cause_status (λ cause. ⊥) (λ error. Layouts error) (IsRightFor text)
    (IsSalvagedBy s ts bytes (images_read s.images images))
    (λ e error nm. flaw_apart (IsRightFor text) (right-unique text) layouts e (flaw_status e nm).1 says error)
    (λ l other. subst (λ q. NoCause (IsSalvagedBy s ts bytes (images_read s.images images) q))
    (laid_once text layouts l says other)
    (salvaged_sound s ts bytes (images_read s.images images) layouts (chooses_once layouts says.sound.apart) good))
    cause ne is

-- ---- records

records_agree : (s : Salvage) (name : Option (List ℕ)) (contents : List (List ℕ))
    → AgreeIn (IsOutcomeBy name s contents)
records_agree s None contents = core_outcomes_agree s [] contents
records_agree s (Some name) [] = λ a b one other na nb. absurd one
records_agree s (Some name) (text ∷ contents) =
    steps_agree cause_status (λ n. n) (λ error. Records error) (AreRightFor text) (λ tables. IsCoreOutcome s tables contents)
    (records_exclude cause_status (λ error. Records error) (λ e. refl) text)
    (λ l m says also a b x y na nb. core_outcomes_agree s l contents a b x
    (subst (λ q. IsCoreOutcome s q contents b) (tables_once text m l also says) y) na nb)

pub outcomes_agree : (s : Salvage) (contents : List (List ℕ)) → AgreeIn (IsOutcome s contents)
outcomes_agree s contents = records_agree s s.records contents

no_cause_by : (s : Salvage) (name : Option (List ℕ)) (contents : List (List ℕ)) → IsFaultlessBy name s contents
    → NoCause (IsOutcomeBy name s contents)
no_cause_by s None contents good = core_no_cause s [] contents good
no_cause_by s (Some name) [] good = absurd good
no_cause_by s (Some name) (text ∷ contents) (tables, says, good) =
    steps_sound cause_status (λ cause. ⊥) (λ error. Records error) (AreRightFor text)
    (λ tables. IsCoreOutcome s tables contents)
    (λ e error nm. records_apart text tables e (records_flaw e nm).1 says error)
    (λ l other. core_no_cause s l contents good)

pub no_cause : (s : Salvage) (contents : List (List ℕ)) → IsFaultless s contents → NoCause (IsOutcome s contents)
no_cause s contents good = no_cause_by s s.records contents good
