-- A walk over a core, step by step, and that it has one right answer.
use Rattle.std.proofs.Common.{◌≡◌, ℕ, List, [], ◌∷◌, refl, sym, ap, subst, ◌∙◌, inl, inr, rules}
use Rattle.std.specs.Prelude.{Option, Some, None, Result, Ok, Err}
use Rattle.image_memory.specs.Cores.{IsCore, RefusesCore}
use Rattle.image_memory.specs.declared.dump_error.DumpError.{DumpError}
use Rattle.image_memory.specs.declared.dump_error.DumpError.TheVariants as dump
use Rattle.image_memory.proofs.Refusals.{no_core, one_refusal}
use Rattle.process_memory.specs.Memory.{Fault}
use Rattle.process_memory.specs.Memory.Fault.{Missing, BadValue, LocalsLimit, ThreadLimit, FrameLimit, ChainLimit}
use Rattle.process_memory.specs.Faults.{IsFirst}
use Rattle.process_memory.proofs.Founds.{ok_same}
use Rattle.py_fields.specs.declared.layout.Layout.{Layout}
use Rattle.py_fields.specs.Sound.{IsSound}
use Rattle.py_fields.specs.declared.version.Version.{Version}
use Rattle.py_layout.specs.Lists.{AreSound}
use Rattle.py_stacks.specs.Asking.{nothing}
use Rattle.py_stacks.specs.StackError.{stack_fault}
use Rattle.py_stacks.specs.Stacks.{AreStacks}
use Rattle.py_stacks.specs.Threads.{Trace}
use Rattle.py_stacks.specs.declared.error.StackError.{StackError}
use Rattle.py_stacks.specs.declared.error.StackError.TheVariants as stack
use Rattle.py_stacks.specs.declared.trace.Addresses.{Addresses}
use Rattle.py_stacks.proofs.Wholes.{stacks_whole}
use Rattle.py_process.specs.Causes.{cause_of_dump, cause_of_stacks}
use Rattle.py_process.specs.Findings.{IsChosen, LayoutSays}
use Rattle.py_process.specs.Steps.{Then}
use Rattle.py_process.specs.declared.core_error.CoreError.{CoreError}
use Rattle.py_process.specs.declared.core_error.CoreError.TheVariants as core
use Rattle.core_stacks.specs.Answer.{FaultsSay, CoreFileSays, IsWalkable, Means, WalkSays, core_memory, fault_by}
use Rattle.core_stacks.specs.Sole.{Settles}
use Rattle.py_process.proofs.Agreement.{Agree, IsKept, then_agree, then_value}
use Rattle.py_process.proofs.FindingLaws.{layout_agree}
use Rattle.core_stacks.proofs.Settling.{settles_agree, settles_err, settles_ok}
use Rattle.core_stacks.proofs.Layouts.{NoneClash, chooses_once}
use Rattle.core_stacks.proofs.PlainWalks.{IsWalkFault, stacks_walk}

-- ---- the file

module _ (bytes : List ℕ) where
  data FileCause (r : Result (Unit {0}) CoreError) : Type 0 where
    refused : (e : DumpError) → r ≡ Err (cause_of_dump e) → RefusesCore bytes e → FileCause r
    taken : r ≡ Ok tt → IsCore bytes → FileCause r

  file_cause : (r : Result (Unit {0}) CoreError) → CoreFileSays bytes r → IsKept r → FileCause r
  file_cause (Ok x) h kept = taken refl h
  file_cause (Err core.NotElf64) h kept = refused dump.NotElf64 refl h
  file_cause (Err core.BadHeader) h kept = refused dump.BadHeader refl h
  file_cause (Err core.NoNotes) h kept = refused dump.NoNotes refl h
  file_cause (Err core.BadNote) h kept = refused dump.BadNote refl h
  file_cause (Err core.OutOfMemory) h kept = absurd (kept refl)
  file_cause (Err _) h kept = absurd h

  not_memory : (e : DumpError) (r : Result (Unit {0}) CoreError) → r ≡ Err (cause_of_dump e) → IsKept r → ¬ (e ≡ dump.OutOfMemory)
  not_memory e r is kept same = kept (is ∙ ap (λ d. Err (cause_of_dump d)) same)

  file_one : (a b : Result (Unit {0}) CoreError) → IsKept a → IsKept b → FileCause a → FileCause b → a ≡ b
  file_one a b na nb (refused e is h) (refused f is' g) =
      is ∙ ap (λ d. Err (cause_of_dump d)) (one_refusal bytes e f h g (not_memory e a is na) (not_memory f b is' nb)) ∙ sym is'
  file_one a b na nb (refused e is h) (taken is' c) = absurd (no_core bytes e h (not_memory e a is na) c)
  file_one a b na nb (taken is c) (refused e is' h) = absurd (no_core bytes e h (not_memory e b is' nb) c)
  file_one a b na nb (taken is c) (taken is' c') = is ∙ sym is'

  file_agree : Agree (CoreFileSays bytes)
  file_agree a b one two na nb = file_one a b na nb (file_cause a one na) (file_cause b two nb)

  file_says : (e : DumpError) → RefusesCore bytes e → CoreFileSays bytes (Err (cause_of_dump e))
  file_says dump.NotElf64 h = h
  file_says dump.BadHeader h = h
  file_says dump.NoNotes h = h
  file_says dump.BadNote h = h
  file_says dump.OutOfMemory h = tt

-- ---- a first fault, or a value

-- the error that names a fault
error_of : Fault → CoreError
error_of (Missing addr len) = core.Unreadable addr len
error_of ThreadLimit = core.ThreadLimit
error_of FrameLimit = core.FrameLimit
error_of ChainLimit = core.ChainLimit
error_of f = core.OutOfMemory

module _ {T : Type 0} (first : Option Fault) (Has : T → Type 0) where
  data FaultCause (r : Result T CoreError) : Type 0 where
    meets : (fault : Fault) → r ≡ Err (error_of fault) → first ≡ Some fault → FaultCause r
    has : (x : T) → r ≡ Ok x → first ≡ None → Has x → FaultCause r

  fault_cause : (r : Result T CoreError) → FaultsSay first Has r → IsKept r → FaultCause r
  unfolding error_of
  fault_cause (Ok x) h kept = has x refl h.0 h.1
  fault_cause (Err (core.Unreadable addr len)) h kept = meets (Missing addr len) refl h
  fault_cause (Err core.ThreadLimit) h kept = meets ThreadLimit refl h
  fault_cause (Err core.FrameLimit) h kept = meets FrameLimit refl h
  fault_cause (Err core.ChainLimit) h kept = meets ChainLimit refl h
  fault_cause (Err core.OutOfMemory) h kept = absurd (kept refl)
  fault_cause (Err _) h kept = absurd h

  some_same : (x y : Fault) → ◌≡◌ {A = Option Fault} (Some x) (Some y) → x ≡ y
  some_same x y e = cc

  some_none : (x : Fault) → ◌≡◌ {A = Option Fault} (Some x) None → ⊥
  some_none x e = cc

  fault_one : ((x y : T) → Has x → Has y → x ≡ y) → (a b : Result T CoreError) → FaultCause a → FaultCause b → a ≡ b
  fault_one once a b (meets x is h) (meets y is' g) = is ∙ ap (λ z. Err (error_of z)) (some_same x y (sym h ∙ g)) ∙ sym is'
  fault_one once a b (meets x is h) (has t is' g j) = absurd (some_none x (sym h ∙ g))
  fault_one once a b (has t is h j) (meets y is' g) = absurd (some_none y (sym g ∙ h))
  fault_one once a b (has t is h j) (has u is' g i) = is ∙ ap (λ z. Ok z) (once t u j i) ∙ sym is'

  faults_agree : ((x y : T) → Has x → Has y → x ≡ y) → Agree (FaultsSay first Has)
  faults_agree once a b one two na nb = fault_one once a b (fault_cause a one na) (fault_cause b two nb)

  no_fault : first ≡ None → (e : CoreError) → FaultsSay first Has (Err e) → IsKept {T = T} (Err e) → ⊥
  no_fault none e h kept = by (fault_cause (Err e) h kept)
    where
      by : FaultCause (Err e) → ⊥
      by (meets x is g) = some_none x (sym g ∙ none)
      by (has t is g j) = absurd (cc)

  -- an error of the readers is the first fault
  faults_say : ((f : Fault) → first ≡ Some f → IsWalkFault f) → (e : StackError) → IsFirst first (stack_fault e)
      → FaultsSay first Has (Err (cause_of_stacks e))
  faults_say walks (stack.Unreadable addr len) h = h
  faults_say walks (stack.BadValue frame) h = walks (BadValue frame) h
  faults_say walks (stack.LocalsLimit count) h = walks (LocalsLimit count) h
  faults_say walks stack.ThreadLimit h = h
  faults_say walks stack.FrameLimit h = h
  faults_say walks stack.ChainLimit h = h
  faults_say walks stack.OutOfMemory h = tt

-- ---- the walk

-- one sound layout is a sound list
pub one_sound : (l : Layout) → IsSound l → AreSound (l ∷ [])
one_sound l s = record { each = search rules; apart = search rules }

-- in a list of one no two clash
pub one_apart : (l : Layout) → NoneClash (l ∷ [])
one_apart l = search rules

module _ (bytes : List ℕ) (layouts : List Layout) (version : Version) (addresses : Addresses) where
  abbrev rest : Unit {0} → Result (List Trace) CoreError → Type 0
  rest x = Then (LayoutSays layouts version) (WalkSays bytes addresses)

  walk_says_agree : (l : Layout) → Agree (WalkSays bytes addresses l)
  walk_says_agree l = faults_agree (fault_by l bytes addresses) _ (λ t u h g. ok_same t u
      (sym (stacks_whole nothing l (core_memory bytes) addresses.lock addresses.interpreter t h)
      ∙ stacks_whole nothing l (core_memory bytes) addresses.lock addresses.interpreter u g))

  pub refused_walk : (e : DumpError) (error : CoreError) (r : Result (List Trace) CoreError) → RefusesCore bytes e → error ≡ cause_of_dump e → r ≡ Err error
      → Settles (Means bytes layouts version addresses) r
  refused_walk e error r h cause is =
      settles_err (CoreFileSays bytes) rest (file_agree bytes) error r (subst (λ x. CoreFileSays bytes (Err x)) (sym cause) (file_says bytes e h)) is

  pub uncovered_walk : (r : Result (List Trace) CoreError) → IsCore bytes → ((l : Layout) → ¬ IsChosen layouts version l) → r ≡ Err (core.UnsupportedVersion version)
      → Settles (Means bytes layouts version addresses) r
  uncovered_walk r accepted none is =
      settles_ok (CoreFileSays bytes) rest (file_agree bytes) tt r accepted
      (settles_err (LayoutSays layouts version) (WalkSays bytes addresses) (layout_agree layouts version (λ a b x y. absurd (none a x)))
      (core.UnsupportedVersion version) r (refl, none) is)

  -- out of memory is always right
  pub memory_walk : (r : Result (List Trace) CoreError) → r ≡ Err core.OutOfMemory → Settles (Means bytes layouts version addresses) r
  memory_walk r is = record { right = inl (core.OutOfMemory, tt, is); only = λ answer h kept. inr is }

  pub layout_walk : (l : Layout) (r : Result (List Trace) CoreError) → IsCore bytes → IsChosen layouts version l
      → ((other : Layout) → IsChosen layouts version other → other ≡ l) → WalkSays bytes addresses l r → Settles (Means bytes layouts version addresses) r
  layout_walk l r accepted chosen once says =
      settles_ok (CoreFileSays bytes) rest (file_agree bytes) tt r accepted
      (settles_ok (LayoutSays layouts version) (WalkSays bytes addresses) (layout_agree layouts version (λ a b x y. once a x ∙ sym (once b y))) l r chosen
      (settles_agree (WalkSays bytes addresses l) (walk_says_agree l) r says))

  pub lost_says : (l : Layout) (e : StackError) → IsFirst (fault_by l bytes addresses) (stack_fault e) → WalkSays bytes addresses l (Err (cause_of_stacks e))
  lost_says l e h = faults_say (fault_by l bytes addresses) (AreStacks nothing l (core_memory bytes) addresses.lock addresses.interpreter)
      (stacks_walk l (core_memory bytes) addresses.lock addresses.interpreter) e h

  pub walk_agree : NoneClash layouts → Agree (Means bytes layouts version addresses)
  walk_agree apart = then_agree (CoreFileSays bytes) rest (file_agree bytes)
      (λ x h. then_agree (LayoutSays layouts version) (WalkSays bytes addresses) (layout_agree layouts version (chooses_once layouts apart version)) (λ l h. walk_says_agree l))

  -- where there is nothing to complain of, no cause is right
  pub walk_complete : NoneClash layouts → IsWalkable bytes layouts version addresses → (e : CoreError) → Means bytes layouts version addresses (Err e)
      → IsKept {T = List Trace} (Err e) → ⊥
  walk_complete apart good e h kept =
      let one = then_value (CoreFileSays bytes) rest (file_agree bytes) tt good.core (Err e) kept h in
      let two = then_value (LayoutSays layouts version) (WalkSays bytes addresses) (layout_agree layouts version (chooses_once layouts apart version)) good.layout good.chosen (Err e) kept one in
      no_fault (fault_by good.layout bytes addresses) (AreStacks nothing good.layout (core_memory bytes) addresses.lock addresses.interpreter) good.faultless e two kept
