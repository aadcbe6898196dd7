-- What the readers' answers say of the stacks of a process, and that they say one thing.
use Rattle.std.proofs.Common.{◌≡◌, refl, sym, ap, subst, ◌∙◌}
use Rattle.std.specs.Prelude.{true, false, Bool, List, Option, Some, None, Result, Ok, Err}
use Rattle.process_memory.specs.Memory.{Memory, Fault}
use Rattle.process_memory.specs.Memory.Fault.{Missing, BadValue, LocalsLimit, ThreadLimit, FrameLimit, ChainLimit}
use Rattle.process_memory.specs.Faults.{IsFirst}
use Rattle.process_memory.proofs.Founds.{ok_same}
use Rattle.py_stacks.specs.StackError.{stack_fault}
use Rattle.py_stacks.specs.Threads.{Trace}
use Rattle.py_stacks.specs.declared.config.Config.{Config}
use Rattle.py_stacks.specs.declared.error.StackError.{StackError}
use Rattle.py_stacks.specs.declared.error.StackError.TheVariants as stack
use Rattle.py_stacks.proofs.OverLaws.{over_whole}
use Rattle.py_process.specs.Causes.{cause_of_stacks}
use Rattle.py_process.specs.Findings.{Finding}
use Rattle.py_process.specs.Reports.{AsksNoOther, HasStacks, MeetsFault, StacksSay, fault_on}
use Rattle.py_process.specs.declared.core_error.CoreError.{CoreError}
use Rattle.py_process.specs.declared.core_error.CoreError.TheVariants as core
use Rattle.py_process.proofs.Agreement.{Agree, IsKept}

-- an error of the readers is the first fault
stack_says : (m : Memory) (f : Finding) (config : Config) (e : StackError) → AsksNoOther config
    → IsFirst (fault_on m f config) (stack_fault e) → StacksSay m f config (Err (cause_of_stacks e))
stack_says m f config (stack.Unreadable addr len) asks h = record { asks = asks; first = h }
stack_says m f config (stack.BadValue frame) asks h = record { asks = asks; first = h }
stack_says m f config (stack.LocalsLimit count) asks h = record { asks = asks; first = h }
stack_says m f config stack.ThreadLimit asks h = record { asks = asks; first = h }
stack_says m f config stack.FrameLimit asks h = record { asks = asks; first = h }
stack_says m f config stack.ChainLimit asks h = record { asks = asks; first = h }
stack_says m f config stack.OutOfMemory asks h = tt

-- the same over an equal memory, with the error that came of it
pub stack_fails : (m n : Memory) (f : Finding) (config : Config) (e : StackError) (error : CoreError)
    (r : Result (List Trace) CoreError) → AsksNoOther config → n ≡ m → error ≡ cause_of_stacks e
    → IsFirst (fault_on n f config) (stack_fault e) → r ≡ Err error → StacksSay m f config r
stack_fails m n f config e error r asks same cause first is =
    subst (λ x. StacksSay m f config x) (sym is) (subst (λ x. StacksSay m f config (Err x)) (sym cause)
    (stack_says m f config e asks (subst (λ x. IsFirst (fault_on x f config) (stack_fault e)) same first)))

-- ---- one answer

-- the error that names a fault
error_of : Fault → CoreError
error_of (Missing addr len) = core.Unreadable addr len
error_of (BadValue frame) = core.BadValue frame
error_of (LocalsLimit count) = core.LocalsLimit count
error_of ThreadLimit = core.ThreadLimit
error_of FrameLimit = core.FrameLimit
error_of ChainLimit = core.ChainLimit
error_of f = core.OutOfMemory

pub both : (b : Bool) → b ≡ true → b ≡ false → ⊥
both b t e = cc

module _ (m : Memory) (f : Finding) (config : Config) where
  data StackCause (r : Result (List Trace) CoreError) : Type 0 where
    native : r ≡ Err core.NativeUnsupported → config.native ≡ true → StackCause r
    others : r ≡ Err core.SubprocessesUnsupported → config.native ≡ false → config.subprocesses ≡ true → StackCause r
    meets : (fault : Fault) → r ≡ Err (error_of fault) → MeetsFault m f config fault → StackCause r
    has : (traces : List Trace) → r ≡ Ok traces → HasStacks m f config traces → StackCause r

  stack_cause : (r : Result (List Trace) CoreError) → StacksSay m f config r → IsKept r → StackCause r
  unfolding error_of
  stack_cause (Ok traces) h kept = has traces refl h
  stack_cause (Err core.NativeUnsupported) h kept = native refl h
  stack_cause (Err core.SubprocessesUnsupported) h kept = others refl h.0 h.1
  stack_cause (Err (core.Unreadable addr len)) h kept = meets (Missing addr len) refl h
  stack_cause (Err (core.BadValue frame)) h kept = meets (BadValue frame) refl h
  stack_cause (Err (core.LocalsLimit count)) h kept = meets (LocalsLimit count) refl h
  stack_cause (Err core.ThreadLimit) h kept = meets ThreadLimit refl h
  stack_cause (Err core.FrameLimit) h kept = meets FrameLimit refl h
  stack_cause (Err core.ChainLimit) h kept = meets ChainLimit refl h
  stack_cause (Err core.OutOfMemory) h kept = absurd (kept refl)
  stack_cause (Err _) h kept = absurd h

  some_same : (x y : Fault) → ◌≡◌ {A = Option Fault} (Some x) (Some y) → x ≡ y
  some_same x y e = cc

  some_none : (x : Fault) → ◌≡◌ {A = Option Fault} (Some x) None → ⊥
  some_none x e = cc

  one_stacks : (t u : List Trace) → HasStacks m f config t → HasStacks m f config u → t ≡ u
  one_stacks t u h g =
      ok_same t u (sym (over_whole config f.layout m f.addresses.lock f.addresses.interpreter t h.are)
      ∙ over_whole config f.layout m f.addresses.lock f.addresses.interpreter u g.are)

  stack_one : (a b : Result (List Trace) CoreError) → StackCause a → StackCause b → a ≡ b
  stack_one a b (native is n) (native is' n') = is ∙ sym is'
  stack_one a b (native is n) (others is' n' s) = absurd (both config.native n n')
  stack_one a b (native is n) (meets x is' h) = absurd (both config.native n h.asks.native)
  stack_one a b (native is n) (has t is' h) = absurd (both config.native n h.asks.native)
  stack_one a b (others is n s) (native is' n') = absurd (both config.native n' n)
  stack_one a b (others is n s) (others is' n' s') = is ∙ sym is'
  stack_one a b (others is n s) (meets x is' h) = absurd (both config.subprocesses s h.asks.subprocesses)
  stack_one a b (others is n s) (has t is' h) = absurd (both config.subprocesses s h.asks.subprocesses)
  stack_one a b (meets x is h) (native is' n) = absurd (both config.native n h.asks.native)
  stack_one a b (meets x is h) (others is' n s) = absurd (both config.subprocesses s h.asks.subprocesses)
  stack_one a b (meets x is h) (meets y is' g) =
      is ∙ ap (λ z. Err (error_of z)) (some_same x y (sym h.first ∙ g.first)) ∙ sym is'
  stack_one a b (meets x is h) (has t is' g) = absurd (some_none x (sym h.first ∙ g.faultless))
  stack_one a b (has t is h) (native is' n) = absurd (both config.native n h.asks.native)
  stack_one a b (has t is h) (others is' n s) = absurd (both config.subprocesses s h.asks.subprocesses)
  stack_one a b (has t is h) (meets y is' g) = absurd (some_none y (sym g.first ∙ h.faultless))
  stack_one a b (has t is h) (has u is' g) = is ∙ ap (λ z. Ok z) (one_stacks t u h g) ∙ sym is'

  pub stacks_agree : Agree (StacksSay m f config)
  stacks_agree a b one two na nb = stack_one a b (stack_cause a one na) (stack_cause b two nb)

  -- where no fault is met and nothing else is asked for, an error is out of memory
  pub stacks_only : AsksNoOther config → fault_on m f config ≡ None → (e : CoreError) → StacksSay m f config (Err e)
      → IsKept {T = List Trace} (Err e) → ⊥
  stacks_only asks none e h kept = by (stack_cause (Err e) h kept)
    where
      by : StackCause (Err e) → ⊥
      by (native is n) = both config.native n asks.native
      by (others is n s) = both config.subprocesses s asks.subprocesses
      by (meets x is g) = some_none x (sym g.first ∙ none)
      by (has t is g) = absurd (cc)
