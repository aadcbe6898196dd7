-- Steps by which the process of a core is opened, and its traces are read.
use Rattle.std.proofs.Common.{◌≡◌, ℕ, List, inl, inr, refl, subst, sym, ap}
use Rattle.std.specs.Prelude.{Result, Ok, Err}
use Rattle.image_memory.specs.Cores.{IsCore}
use Rattle.image_memory.specs.Images.{Pushed}
use Rattle.process_memory.specs.Memory.{Region, byte_at}
use Rattle.py_fields.specs.declared.layout.Layout.{Layout}
use Rattle.py_stacks.specs.Threads.{Trace}
use Rattle.py_stacks.specs.declared.config.Config.{Config}
use Rattle.py_process.specs.Reports.{HasStacks, StacksSay}
use Rattle.py_process.specs.declared.core_error.CoreError.{CoreError}
use Rattle.py_process.specs.declared.core_error.CoreError.TheVariants.{OutOfMemory}
use Rattle.py_process.proofs.Dumped.{backed_once}
use Rattle.core_stacks.specs.Opened.{IsOpened, IsUnopened, Opened, opened_memory}
use Rattle.core_stacks.specs.Seen.{FindsProcess}
use Rattle.core_report.specs.Stacked.{Stacked, StackedIs}

module _ (bytes : List ℕ) (images : Pushed) (layouts : List Layout) (config : Config) (is_core : IsCore bytes) where
  unfound : (e : CoreError) → FindsProcess bytes images layouts (Err e) → StackedIs bytes images layouts config (Err e)
  unfound e h = inr (h.dumped, (is_core, h.is_dumped), inl (e, h.is, refl))

  pub unopened_stacked : (core : List ℕ) (e : CoreError) → core ≡ bytes → IsUnopened core images layouts e → StackedIs bytes images layouts config (Err e)
  unopened_stacked core e same (inl memory) = subst (λ x. StackedIs bytes images layouts config (Err x)) (sym memory) (inl (OutOfMemory, tt, refl))
  unopened_stacked core e same (inr finds) = unfound e (subst (λ b. FindsProcess b images layouts (Err e)) same finds)

  untraced : (o : Opened) (e : CoreError) → IsOpened bytes images layouts o → StacksSay (opened_memory o) o.finding config (Err e)
      → StackedIs bytes images layouts config (Err e)
  untraced o e h says =
      let pieces : o.pieces ≡ h.finds.dumped.pieces = backed_once bytes images o.pieces h.finds.dumped.pieces h.memory h.finds.is_dumped.memory in
      inr (
        h.finds.dumped,
        (is_core, h.finds.is_dumped),
        inr (o.finding, h.finds.is, inl (e, subst (λ p. StacksSay (byte_at p) o.finding config (Err e)) pieces says, refl)),
      )

  pub untraced_stacked : (core : List ℕ) (o : Opened) (e : CoreError) → core ≡ bytes → IsOpened core images layouts o
      → StacksSay (opened_memory o) o.finding config (Err e) → StackedIs bytes images layouts config (Err e)
  untraced_stacked core o e same h says = untraced o e (subst (λ b. IsOpened b images layouts o) same h) says

  traced : (o : Opened) (traces : List Trace) → IsOpened bytes images layouts o → HasStacks (opened_memory o) o.finding config traces
      → StackedIs bytes images layouts config (Ok (record { pieces = o.pieces; layout = o.finding.layout; traces = traces }))
  traced o traces h has =
      let pieces : o.pieces ≡ h.finds.dumped.pieces = backed_once bytes images o.pieces h.finds.dumped.pieces h.memory h.finds.is_dumped.memory in
      let made : List Region → Result Stacked CoreError = λ p. Ok (record { pieces = p; layout = o.finding.layout; traces = traces }) in
      inr (
        h.finds.dumped,
        (is_core, h.finds.is_dumped),
        inr (
          o.finding,
          h.finds.is,
          inr (traces, subst (λ p. HasStacks (byte_at p) o.finding config traces) pieces has, ap made pieces),
        ),
      )

  pub traced_stacked : (core : List ℕ) (o : Opened) (traces : List Trace) → core ≡ bytes → IsOpened core images layouts o
      → HasStacks (opened_memory o) o.finding config traces
      → StackedIs bytes images layouts config (Ok (record { pieces = o.pieces; layout = o.finding.layout; traces = traces }))
  traced_stacked core o traces same h has = traced o traces (subst (λ b. IsOpened b images layouts o) same h) has
