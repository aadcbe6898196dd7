-- A cause that isn't out of memory has its own status, and none has that of another end.
use Rattle.std.proofs.Common.{◌≡◌, ◌≢◌, ◌⊎◌, ◌<◌, ◌≤◌, ℕ, refl, arith, inl, inr, ⊎_elim}
use Rattle.std.proofs.lemmas.Bool.Decides.{eqb_tells}
use Rattle.py_layout.specs.declared.error.LayoutError.{LayoutError}
use Rattle.py_layout.specs.declared.error.LayoutError.TheVariants as layout
use Rattle.py_process.specs.declared.core_error.CoreError.{CoreError}
use Rattle.py_process.specs.declared.core_error.CoreError.TheVariants as core
use Rattle.program_run.specs.Ends.{IsOwn}
use Rattle.program_run.specs.Statuses.{core_status, layouts_status}

pub cases_five : (n : ℕ) → (n ≡ 5) ⊎ (n ≢ 5)
cases_five n = ⊎_elim (λ p. inl p.1) (λ p. inr p.1) (eqb_tells n 5)

pub core_one : (e : CoreError) → core_status e ≢ 5 → (core_status e ≡ 1) × (e ≢ core.OutOfMemory)
core_one core.NotElf64 ne = (refl, λ is. cc)
core_one core.BadHeader ne = (refl, λ is. cc)
core_one core.NoNotes ne = (refl, λ is. cc)
core_one core.BadNote ne = (refl, λ is. cc)
core_one core.NoBinary ne = (refl, λ is. cc)
core_one (core.NoImage path) ne = (refl, λ is. cc)
core_one (core.BadImage path) ne = (refl, λ is. cc)
core_one (core.UnreadableVersion addr len) ne = (refl, λ is. cc)
core_one core.NoVersion ne = (refl, λ is. cc)
core_one (core.UnsupportedVersion version) ne = (refl, λ is. cc)
core_one core.NoInterpreter ne = (refl, λ is. cc)
core_one (core.Unreadable addr len) ne = (refl, λ is. cc)
core_one core.NativeUnsupported ne = (refl, λ is. cc)
core_one core.SubprocessesUnsupported ne = (refl, λ is. cc)
core_one (core.BadValue frame) ne = (refl, λ is. cc)
core_one (core.LocalsLimit count) ne = (refl, λ is. cc)
core_one core.ThreadLimit ne = (refl, λ is. cc)
core_one core.FrameLimit ne = (refl, λ is. cc)
core_one core.ChainLimit ne = (refl, λ is. cc)
core_one core.OutOfMemory ne = absurd (ne refl)

pub flaw_status : (e : LayoutError) → layouts_status e ≢ 5 → (layouts_status e ≡ 6) × (e ≢ layout.OutOfMemory)
flaw_status layout.NotToml ne = (refl, λ is. cc)
flaw_status (layout.Shape table key) ne = (refl, λ is. cc)
flaw_status (layout.Unsound table) ne = (refl, λ is. cc)
flaw_status (layout.Clash first second) ne = (refl, λ is. cc)
flaw_status layout.OutOfMemory ne = absurd (ne refl)

-- the statuses of causes are 1, and all from 5 on
pub own : (n : ℕ) → (n ≡ 1) ⊎ (4 < n) → IsOwn n
own n h = record {
  not_0 = λ is. omega (arith, h, is);
  not_2 = λ is. omega (arith, h, is);
  not_3 = λ is. omega (arith, h, is);
  not_4 = λ is. omega (arith, h, is);
}

pub core_own : (e : CoreError) → IsOwn (core_status e)
core_own e = own (core_status e)
    (⊎_elim (λ five. inr (omega (arith, five))) (λ ne. inl (core_one e ne).0) (cases_five (core_status e)))

pub layouts_own : (e : LayoutError) → IsOwn (layouts_status e)
layouts_own e = own (layouts_status e) (inr
    (⊎_elim (λ five. omega (arith, five)) (λ ne. omega (arith, (flaw_status e ne).0)) (cases_five (layouts_status e))))

pub core_within : (e : CoreError) → core_status e ≤ 6
core_within core.OutOfMemory = omega arith
core_within _ = omega arith

pub layouts_within : (e : LayoutError) → layouts_status e ≤ 6
layouts_within layout.OutOfMemory = omega arith
layouts_within _ = omega arith
