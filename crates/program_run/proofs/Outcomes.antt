-- Two outcomes of two steps have one status, out of memory aside, where those of each step have; and none is a cause
-- where none of theirs is.
use Rattle.std.proofs.Common.{◌≡◌, ◌≢◌, ◌⊎◌, ℕ, List, Result, Ok, Err, sym, ap, ◌∙◌, ⊎_elim}
use Rattle.py_layout.specs.declared.error.LayoutError.{LayoutError}
use Rattle.py_layout.specs.declared.error.LayoutError.TheVariants as layout
use Rattle.py_process.specs.declared.core_error.CoreError.{CoreError}
use Rattle.py_process.specs.declared.core_error.CoreError.TheVariants as core
use Rattle.program_run.specs.Outcomes.{OutcomeThen, status_by}
use Rattle.program_run.specs.Statuses.{core_status, layouts_status}
use Rattle.program_run.proofs.Statuses.{core_one, flaw_status}

-- two outcomes have statuses that count as one, unless memory ran out
abbrev pub AgreeBy : {Cause : Type 0} → (Cause → ℕ) → (class : ℕ → ℕ) → (Result (List ℕ) Cause → Type 0) → Type 0
AgreeBy {Cause} cause_status class Right = (a b : Result (List ℕ) Cause) → Right a → Right b
    → status_by cause_status a ≢ 5 → status_by cause_status b ≢ 5
    → class (status_by cause_status a) ≡ class (status_by cause_status b)

-- no cause is right but out of memory, and some of a program's own
abbrev pub NoCauseBut : {Cause : Type 0} → (Cause → ℕ) → (Own : Cause → Type 0) → (Result (List ℕ) Cause → Type 0) → Type 0
NoCauseBut {Cause} cause_status Own Right = (cause : Cause) → cause_status cause ≢ 5 → Right (Err cause) → Own cause

-- the first of two steps tells values from causes, and its causes have one status
pub record Excludes {Cause T E : Type 0} (cause_status : Cause → ℕ) (as_cause : E → Cause)
    (First : Result T E → Type 0) : Type 0 where
  pub apart : (x : T) (e : E) → First (Ok x) → First (Err e) → cause_status (as_cause e) ≢ 5 → ⊥
  pub alike : (e f : E) → First (Err e) → First (Err f) → cause_status (as_cause e) ≢ 5
      → cause_status (as_cause f) ≢ 5 → cause_status (as_cause e) ≡ cause_status (as_cause f)

-- what follows either of two values of the first step agrees
abbrev pub AgreeAfter : {Cause T E : Type 0} → (Cause → ℕ) → (class : ℕ → ℕ) → (Result T E → Type 0)
    → (T → Result (List ℕ) Cause → Type 0) → Type 0
AgreeAfter {Cause} {T} {E} cause_status class First Rest = (x y : T) → First (Ok x) → First (Ok y)
    → (a b : Result (List ℕ) Cause) → Rest x a → Rest y b → status_by cause_status a ≢ 5 → status_by cause_status b ≢ 5
    → class (status_by cause_status a) ≡ class (status_by cause_status b)

pub steps_agree : {Cause T E : Type 0} (cause_status : Cause → ℕ) (class : ℕ → ℕ) (as_cause : E → Cause)
    (First : Result T E → Type 0) (Rest : T → Result (List ℕ) Cause → Type 0) → Excludes cause_status as_cause First
    → AgreeAfter cause_status class First Rest → AgreeBy cause_status class (OutcomeThen as_cause First Rest)
steps_agree {Cause} {T} {E} cause_status class as_cause First Rest excludes agree a b one other na nb = ⊎_elim
    (λ p. ⊎_elim
    (λ q. ap (λ o. class (status_by cause_status o)) p.1
    ∙ ap class (excludes.alike p.0 q.0 p.2 q.2 (own a p.0 p.1 na) (own b q.0 q.1 nb))
    ∙ sym (ap (λ o. class (status_by cause_status o)) q.1))
    (λ q. absurd (excludes.apart q.0 p.0 q.1 p.2 (own a p.0 p.1 na))) other)
    (λ p. ⊎_elim (λ q. absurd (excludes.apart p.0 q.0 p.1 q.2 (own b q.0 q.1 nb)))
    (λ q. agree p.0 q.0 p.1 q.1 a b p.2 q.2 na nb) other) one
  where
    own : (o : Result (List ℕ) Cause) (e : E) → o ≡ Err (as_cause e) → status_by cause_status o ≢ 5
        → cause_status (as_cause e) ≢ 5
    own o e is ne five = ne (ap (status_by cause_status) is ∙ five)

pub steps_sound : {Cause T E : Type 0} (cause_status : Cause → ℕ) (Own : Cause → Type 0) (as_cause : E → Cause)
    (First : Result T E → Type 0) (Rest : T → Result (List ℕ) Cause → Type 0)
    → ((e : E) → First (Err e) → cause_status (as_cause e) ≢ 5 → ⊥)
    → ((x : T) → First (Ok x) → NoCauseBut cause_status Own (Rest x))
    → NoCauseBut cause_status Own (OutcomeThen as_cause First Rest)
steps_sound cause_status Own as_cause First Rest first rest cause ne right = ⊎_elim
    (λ p. absurd (first p.0 p.2 (λ five. ne (ap (status_by cause_status) p.1 ∙ five))))
    (λ p. rest p.0 p.1 cause ne p.2) right

-- ---- a step of layouts

-- two answers on the layouts are the same, unless memory ran out
abbrev pub Unique : {T : Type 0} → (Result T LayoutError → Type 0) → Type 0
Unique {T} Says = (a b : Result T LayoutError) → Says a → Says b → b ≢ Err layout.OutOfMemory
    → (a ≡ b) ⊎ (a ≡ Err layout.OutOfMemory)

module _ {T : Type 0} (Says : Result T LayoutError → Type 0) (unique : Unique Says) where
  ok_err : (a : T) (e : LayoutError) → ◌≡◌ {A = Result T LayoutError} (Ok a) (Err e) → ⊥
  ok_err a e is = cc

  ok_same : (a b : T) → ◌≡◌ {A = Result T LayoutError} (Ok a) (Ok b) → a ≡ b
  ok_same a b is = cc

  err_same : (a b : LayoutError) → ◌≡◌ {A = Result T LayoutError} (Err a) (Err b) → a ≡ b
  err_same a b is = cc

  pub ok_unique : (a b : T) → Says (Ok a) → Says (Ok b) → a ≡ b
  ok_unique a b one other = ⊎_elim (ok_same a b) (λ is. absurd (ok_err a layout.OutOfMemory is))
      (unique (Ok a) (Ok b) one other (ok_err b layout.OutOfMemory))

  pub flaw_apart : (a : T) (e : LayoutError) → e ≢ layout.OutOfMemory → Says (Ok a) → Says (Err e) → ⊥
  flaw_apart a e ne one other = ⊎_elim (ok_err a e) (ok_err a layout.OutOfMemory)
      (unique (Ok a) (Err e) one other (λ is. ne (err_same e layout.OutOfMemory is)))

  pub layouts_exclude : {Cause : Type 0} (cause_status : Cause → ℕ) (as_cause : LayoutError → Cause)
      → ((e : LayoutError) → cause_status (as_cause e) ≡ layouts_status e) → Excludes cause_status as_cause Says
  layouts_exclude cause_status as_cause same = record {
    apart = λ l e one other ne. flaw_apart l e (flaw_status e (λ five. ne (same e ∙ five))).1 one other;
    alike = λ e f one other ne nf. same e ∙ (flaw_status e (λ five. ne (same e ∙ five))).0
        ∙ sym (flaw_status f (λ five. nf (same f ∙ five))).0 ∙ sym (same f);
  }

-- ---- a step over a core

-- a step whose causes are those of a core, and whose values exclude them
pub core_exclude : {Cause T : Type 0} (cause_status : Cause → ℕ) (as_cause : CoreError → Cause)
    → ((e : CoreError) → cause_status (as_cause e) ≡ core_status e) → (First : Result T CoreError → Type 0)
    → ((x : T) (e : CoreError) → First (Ok x) → First (Err e) → e ≢ core.OutOfMemory → ⊥) → Excludes cause_status as_cause First
core_exclude cause_status as_cause same First apart = record {
  apart = λ x e one other ne. apart x e one other (core_one e (λ five. ne (same e ∙ five))).1;
  alike = λ e f one other ne nf. same e ∙ (core_one e (λ five. ne (same e ∙ five))).0
      ∙ sym (core_one f (λ five. nf (same f ∙ five))).0 ∙ sym (same f);
}
