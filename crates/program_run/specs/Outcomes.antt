-- What is come to over the contents of files: a text, or the cause why there is none; in steps, and with a status.
use Rattle.std.specs.Prelude.{◌≡◌, ◌≢◌, ◌⊎◌, ℕ, List, Result, Ok, Err, Vec}
use Rattle.std.specs.Global.{Global}

-- two steps, of which the first may end with a cause
abbrev pub OutcomeThen : {T E Cause : Type 0} → (E → Cause) → (Result T E → Type 0)
    → (T → Result (List ℕ) Cause → Type 0) → Result (List ℕ) Cause → Type 0
OutcomeThen as_cause First Rest outcome =
    ((error : _) × (outcome ≡ Err (as_cause error)) × First (Err error))
    ⊎ ((value : _) × First (Ok value) × Rest value outcome)

-- the status with which a run ends by an outcome: 0 by a text, else the cause's
abbrev pub status_by : {Cause : Type 0} → (Cause → ℕ) → Result (List ℕ) Cause → ℕ
status_by cause_status (Ok _) = 0
status_by cause_status (Err cause) = cause_status cause

-- the answer of some work is right, unless memory ran out
abbrev pub IsAnswerBy : {Cause : Type 0} → (Cause → ℕ) → (Result (List ℕ) Cause → Type 0)
    → Result (Vec ℕ Global) Cause → Type 0
IsAnswerBy cause_status Right (Ok text) = Right (Ok text.items)
IsAnswerBy cause_status Right (Err cause) = cause_status cause ≢ 5 → Right (Err cause)
