-- What the report of a core answers, where one report is right, is that report or out of memory.
use Rattle.std.proofs.Common.{◌≡◌, ◌⊎◌, ◌<◌, ℕ, List, [], ◌∷◌, refl, ap, ◌∙◌, inl, inr, arith}
use Rattle.std.proofs.lemmas.List.Elements.{All-cons, All-nil}
use Rattle.std.specs.Prelude.{Result, Ok, Err, IfOk, IfErr}
use Rattle.image_memory.specs.Images.{Pushed}
use Rattle.py_fields.specs.Sound.{IsSound}
use Rattle.py_fields.specs.declared.layout.Layout.{Layout}
use Rattle.py_layout.specs.Lists.{AreSound}
use Rattle.py_stacks.specs.declared.config.Config.{Config}
use Rattle.py_process.specs.Reports.{IsRight, Reported, reported, reported_of}
use Rattle.py_process.specs.declared.core_error.CoreError.{CoreError}
use Rattle.py_process.specs.declared.core_error.CoreError.TheVariants.{OutOfMemory}
use Rattle.py_process.specs.declared.report.Report.{Report}
use Rattle.py_process.proofs.Agreement.{err_is, ok_is, ok_not_err}
use Rattle.image_builder.specs.Inverse.{IsReportOf}
use Rattle.image_builder.specs.Shown.{without_addresses}

-- what is right is the answer, out of memory aside
abbrev pub AnswersRight : List ℕ → Pushed → List Layout → Config → Result Report CoreError → Type 0
AnswersRight core images layouts c result = (r : Reported) → IsRight core images layouts c r
    → (reported result ≡ Ok r) ⊎ (reported result ≡ Err OutOfMemory)

module _ (core : List ℕ) (images : Pushed) (layouts : List Layout) (c : Config) (shown : Reported)
    (is : IsReportOf core images layouts c shown) where
  answer : (result : Result Report CoreError) → AnswersRight core images layouts c result
      → (reported result ≡ Ok is.report) ⊎ (reported result ≡ Err OutOfMemory)
  answer result full = full is.report ((is.right is.report).1 refl)

  pub answer_shows : (result : Result Report CoreError) → AnswersRight core images layouts c result
      → IfOk result (λ report. without_addresses (reported_of report) ≡ shown)
  answer_shows (Ok report) full = by (answer (Ok report) full)
    where
      by : (◌≡◌ {A = Result Reported CoreError} (Ok (reported_of report)) (Ok is.report))
          ⊎ (◌≡◌ {A = Result Reported CoreError} (Ok (reported_of report)) (Err OutOfMemory))
          → without_addresses (reported_of report) ≡ shown
      by (inl e) = ap without_addresses (ok_is (reported_of report) is.report e) ∙ is.shows
      by (inr e) = absurd (ok_not_err (reported_of report) OutOfMemory e)
  answer_shows (Err error) full = tt

  pub answer_lost : (result : Result Report CoreError) → AnswersRight core images layouts c result
      → IfErr result (λ error. error ≡ OutOfMemory)
  answer_lost (Ok report) full = tt
  answer_lost (Err error) full = by (answer (Err error) full)
    where
      by : (◌≡◌ {A = Result Reported CoreError} (Err error) (Ok is.report))
          ⊎ (◌≡◌ {A = Result Reported CoreError} (Err error) (Err OutOfMemory)) → error ≡ OutOfMemory
      by (inl e) = absurd (let no : ◌≡◌ {A = Result Reported CoreError} (Err error) (Ok is.report) = e in cc)
      by (inr e) = err_is error OutOfMemory e

-- a list of one sound layout
pub one_sound : (l : Layout) → IsSound l → AreSound (l ∷ [])
one_sound l sound = record {
  each = All-cons IsSound l [] sound (All-nil IsSound);
  apart = λ i j d before within.
      let first : j < 1 = within in
      absurd (omega (arith, before, first));
}
