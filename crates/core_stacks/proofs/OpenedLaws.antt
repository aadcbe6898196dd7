-- What is opened of a core is what is found of it.
use Rattle.std.proofs.Common.{◌≡◌, ℕ, List, refl, sym, ap, subst, ◌∙◌, inl, inr, ⊎_elim}
use Rattle.std.specs.Prelude.{Result, Ok, Err}
use Rattle.image_memory.specs.Backed.{IsBackedMemory}
use Rattle.image_memory.specs.Images.{Pushed}
use Rattle.py_fields.specs.declared.layout.Layout.{Layout}
use Rattle.py_process.specs.Findings.{Finding}
use Rattle.py_process.specs.declared.core_error.CoreError.{CoreError}
use Rattle.py_process.specs.declared.core_error.CoreError.TheVariants as error
use Rattle.core_stacks.specs.Opened.{IsOpened, IsUnopened, Opened, Opens}
use Rattle.core_stacks.specs.Seen.{FindsProcess}
use Rattle.core_stacks.specs.Sole.{IsSole, Settles}
use Rattle.py_process.proofs.Agreement.{IsKept, err_kept, ok_is, ok_kept, ok_not_err}
use Rattle.py_process.proofs.Dumped.{backed_once}

module _ (bytes : List ℕ) (images : Pushed) (layouts : List Layout) where
  same : (o p : Opened) → IsOpened bytes images layouts p → o.core ≡ bytes → IsBackedMemory bytes images o.pieces → o.finding ≡ p.finding → o ≡ p
  same o p two core memory is = λ i. record {
    core = (core ∙ sym two.core_is) i;
    pieces = backed_once bytes images o.pieces p.pieces memory two.memory i;
    finding = is i;
  }

  err_same : (e d : CoreError) → ◌≡◌ {A = Result Finding CoreError} (Err e) (Err d) → e ≡ d
  err_same e d h = cc

  -- a cause that isn't out of memory
  found_err : (e : CoreError) → IsKept {T = Opened} (Err e) → IsUnopened bytes images layouts e → FindsProcess bytes images layouts (Err e)
  found_err e kept (inl same) = absurd (kept (ap (λ x. Err x) same))
  found_err e kept (inr h) = h

  sole_ok : (o : Opened) → o.core ≡ bytes → IsBackedMemory bytes images o.pieces → IsSole (FindsProcess bytes images layouts) (Ok o.finding)
      → IsSole (Opens bytes images layouts) (Ok o)
  sole_ok o core memory sole (Ok p) h kept =
      ⊎_elim (λ e. inl (ap (λ x. Ok x) (same o p h core memory (ok_is o.finding p.finding e)))) (λ e. absurd (ok_not_err o.finding error.OutOfMemory e))
      (sole (Ok p.finding) h.finds (ok_kept p.finding))
  sole_ok o core memory sole (Err e) h kept =
      ⊎_elim (λ x. absurd (ok_not_err o.finding e x)) (λ x. absurd (ok_not_err o.finding error.OutOfMemory x))
      (sole (Err e) (found_err e kept h) (err_kept (Err e) e refl kept))

  sole_err : (e : CoreError) → IsSole (FindsProcess bytes images layouts) (Err e) → IsSole (Opens bytes images layouts) (Err e)
  sole_err e sole (Ok p) h kept =
      ⊎_elim (λ x. absurd (ok_not_err p.finding e (sym x))) (λ x. inr (ap (λ y. Err y) (err_same e error.OutOfMemory x)))
      (sole (Ok p.finding) h.finds (ok_kept p.finding))
  sole_err e sole (Err d) h kept =
      ⊎_elim (λ x. inl (ap (λ y. Err y) (err_same e d x))) (λ x. inr (ap (λ y. Err y) (err_same e error.OutOfMemory x)))
      (sole (Err d) (found_err d kept h) (err_kept (Err d) d refl kept))

  pub opened_settles : (o : Opened) → o.core ≡ bytes → IsBackedMemory bytes images o.pieces → Settles (FindsProcess bytes images layouts) (Ok o.finding)
      → Settles (Opens bytes images layouts) (Ok o)
  opened_settles o core memory h = record {
    right = record { core_is = core; memory = memory; finds = h.right };
    only = sole_ok o core memory h.only;
  }

  unopened : (e : CoreError) → Settles (FindsProcess bytes images layouts) (Err e) → Settles (Opens bytes images layouts) (Err e)
  unopened e h = record { right = inr h.right; only = sole_err e h.only }

  pub unopened_settles : (e : CoreError) (r : Result Opened CoreError) → Settles (FindsProcess bytes images layouts) (Err e) → r ≡ Err e
      → Settles (Opens bytes images layouts) r
  unopened_settles e r h is = subst (λ x. Settles (Opens bytes images layouts) x) (sym is) (unopened e h)

  -- where there is no memory, that is the answer
  pub memory_opens : (r : Result Opened CoreError) → r ≡ Err error.OutOfMemory → Settles (Opens bytes images layouts) r
  memory_opens r is = record {
    right = subst (λ x. Opens bytes images layouts x) (sym is) (inl refl);
    only = λ answer h kept. inr is;
  }
