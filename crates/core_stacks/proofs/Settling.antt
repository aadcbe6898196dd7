-- Answers of which one is right, and steps of them.
use Rattle.std.proofs.Common.{◌≡◌, refl, sym, ap, subst, ◌∙◌, inl, inr, ⊎_elim}
use Rattle.std.specs.Prelude.{Result, Ok, Err}
use Rattle.py_process.specs.Steps.{Then}
use Rattle.py_process.specs.declared.core_error.CoreError.{CoreError}
use Rattle.py_process.specs.declared.core_error.CoreError.TheVariants as core
use Rattle.py_process.proofs.Agreement.{Agree, err_is, err_kept, kept_or, ok_is, ok_kept, ok_not_err}
use Rattle.core_stacks.specs.Sole.{IsSole, Settles}

-- the right answer is the one answer, out of memory aside
pub sole_of : {T : Type 0} (R : Result T CoreError → Type 0) → Agree R → (result : Result T CoreError) → R result → IsSole R result
sole_of R agree result right answer is kept =
    ⊎_elim (λ memory. inr memory) (λ other. inl (agree result answer right is other kept)) (kept_or result)

-- where the first step's answer is the one right answer, so is that of both: where it ends with an error
pub then_sole_err : {T U : Type 0} (First : Result T CoreError → Type 0) (Rest : T → Result U CoreError → Type 0) (e : CoreError)
    → IsSole First (Err e) → (r : Result U CoreError) → r ≡ Err e → IsSole (Then First Rest) r
then_sole_err {T} First Rest e first r is answer (inl (d, two, is')) kept =
    ⊎_elim (λ same. inl (is ∙ ap (λ x. Err x) (err_is e d same) ∙ sym is')) (λ same. inr (is ∙ ap (λ x. Err x) (err_is e core.OutOfMemory same)))
    (first (Err d) two (err_kept answer d is' kept))
then_sole_err First Rest e first r is answer (inr (y, two, rest)) kept =
    ⊎_elim (λ same. absurd (ok_not_err y e (sym same))) (λ same. inr (is ∙ ap (λ x. Err x) (err_is e core.OutOfMemory same)))
    (first (Ok y) two (ok_kept y))

-- or where the rest's answer is
pub then_sole_ok : {T U : Type 0} (First : Result T CoreError → Type 0) (Rest : T → Result U CoreError → Type 0) (x : T)
    → IsSole First (Ok x) → (r : Result U CoreError) → IsSole (Rest x) r → IsSole (Then First Rest) r
then_sole_ok First Rest x first r sole answer (inl (d, two, is')) kept =
    ⊎_elim (λ same. absurd (ok_not_err x d same)) (λ same. absurd (ok_not_err x core.OutOfMemory same)) (first (Err d) two (err_kept answer d is' kept))
then_sole_ok First Rest x first r sole answer (inr (y, two, rest)) kept =
    ⊎_elim (λ same. sole answer (subst (λ z. Rest z answer) (sym (ok_is x y same)) rest) kept) (λ same. absurd (ok_not_err x core.OutOfMemory same))
    (first (Ok y) two (ok_kept y))

-- ---- the same with the answer itself

pub settles_agree : {T : Type 0} (R : Result T CoreError → Type 0) → Agree R → (r : Result T CoreError) → R r → Settles R r
settles_agree R agree r right = record { right = right; only = sole_of R agree r right }

pub settles_by_err : {T U : Type 0} (First : Result T CoreError → Type 0) (Rest : T → Result U CoreError → Type 0)
    (e : CoreError) (r : Result U CoreError) → Settles First (Err e) → r ≡ Err e → Settles (Then First Rest) r
settles_by_err First Rest e r first is = record { right = inl (e, first.right, is); only = then_sole_err First Rest e first.only r is }

pub settles_by_ok : {T U : Type 0} (First : Result T CoreError → Type 0) (Rest : T → Result U CoreError → Type 0)
    (x : T) (r : Result U CoreError) → Settles First (Ok x) → Settles (Rest x) r → Settles (Then First Rest) r
settles_by_ok First Rest x r first rest =
    record { right = inr (x, first.right, rest.right); only = then_sole_ok First Rest x first.only r rest.only }

pub settles_err : {T U : Type 0} (First : Result T CoreError → Type 0) (Rest : T → Result U CoreError → Type 0) → Agree First
    → (e : CoreError) (r : Result U CoreError) → First (Err e) → r ≡ Err e → Settles (Then First Rest) r
settles_err First Rest first e r one is = settles_by_err First Rest e r (settles_agree First first (Err e) one) is

pub settles_ok : {T U : Type 0} (First : Result T CoreError → Type 0) (Rest : T → Result U CoreError → Type 0) → Agree First
    → (x : T) (r : Result U CoreError) → First (Ok x) → Settles (Rest x) r → Settles (Then First Rest) r
settles_ok First Rest first x r one rest = settles_by_ok First Rest x r (settles_agree First first (Ok x) one) rest

-- ---- steps in other brackets

module _ {T V U : Type 0} (A : Result T CoreError → Type 0) (B : T → Result V CoreError → Type 0)
    (C : T × V → Result U CoreError → Type 0) (r : Result U CoreError) where
  abbrev Both : Result (T × V) CoreError → Type 0
  Both = Then A (λ x. Then (B x) (λ y pair. pair ≡ Ok (x, y)))

  abbrev InTurn : Result U CoreError → Type 0
  InTurn = Then A (λ x. Then (B x) (λ y. C (x, y)))

  err_moves : (e d : CoreError) → ◌≡◌ {A = Result (T × V) CoreError} (Err e) (Err d) → ◌≡◌ {A = Result U CoreError} (Err e) (Err d)
  err_moves e d is = cc

  flat : Then Both C r → InTurn r
  flat (inl (e, inl (d, a, is'), is)) = inl (d, a, is ∙ err_moves e d is')
  flat (inl (e, inr (x, a, inl (d, b, is')), is)) = inr (x, a, inl (d, b, is ∙ err_moves e d is'))
  flat (inl (e, inr (x, a, inr (y, b, is')), is)) = absurd (ok_not_err (x, y) e (sym is'))
  flat (inr (q, inl (d, a, is'), c)) = absurd (ok_not_err q d is')
  flat (inr (q, inr (x, a, inl (d, b, is')), c)) = absurd (ok_not_err q d is')
  flat (inr (q, inr (x, a, inr (y, b, is')), c)) = inr (x, a, inr (y, b, subst (λ z. C z r) (ok_is q (x, y) is') c))

  deep : InTurn r → Then Both C r
  deep (inl (e, a, is)) = inl (e, inl (e, a, refl), is)
  deep (inr (x, a, inl (e, b, is))) = inl (e, inr (x, a, inl (e, b, refl)), is)
  deep (inr (x, a, inr (y, b, c))) = inr ((x, y), inr (x, a, inr (y, b, refl)), c)

-- the values of two steps as a pair, and what comes of it, are three steps in turn
pub settles_flat : {T V U : Type 0} (A : Result T CoreError → Type 0) (B : T → Result V CoreError → Type 0)
    (C : T × V → Result U CoreError → Type 0) (r : Result U CoreError)
    → Settles (Then (Then A (λ x. Then (B x) (λ y pair. pair ≡ Ok (x, y)))) C) r → Settles (Then A (λ x. Then (B x) (λ y. C (x, y)))) r
settles_flat A B C r h = record { right = flat A B C r h.right; only = λ answer is kept. h.only answer (deep A B C answer is) kept }
