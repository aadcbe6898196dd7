-- What a symbol names, as it was read.
use Rattle.std.proofs.Common.{◌≡◌, ◌∙◌, ℕ, List, ◌∷◌, ap, refl}
use Rattle.std.specs.Prelude.{Option, Some, None, Result, Ok, Err, IfOk}
use Rattle.process_memory.specs.Memory.{Fault, Found}
use Rattle.process_memory.specs.Seen.{Answers, FaultIs}
use Rattle.py_builtins.specs.ObjectError.{object_fault}
use Rattle.py_builtins.specs.declared.error.ObjectError.{ObjectError}
use Rattle.py_reprs.specs.declared.error.ReprError.{ReprError}
use Rattle.repr_types.specs.Found.{FoundIs, IsLost, found_or_none}

module _ {T : Type 0} (f : T → Option ℕ) where
  lost_is : (d : Found T) (fault : Option Fault) (r : Result (Option ℕ) ReprError) → FaultIs d fault → IsLost fault r
      → IfOk r (λ found. found ≡ found_or_none f d)
  lost_is d None r h e = rw e tt
  lost_is d (Some fault) r h e = rw (h, e) refl

  pub known_is : (d : Found T) (read : Result T ObjectError) (r : Result (Option ℕ) ReprError)
      → Answers object_fault d read → FoundIs f read r → IfOk r (λ found. found ≡ found_or_none f d)
  known_is d (Ok x) r h e = rw (h.is, e) refl
  known_is d (Err error) r h e = lost_is d (object_fault error) r h.is e

-- two lists are the same by their parts
pub cons_is : {A : Type 0} {x y : A} {xs ys : List A} → x ≡ y → xs ≡ ys → x ∷ xs ≡ y ∷ ys
cons_is {x = x} {ys = ys} e f = ap (λ zs. x ∷ zs) f ∙ ap (λ z. z ∷ ys) e
