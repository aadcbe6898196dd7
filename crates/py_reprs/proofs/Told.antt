-- What is shown of what was read.
use Rattle.std.proofs.Common.{◌≡◌, sym, ap, ◌∙◌}
use Rattle.std.specs.Prelude.{Option, Some, None, Ok, Err}
use Rattle.process_memory.specs.Memory.{Fault, Found}
use Rattle.process_memory.specs.Seen.{Answers, FaultIs}
use Rattle.py_builtins.specs.ObjectError.{object_fault}
use Rattle.py_builtins.specs.declared.error.ObjectError.{ObjectError}

ok_is : {T : Type 0} (x y : T) → ◌≡◌ {A = Found T} (Ok x) (Ok y) → x ≡ y
ok_is x y e = cc

no_fault : {T U : Type 0} (x : T) (y : U) (f : Option Fault) → FaultIs {T = T} (Ok x) f → FaultIs {T = U} (Ok y) f
no_fault x y None h = tt
no_fault x y (Some f) h = absurd (cc)

-- what is shown by a name that was read
pub named_is : {N T : Type 0} (f : N → T) (x : N) {y : N} {t : T} → Answers {E = ObjectError} object_fault (Ok x) (Ok y)
    → t ≡ f y → Answers {E = ObjectError} object_fault (Ok (f x)) (Ok t)
named_is f x {y} {t} h e = record { is = ap Ok (ap f (ok_is x y h.is) ∙ sym e) }

pub named_lost : {N T : Type 0} (f : N → T) (x : N) {e e2 : ObjectError} → Answers {T = N} object_fault (Ok x) (Err e)
    → object_fault e2 ≡ object_fault e → Answers {T = T} object_fault (Ok (f x)) (Err e2)
named_lost f x {e} {e2} h same = record { is = rw same (no_fault x (f x) (object_fault e) h.is) }
