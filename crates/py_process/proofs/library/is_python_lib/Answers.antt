use Rattle.std.proofs.Common.{◌≡◌, Bool, Ok, Err, IsTrue}
use Rattle.std.specs.Prelude.{Result, MatchResult, is_ok}
use Rattle.py_process.proofs.Libraries.{is_library, library_found}
use Rattle.py_process.proofs.library.is_python_lib.Goals as goal

spelled : {A E : Type 0} (Same : A → Type 0) (U : Type 0) (V : E → Type 0) (r : Result A E) (ok : Bool)
    → MatchResult r (λ s. Same s × U) (λ e. (¬ U) × V e) → ok ≡ is_ok r → (IsTrue ok → U) × (U → IsTrue ok)
spelled Same U V (Ok s) ok cases is = (λ t. cases.1, λ u. is)
spelled Same U V (Err e) ok cases is = (λ t. absurd (cc), λ u. absurd (cases.0 u))

pub returns-then-has_library : goal.returns-then-has_library
returns-then-has_library c =
    let path = c.args.pathname.now in
    let found = c.has_library.ensures.0 c.if-has_library.true in
    let utf8 = spelled _ _ _ c.from_utf8.result c.is_ok.result c.from_utf8.ensures.cases c.is_ok.ensures.value in
    (λ ok. is_library path (utf8.0 ok) found, λ is. utf8.1 is.utf8)

pub returns-else-has_library : goal.returns-else-has_library
returns-else-has_library c = (λ t. absurd (cc), λ is. c.has_library.ensures.1 (library_found c.args.pathname.now is))
