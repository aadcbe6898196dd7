-- A target that borrows its path, as a target.
use Rattle.std.specs.Prelude.{ℕ, List, Result, Ok, Err}
use Rattle.std.specs.Borrow.{Bor}
use Rattle.normalize_core.specs.declared.meta.Reason.{Reason}
use Rattle.normalize_core.specs.Targets.{Target}

-- a target with the bytes of its path
abbrev pub target_shown : Result (Bor (List ℕ)) Reason → Target
target_shown (Ok path) = Ok path.now
target_shown (Err reason) = Err reason
