-- Answers that are right for more.
use Rattle.std.specs.Prelude.{ℕ, Result, Ok, Err, Vec}
use Rattle.std.specs.Global.{Global}
use Rattle.core_report.specs.declared.cause.Cause.{Cause}
use Rattle.core_report.specs.Outcome.{IsAnswer, Outcome}

pub answer_weaker : (P Q : Outcome → Type 0) → ((o : Outcome) → P o → Q o) → (r : Result (Vec ℕ Global) Cause) → IsAnswer P r → IsAnswer Q r
answer_weaker P Q weaker (Ok text) h = weaker (Ok text.items) h
answer_weaker P Q weaker (Err cause) h = λ ne. weaker (Err cause) (h ne)
