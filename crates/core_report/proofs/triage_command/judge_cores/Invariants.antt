use Rattle.std.proofs.Common.{◌≡◌, ◌≤◌, ℕ, List, length}
use Rattle.core_words.specs.Seen.{asked_triage}
use Rattle.core_words.specs.Words.{triage}
use Rattle.core_report.specs.Reading.{AsksCores, IsRead}
use Rattle.core_report.proofs.Judging.{SoFar}
use Rattle.core_report.proofs.triage_command.judge_cores.Given as goal

abbrev pub invariant-loop-core : goal.invariant-loop-core
invariant-loop-core g l = record {
  told : (g.F.Files.seen l.files).told ≡ (g.F.Files.seen l.fn.files).told;
  failed : (g.F.Files.seen l.files).failed ≡ (g.F.Files.seen l.fn.files).failed;
  few : length l.judged.keys.items ≤ l.core-index;
  judged : (before : List (List ℕ)) → IsRead (g.F.Files.seen l.fn.files).told (triage (asked_triage l.words)) before
      → AsksCores (asked_triage l.words) before
      → SoFar (g.F.Files.seen l.fn.files).told (asked_triage l.words) before l.images l.layouts l.core-index l.judged;
}
