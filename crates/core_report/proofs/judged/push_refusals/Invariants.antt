use Rattle.std.proofs.Common.{◌≡◌, ◌++◌, drop, map}
use Rattle.std.specs.List.{concat}
use Rattle.core_report.specs.Grouped.{refusal_line, refusals_text}
use Rattle.core_report.specs.Judging.{refusal_seen}
use Rattle.core_report.proofs.judged.push_refusals.Given as goal

abbrev pub invariant-loop-name : goal.invariant-loop-name
invariant-loop-name l = l.text.items ++ concat (map (λ r. refusal_line (refusal_seen r)) (drop l.name-index l.refusals))
    ≡ l.fn.text.items ++ refusals_text (map refusal_seen l.refusals)
