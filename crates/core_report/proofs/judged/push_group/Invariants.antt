use Rattle.std.proofs.Common.{◌≡◌, ◌++◌, drop, map}
use Rattle.core_report.specs.Grouped.{group_text, name_lines}
use Rattle.core_report.proofs.judged.push_group.Given as goal

abbrev pub invariant-loop-place : goal.invariant-loop-place
invariant-loop-place l = l.text.items ++ name_lines (map (λ n. n.now) l.names) (drop l.place-index l.places)
    ≡ l.fn.text.items ++ group_text (map (λ n. n.now) l.names) l.number l.places
