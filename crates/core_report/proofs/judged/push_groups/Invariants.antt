use Rattle.std.proofs.Common.{◌≡◌, ◌++◌, ◌+◌, drop, map}
use Rattle.core_report.specs.Grouped.{groups_text}
use Rattle.core_report.proofs.judged.push_groups.Given as goal

abbrev pub invariant-loop-place : goal.invariant-loop-place
invariant-loop-place l = l.text.items ++ groups_text (map (λ n. n.now) l.names) (l.place + 1) (map (λ g. g.items) (drop l.place l.groups))
    ≡ l.initial.text.items ++ groups_text (map (λ n. n.now) l.names) 1 (map (λ g. g.items) l.groups)
