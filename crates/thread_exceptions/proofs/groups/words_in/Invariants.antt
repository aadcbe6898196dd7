use Rattle.std.proofs.Common.{◌≡◌, ◌+◌, ◌*◌, ◌-◌, ◌≤◌, ◌++◌}
use Rattle.thread_exceptions.specs.Groups.{words_in}
use Rattle.thread_exceptions.proofs.groups.words_in.Given as goal

abbrev pub invariant-loop-k : goal.invariant-loop-k
invariant-loop-k l = (l.at ≡ 8 * l.k) × (l.k ≤ l.count) ×
    (l.words.items ++ words_in (l.count - l.k) l.bytes l.at ≡ words_in l.count l.bytes 0)
