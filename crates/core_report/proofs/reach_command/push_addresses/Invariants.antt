use Rattle.std.proofs.Common.{◌≡◌, ◌++◌, take, map}
use Rattle.core_report.proofs.reach_command.push_addresses.Given as goal

abbrev pub invariant-loop-local : goal.invariant-loop-local
invariant-loop-local l = l.roots.items ≡ l.initial.roots.items ++ map (λ x. x.addr) (take l.local-index l.locals)
