use Rattle.std.proofs.Common.{◌≡◌, ◌≤◌, ◌-◌, ◌*◌, ◌++◌}
use Rattle.process_memory.specs.Seen.{Reading}
use Rattle.py_runs.specs.Members.{members_from}
use Rattle.py_runs.proofs.member.read_members.Given as goal

abbrev pub invariant-loop-at : goal.invariant-loop-at
invariant-loop-at g l = record {
  within : l.met ≤ l.count;
  reading : Reading (2 * l.met) (g.P.ProcessMemory.seen l.initial.process) (g.P.ProcessMemory.seen l.process)
      (λ m. members_from l.layout l.end m l.count l.first
      ≡ l.members.items ++ members_from l.layout l.end m (l.count - l.met) l.at);
}

abbrev pub decreases-loop-at : goal.decreases-loop-at
decreases-loop-at g l = l.count - l.met
