use Rattle.std.proofs.Common.{◌≡◌, ◌≤◌, ◌-◌, ◌*◌, ◌++◌}
use Rattle.process_memory.specs.Seen.{Reading}
use Rattle.py_runs.specs.Members.{c_frames_from}
use Rattle.py_runs.proofs.c_frame.read_c_frames.Given as goal

abbrev pub invariant-loop-at : goal.invariant-loop-at
invariant-loop-at g l = record {
  within : l.met ≤ l.most;
  reading : Reading (2 * l.met) (g.P.ProcessMemory.seen l.initial.process) (g.P.ProcessMemory.seen l.process)
      (λ m. c_frames_from l.current l.previous m l.most l.first
      ≡ l.frames.items ++ c_frames_from l.current l.previous m (l.most - l.met) l.at);
}

abbrev pub decreases-loop-at : goal.decreases-loop-at
decreases-loop-at g l = l.most - l.met
