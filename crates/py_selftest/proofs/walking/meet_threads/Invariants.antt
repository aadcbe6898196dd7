use Rattle.std.proofs.Common.{◌*◌, ◌≤◌, length}
use Rattle.py_selftest.specs.Walking.{met_shown}
use Rattle.py_selftest.proofs.Folding.{Folding, threads_rest}
use Rattle.py_selftest.proofs.walking.meet_threads.Given as goal

abbrev pub invariant-loop-thread : goal.invariant-loop-thread
invariant-loop-thread g l = (l.thread-index ≤ length l.threads)
    × Folding (727 * l.thread-index) (g.P.ProcessMemory.seen l.initial.process)
    (g.P.ProcessMemory.seen l.process) (threads_rest l.layout l.release l.pointers l.threads) (met_shown l.initial.met)
    l.thread-index (met_shown l.met)
