use Rattle.std.proofs.Common.{◌≡◌, map, take}
use Rattle.core_triage.specs.Keys.{thread_compared, compared_thread}
use Rattle.core_triage.proofs.key.key_of.Given as goal

abbrev pub invariant-loop-trace : goal.invariant-loop-trace
invariant-loop-trace l = map thread_compared l.threads.items ≡ map compared_thread (take l.trace-index l.traces)
