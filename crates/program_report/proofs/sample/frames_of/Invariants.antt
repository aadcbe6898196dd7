use Rattle.std.proofs.Common.{◌≡◌, take, map, length}
use Rattle.std.specs.List.{sum_by}
use Rattle.py_stacks.specs.Threads.{Trace, trace_of}
use Rattle.memory_builder.specs.Sizes.{capped}
use Rattle.program_report.proofs.sample.frames_of.Given as goal

abbrev pub invariant-loop-trace : goal.invariant-loop-trace
invariant-loop-trace l = l.frames ≡ capped (sum_by (λ (t : Trace). length t.frames) (take l.trace-index (map trace_of l.traces)))
