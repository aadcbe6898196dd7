use Rattle.std.proofs.Common.{◌≡◌, arith, length}
use Rattle.std.proofs.lemmas.List.{length-map}
use Rattle.py_stacks.specs.Frames.{call_of}
use Rattle.py_stacks.specs.Threads.{Trace, trace_of}
use Rattle.memory_builder.proofs.Sums.{all_capped, more_capped}
use Rattle.program_report.proofs.sample.frames_of.Goals as goal

pub loop-trace-preserved : goal.loop-trace-preserved
loop-trace-preserved c =
    let trace = c.trace-item.result in
    let len : length (trace_of trace).frames ≡ length trace.frames.items = length-map trace.frames.items call_of in
    more_capped (λ (t : Trace). length t.frames) trace_of c.args.traces.now c.loop-trace.trace-index trace
    c.loop-trace.frames c.len.result c.saturating_add-frames.result
    c.loop-trace-test.true c.trace-item.is c.loop-trace.invariant
    (omega (arith, c.len.ensures, len, trace.frames.ok.0, trace.frames.small))
    c.saturating_add-frames.ensures

pub returns : goal.returns
returns c = all_capped (λ (t : Trace). length t.frames) trace_of c.args.traces.now c.loop-trace.trace-index
    c.loop-trace.frames c.loop-trace-test.false c.loop-trace.invariant
