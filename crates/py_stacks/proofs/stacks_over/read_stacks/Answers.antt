use Rattle.std.proofs.Common.{◌∙◌, arith, ap, map}
use Rattle.std.proofs.lemmas.Result.{err_from_is_err_and}
use Rattle.process_memory.specs.Memory.{byte_at}
use Rattle.process_memory.proofs.Reading.{reading_then, reads_halt, reads_within}
use Rattle.py_stacks.specs.StackError.{stack_fault}
use Rattle.py_stacks.specs.StacksOver.{stacks_over_at}
use Rattle.py_stacks.specs.Threads.{trace_of}
use Rattle.py_stacks.proofs.OverLaws.{over_answer, over_budget, over_costs, over_lost}
use Rattle.py_stacks.proofs.stacks_over.read_stacks.Goals as goal

pub returns-in_err-traces : goal.returns-in_err-traces
unfolding stacks_over_at
returns-in_err-traces g c =
    let p = err_from_is_err_and c.from_residual.result c.from_residual.ensures.1 in
    let m = byte_at (g.P.ProcessMemory.seen c.args.process.now).pieces in
    let cost = over_costs c.args.config.now c.args.layout.now m c.args.addresses.now.lock c.args.addresses.now.interpreter in
    rw p.1 (reads_halt _ p.0 _ c.in_err-traces.ensures (ap stack_fault p.2) (omega (arith, cost)))

pub returns-in_err-show_traces : goal.returns-in_err-show_traces
returns-in_err-show_traces g c =
    let p = err_from_is_err_and c.from_residual-in_err-show_traces.result c.from_residual-in_err-show_traces.ensures.1 in
    let m = byte_at (g.P.ProcessMemory.seen c.args.process.now).pieces in
    let cost = over_costs c.args.config.now c.args.layout.now m c.args.addresses.now.lock c.args.addresses.now.interpreter in
    let budget = over_budget c.args.config.now c.args.layout.now c.args.addresses.now.lock c.args.addresses.now.interpreter c.value_width-width.result (map trace_of c.in_ok-traces.traces.items) c.value_width-width.ensures c.in_ok-traces.ensures in
    rw p.1 (reads_within _ (reading_then _ c.in_ok-traces.ensures c.in_err-show_traces.ensures.shown (λ m a b. over_lost p.0 (ap stack_fault (p.2 ∙ c.in_err-show_traces.ensures.lost)))) (omega (arith, cost, budget)))

pub returns : goal.returns
returns g c =
    let m = byte_at (g.P.ProcessMemory.seen c.args.process.now).pieces in
    let cost = over_costs c.args.config.now c.args.layout.now m c.args.addresses.now.lock c.args.addresses.now.interpreter in
    let budget = over_budget c.args.config.now c.args.layout.now c.args.addresses.now.lock c.args.addresses.now.interpreter c.value_width-width.result (map trace_of c.in_ok-traces.traces.items) c.value_width-width.ensures c.in_ok-traces.ensures in
    reads_within _ (reading_then _ c.in_ok-traces.ensures c.in_ok-show_traces.ensures.shown
    (λ m a b. over_answer c.args.config.now c.args.layout.now m c.args.addresses.now.lock c.args.addresses.now.interpreter (map trace_of c.in_ok-traces.traces.items) (map trace_of c.show_traces.new.traces.items) c.value_width-width.result c.value_width-width.ensures a b)) (omega (arith, cost, budget))
