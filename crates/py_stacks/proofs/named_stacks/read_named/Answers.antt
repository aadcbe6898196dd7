use Rattle.std.proofs.Common.{◌∙◌, arith, ap, map}
use Rattle.std.proofs.lemmas.Result.{err_from_is_err_and}
use Rattle.process_memory.specs.Memory.{byte_at}
use Rattle.process_memory.proofs.Reading.{reading_here, reading_then, reads_halt, reads_within}
use Rattle.py_names.specs.Names.{names_cost}
use Rattle.py_stacks.specs.Asking.{asked_of}
use Rattle.py_stacks.specs.NamedStacks.{name_in, named_stacks_at}
use Rattle.py_stacks.specs.StackError.{stack_fault}
use Rattle.py_stacks.specs.Threads.{trace_of}
use Rattle.py_stacks.proofs.NamedLaws.{named_answer, named_costs, named_costs_found, named_lost}
use Rattle.py_stacks.proofs.named_stacks.read_named.Goals as goal

pub returns-in_err-traces : goal.returns-in_err-traces
unfolding named_stacks_at
returns-in_err-traces g c =
    let p = err_from_is_err_and c.from_residual.result c.from_residual.ensures.1 in
    let m = byte_at (g.P.ProcessMemory.seen c.args.process.now).pieces in
    let cost = named_costs (asked_of c.args.config.now) c.args.layout.now m c.args.addresses.now.lock c.args.addresses.now.interpreter in
    rw p.1 (reads_halt _ p.0 _ c.in_err-traces.ensures.answer (ap stack_fault p.2) (omega (arith, cost)))

pub returns-in_err-names : goal.returns-in_err-names
returns-in_err-names g c =
    let p = err_from_is_err_and c.from_residual-in_err-names.result c.from_residual-in_err-names.ensures.1 in
    let m = byte_at (g.P.ProcessMemory.seen c.args.process.now).pieces in
    let names = ap (λ p. names_cost c.args.layout.now (byte_at p) c.args.addresses.now.interpreter) c.in_ok-traces.ensures.answer.pieces in
    let cost = named_costs_found (asked_of c.args.config.now) c.args.layout.now m c.args.addresses.now.lock c.args.addresses.now.interpreter (map trace_of c.in_ok-traces.traces.items) (reading_here c.in_ok-traces.ensures.answer) in
    rw p.1 (reads_within _ (reading_then _ c.in_ok-traces.ensures.answer c.in_err-names.ensures (λ m a b. named_lost p.0 (ap stack_fault (p.2 ∙ b.is)))) (omega (arith, cost, names)))

pub returns-in_err-name_traces : goal.returns-in_err-name_traces
returns-in_err-name_traces g c =
    let p = err_from_is_err_and c.from_residual-in_err-name_traces.result c.from_residual-in_err-name_traces.ensures.1 in
    let m = byte_at (g.P.ProcessMemory.seen c.args.process.now).pieces in
    let names = ap (λ p. names_cost c.args.layout.now (byte_at p) c.args.addresses.now.interpreter) c.in_ok-traces.ensures.answer.pieces in
    let cost = named_costs_found (asked_of c.args.config.now) c.args.layout.now m c.args.addresses.now.lock c.args.addresses.now.interpreter (map trace_of c.in_ok-traces.traces.items) (reading_here c.in_ok-traces.ensures.answer) in
    rw p.1 (reads_within _ (reading_then _ c.in_ok-traces.ensures.answer c.in_ok-names.ensures (λ m a b. named_lost p.0 (ap stack_fault p.2))) (omega (arith, cost, names)))

pub returns : goal.returns
returns g c =
    let m = byte_at (g.P.ProcessMemory.seen c.args.process.now).pieces in
    let names = ap (λ p. names_cost c.args.layout.now (byte_at p) c.args.addresses.now.interpreter) c.in_ok-traces.ensures.answer.pieces in
    let q = asked_of c.args.config.now in
    let cost = named_costs_found q c.args.layout.now m c.args.addresses.now.lock c.args.addresses.now.interpreter (map trace_of c.in_ok-traces.traces.items) (reading_here c.in_ok-traces.ensures.answer) in
    reads_within _ (reading_then _ c.in_ok-traces.ensures.answer c.in_ok-names.ensures
    (λ m a b. named_answer q c.args.layout.now m c.args.addresses.now.lock c.args.addresses.now.interpreter (map trace_of c.in_ok-traces.traces.items) (map trace_of c.name_traces.new.traces.items) (name_in c.in_ok-names.names) a b.is c.in_ok-name_traces.ensures)) (omega (arith, cost, names))
