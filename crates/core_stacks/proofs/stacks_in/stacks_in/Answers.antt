use Rattle.std.proofs.Common.{ap, map, arith}
use Rattle.std.proofs.lemmas.Result.{err_from_is_err_and}
use Rattle.process_memory.proofs.Reading.{reading_none}
use Rattle.py_stacks.specs.Threads.{trace_of}
use Rattle.py_process.specs.Reports.{traces_in}
use Rattle.core_stacks.specs.Seen.{finding_of}
use Rattle.core_stacks.proofs.Stacks.{stacks_found, stacks_lost}
use Rattle.core_stacks.proofs.stacks_in.stacks_in.Goals as goal

pub returns-then-config : goal.returns-then-config
returns-then-config g c = reading_none _ _ _ (λ m. c.if-config.true)

pub returns-then-config-2 : goal.returns-then-config-2
returns-then-config-2 g c = reading_none _ _ _ (λ m. (c.if-config.false, c.if-config-2.true))

pub returns-in_err-traces : goal.returns-in_err-traces
returns-in_err-traces g c =
    let p = err_from_is_err_and c.from_residual.result c.from_residual.ensures.1 in
    stacks_lost (finding_of c.args.found.now) c.args.config.now (record { native = c.if-config.false; subprocesses = c.if-config-2.false })
    c.in_err-traces.field-0.0 p.0 _ p.2 c.in_err-traces.ensures.faults (ap traces_in p.1)
    (omega (arith, c.in_err-traces.ensures.bound, c.in_err-traces.ensures.details))

pub returns : goal.returns
returns g c =
    stacks_found (finding_of c.args.found.now) c.args.config.now (record { native = c.if-config.false; subprocesses = c.if-config-2.false })
    (map trace_of c.in_ok-traces.traces.items) c.in_ok-traces.ensures.faults c.in_ok-traces.ensures.traces
    (omega (arith, c.in_ok-traces.ensures.bound, c.in_ok-traces.ensures.details))
