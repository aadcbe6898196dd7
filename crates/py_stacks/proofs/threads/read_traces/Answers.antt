use Rattle.std.proofs.lemmas.Result.{err_from_is_err_and}
use Rattle.process_memory.proofs.Reading.{reads_next, reads_halt}
use Rattle.py_stacks.specs.Threads.{traces_at}
use Rattle.py_stacks.proofs.Costs.{traces_budget, traces_costs}
use Rattle.py_builtins.specs.Consulted.IsWidth.{Word}
use Rattle.py_builtins.proofs.Consulted.{consults_field}
use Rattle.py_stacks.proofs.threads.read_traces.Goals as goal

pub returns-in_err-head : goal.returns-in_err-head
unfolding traces_at
returns-in_err-head g c =
    let p = err_from_is_err_and c.from_residual.result c.from_residual.ensures.1 in
    rw p.1 (reads_halt _ p.0 _ (consults_field c.args.layout.now Word c.in_err-head.ensures.answer) p.2 (traces_costs _ _ _ _))

pub returns : goal.returns
unfolding traces_at
returns g c = reads_next _ _ (consults_field c.args.layout.now Word c.in_ok-head.ensures.answer) c.walk_threads.ensures (traces_budget c.args.asked c.args.layout.now c.args.interpreter c.in_ok-head.head c.in_ok-head.ensures.answer)
