use Rattle.std.proofs.lemmas.Result.{err_from_is_err_and}
use Rattle.py_tasks.specs.Chains.{kind_at}
use Rattle.py_names.proofs.TypedSteps.{reads_fail, reads_pass}
use Rattle.py_tasks.proofs.chain.read_own_kind.Goals as goal

pub returns-in_err-kind : goal.returns-in_err-kind
unfolding kind_at
returns-in_err-kind g c =
    let p = err_from_is_err_and c.from_residual.result c.from_residual.ensures.1 in
    rw p.1 (reads_fail p.0 c.in_err-kind.ensures p.2.0)

pub returns : goal.returns
unfolding kind_at
returns g c = reads_pass c.in_ok-kind.ensures
