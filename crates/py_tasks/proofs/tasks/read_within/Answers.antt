use Rattle.std.proofs.Common.{length, ap, refl}
use Rattle.std.proofs.lemmas.Result.{err_from_is_err_and}
use Rattle.process_memory.proofs.Reading.{reads_end, reads_halt, reads_next}
use Rattle.py_names.specs.NamesError.{names_fault}
use Rattle.py_tasks.specs.Tasks.{read_at}
use Rattle.py_tasks.proofs.Costs.{more, whole}
use Rattle.py_tasks.proofs.tasks.read_within.Goals as goal

pub returns-in_err-entries : goal.returns-in_err-entries
unfolding read_at
returns-in_err-entries g c =
    let p = err_from_is_err_and c.from_residual.result c.from_residual.ensures.1 in
    let read = rw c.chain_limit-limit.ensures.is at c.in_err-entries.ensures in
    let most = rw c.chain_limit-limit.ensures.is at (whole c.chain_limit-limit.result
    (length c.args.addresses.now) c.requires.few c.chain_limit-limit.ensures.all) in
    rw p.1 (reads_halt 1103626240 p.0 _ read (ap names_fault p.2) most)

pub returns : goal.returns
unfolding read_at
returns g c =
    let read = rw c.chain_limit-limit.ensures.is at c.in_ok-entries.ensures in
    let most = rw c.chain_limit-limit.ensures.is at (whole c.chain_limit-limit.result
    (length c.args.addresses.now) c.requires.few c.chain_limit-limit.ensures.all) in
    reads_next {k = 0} 1103626240 _ read (reads_end 0 refl) (more _ _ most)
