use Rattle.std.proofs.Common.{ap, arith, ◌∙◌}
use Rattle.std.proofs.lemmas.Result.{err_from_is_err_and}
use Rattle.process_memory.specs.Seen.{read_fault}
use Rattle.py_selftest.proofs.KeySteps.{telling_init, telling_more, telling_done, telling_stop, telling_lost}
use Rattle.py_selftest.proofs.checking.keys_told.Goals as goal

pub loop-row-init : goal.loop-row-init
loop-row-init g c =
    rw c.new-keys.ensures.items (telling_init c.args.layout.now c.args.telling.now c.args.rows.now _)

pub returns-in_err-process_number : goal.returns-in_err-process_number
returns-in_err-process_number g c =
    let p = err_from_is_err_and c.from_residual.result c.from_residual.ensures.1 in
    rw p.1 (telling_stop _ p.0 c.loop-row.invariant c.loop-row-test.true
    c.in_err-process_number.ensures (ap read_fault p.2))

pub returns-in_err-add_key : goal.returns-in_err-add_key
returns-in_err-add_key g c =
    let p = err_from_is_err_and c.from_residual-in_err-add_key.result c.from_residual-in_err-add_key.ensures.1 in
    rw p.1 (telling_lost _ p.0 c.loop-row.invariant c.loop-row-test.true
    c.in_ok-process_number.ensures
    (ap read_fault p.2 ∙ ap read_fault c.in_err-add_key.ensures.memory))

pub loop-row-preserved : goal.loop-row-preserved
loop-row-preserved g c =
    rw (c.in_ok-add_key.ensures.added, c.key_told.ensures)
    (telling_more _ c.in_ok-process_number.process_number c.loop-row.invariant c.loop-row-test.true
    c.in_ok-process_number.ensures)

pub returns : goal.returns
returns g c = telling_done c.loop-row.invariant (omega arith)
