use Rattle.std.proofs.Common.{◌≡◌, ◌+◌, ◌*◌, length, ap, arith}
use Rattle.std.proofs.lemmas.Result.{err_from_is_err_and}
use Rattle.py_names.specs.NamesError.{names_fault}
use Rattle.task_sets.proofs.Gathering.{gathering_done, gathering_init, gathering_lost, gathering_more}
use Rattle.task_sets.proofs.Gathering.{gathering_stop}
use Rattle.py_tasks.specs.Entries.{entries_of, entry_shown_of}
use Rattle.py_tasks.proofs.Adding.{shown_more}
use Rattle.py_tasks.proofs.Costs.{fits, same, step}
use Rattle.py_tasks.proofs.entries.read_entries.Goals as goal

pub loop-address-init : goal.loop-address-init
loop-address-init g c = rw c.new-entries.ensures.items (gathering_init
    (λ m. entries_of c.args.layout.now c.args.described.now m c.args.limit c.args.addresses.now)
    (16568 + 17 * c.args.limit) _ (length c.args.addresses.now))

pub returns-in_err-entry : goal.returns-in_err-entry
returns-in_err-entry g c =
    let p = err_from_is_err_and c.from_residual.result c.from_residual.ensures.1 in
    rw p.1 (gathering_stop ((16568 + 17 * c.args.limit) * length c.args.addresses.now) p.0 c.loop-address.invariant
    c.loop-address-test.true c.in_err-entry.ensures (ap names_fault p.2)
    (fits (16568 + 17 * c.args.limit) _ _ c.loop-address-test.true))

pub returns-in_err-add_entry : goal.returns-in_err-add_entry
returns-in_err-add_entry g c =
    let p = err_from_is_err_and c.from_residual-in_err-add_entry.result c.from_residual-in_err-add_entry.ensures.1 in
    rw p.1 (gathering_lost ((16568 + 17 * c.args.limit) * length c.args.addresses.now) p.0 c.loop-address.invariant
    c.in_ok-entry.ensures (ap names_fault p.2) (fits (16568 + 17 * c.args.limit) _ _ c.loop-address-test.true))

pub loop-address-preserved : goal.loop-address-preserved
loop-address-preserved g c =
    rw (c.in_ok-add_entry.ensures, shown_more _ c.in_ok-entry.entry) (gathering_more
    (entry_shown_of c.in_ok-entry.entry) c.loop-address.invariant c.loop-address-test.true c.in_ok-entry.ensures
    (step (16568 + 17 * c.args.limit) _))

pub returns : goal.returns
returns g c =
    let done : c.loop-address.address-index ≡ length c.args.addresses.now = omega arith in
    gathering_done ((16568 + 17 * c.args.limit) * length c.args.addresses.now) c.loop-address.invariant done
    (same (16568 + 17 * c.args.limit) _ _ done)
