use Rattle.std.proofs.Common.{◌≡◌, ◌+◌, ◌*◌, ap, arith, sym}
use Rattle.std.proofs.lemmas.Result.{err_from_is_err_and}
use Rattle.process_memory.proofs.Reading.{reads_end, reads_halt, reads_known, reads_next}
use Rattle.py_names.specs.NamesError.{names_fault}
use Rattle.task_sets.specs.Registered.{joined, members_at}
use Rattle.task_sets.proofs.registered.read_members.Goals as goal

pub returns-in_err-all : goal.returns-in_err-all
unfolding members_at
returns-in_err-all g c =
    let p = err_from_is_err_and c.from_residual.result c.from_residual.ensures.1 in
    rw p.1 (reads_halt 3276803 p.0 _ c.in_err-all.ensures (ap names_fault p.2) (omega (arith, c.requires.few)))

pub returns-in_err-scheduled : goal.returns-in_err-scheduled
unfolding members_at
returns-in_err-scheduled g c =
    let p = err_from_is_err_and c.from_residual-in_err-scheduled.result c.from_residual-in_err-scheduled.ensures.1 in
    rw p.1 (reads_next 3276803 _ c.in_ok-all.ensures (reads_halt (3 * c.args.tables.now.scheduled.count + 3 * c.args.tables.now.eager.count + 131075) p.0 _ c.in_err-scheduled.ensures (ap
    names_fault p.2) (omega (arith, c.requires.few))) (omega (arith, c.requires.few)))

pub returns-in_err-eager : goal.returns-in_err-eager
unfolding members_at
returns-in_err-eager g c =
    let p = err_from_is_err_and c.from_residual-in_err-eager.result c.from_residual-in_err-eager.ensures.1 in
    rw p.1 (reads_next 3276803 _ c.in_ok-all.ensures (reads_next (3 * c.args.tables.now.scheduled.count + 3 * c.args.tables.now.eager.count + 131075) _ c.in_ok-scheduled.ensures (reads_halt
    (3 * c.args.tables.now.eager.count + 131075) p.0 _ c.in_err-eager.ensures (ap names_fault p.2) (omega (arith, c.requires.few))) (omega (arith, c.requires.few))) (omega (arith, c.requires.few)))

pub returns-in_err-current : goal.returns-in_err-current
unfolding members_at
returns-in_err-current g c =
    let p = err_from_is_err_and c.from_residual-in_err-current.result c.from_residual-in_err-current.ensures.1 in
    rw p.1 (reads_next 3276803 _ c.in_ok-all.ensures (reads_next (3 * c.args.tables.now.scheduled.count + 3 * c.args.tables.now.eager.count + 131075) _ c.in_ok-scheduled.ensures (reads_next
    (3 * c.args.tables.now.eager.count + 131075) _ c.in_ok-eager.ensures (reads_halt 131075 p.0 _ c.in_err-current.ensures (ap names_fault p.2)
    (omega (arith, c.requires.few))) (omega (arith, c.requires.few))) (omega (arith, c.requires.few))) (omega (arith, c.requires.few)))

pub returns-in_err-list : goal.returns-in_err-list
unfolding members_at
returns-in_err-list g c =
    let p = err_from_is_err_and c.from_residual-in_err-list.result c.from_residual-in_err-list.ensures.1 in
    rw p.1 (reads_next 3276803 _ c.in_ok-all.ensures (reads_next (3 * c.args.tables.now.scheduled.count + 3 * c.args.tables.now.eager.count + 131075) _ c.in_ok-scheduled.ensures
    (reads_next (3 * c.args.tables.now.eager.count + 131075) _ c.in_ok-eager.ensures (reads_next {k = 0} 131075 _ c.in_ok-current.ensures
    (reads_known 0 _ _ (λ m. record { is = rw (ap names_fault p.2) tt })) (omega (arith, c.requires.few))) (omega (arith, c.requires.few))) (omega (arith, c.requires.few))) (omega (arith, c.requires.few)))

pub returns : goal.returns
unfolding members_at
returns g c =
    let same : c.in_ok-list.list.items ≡ joined c.in_ok-all.all.items c.in_ok-scheduled.scheduled.items
    c.in_ok-eager.eager.items c.in_ok-current.current.items =
    rw (c.deref.ensures.value, c.deref-2.ensures.value, c.deref-3.ensures.value, c.deref-4.ensures.value)
    at c.in_ok-list.ensures in
    reads_next 3276803 _ c.in_ok-all.ensures (reads_next (3 * c.args.tables.now.scheduled.count + 3 * c.args.tables.now.eager.count + 131075) _ c.in_ok-scheduled.ensures
    (reads_next (3 * c.args.tables.now.eager.count + 131075) _ c.in_ok-eager.ensures (reads_next {k = 0} 131075 _ c.in_ok-current.ensures
    (reads_end 0 (sym same)) (omega (arith, c.requires.few))) (omega (arith, c.requires.few))) (omega (arith, c.requires.few))) (omega (arith, c.requires.few))
