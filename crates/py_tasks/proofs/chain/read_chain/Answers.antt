use Rattle.std.proofs.Common.{◌+◌, ◌*◌, ap, arith, sym}
use Rattle.std.proofs.lemmas.Result.{err_from_is_err_and}
use Rattle.process_memory.proofs.Reading.{reads_end, reads_halt, reads_next}
use Rattle.py_names.specs.NamesError.{names_fault}
use Rattle.py_tasks.specs.Chains.{chain_at, chain_with}
use Rattle.process_memory.proofs.Reading.{reading_here}
use Rattle.py_tasks.proofs.Chaining.{awaits_few}
use Rattle.py_tasks.proofs.chain.read_chain.Goals as goal

pub returns-in_err-awaits : goal.returns-in_err-awaits
unfolding chain_at
returns-in_err-awaits g c =
    let p = err_from_is_err_and c.from_residual.result c.from_residual.ensures.1 in
    rw p.1 (reads_halt (17 * c.args.limit + 17) p.0 _ c.in_err-awaits.ensures (ap names_fault p.2) (omega arith))

pub returns-in_err-members : goal.returns-in_err-members
unfolding chain_at
returns-in_err-members g c =
    let p = err_from_is_err_and c.from_residual-in_err-members.result c.from_residual-in_err-members.ensures.1 in
    let few = awaits_few c.args.places.now _ c.args.limit c.args.head _ (reading_here c.in_ok-awaits.ensures).is in
    rw p.1 (reads_next (17 * c.args.limit + 17) _ c.in_ok-awaits.ensures
    (reads_halt (10 * c.args.limit) p.0 _ (rw c.deref.ensures.value at c.in_err-members.ensures) (ap names_fault p.2)
    (omega (arith, few))) (omega arith))

pub returns : goal.returns
unfolding chain_at
returns g c =
    let few = awaits_few c.args.places.now _ c.args.limit c.args.head _ (reading_here c.in_ok-awaits.ensures).is in
    reads_next (17 * c.args.limit + 17) _ c.in_ok-awaits.ensures
    (reads_next {k = 0} (10 * c.args.limit) _ (rw c.deref.ensures.value at c.in_ok-members.ensures)
    (reads_end 0 (ap (λ ms. chain_with ms c.in_ok-awaits.awaits.end) (sym c.reverse.ensures.items)))
    (omega (arith, few))) (omega arith)
