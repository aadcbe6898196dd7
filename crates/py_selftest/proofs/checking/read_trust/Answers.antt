use Rattle.std.proofs.Common.{ap, sym, arith}
use Rattle.std.specs.Prelude.{codes}
use Rattle.std.proofs.lemmas.Result.{err_from_is_err_and}
use Rattle.process_memory.specs.Seen.{read_fault}
use Rattle.process_memory.proofs.Reading.{reads_next, reads_halt, reads_end}
use Rattle.py_selftest.specs.declared.rows.BuiltIn.TheVariants.{Metatype}
use Rattle.py_selftest.specs.Checking.{trust_at, untried}
use Rattle.py_selftest.specs.Telling.{member_told}
use Rattle.py_selftest.specs.Trusting.{own_place_at, table_at}
use Rattle.py_selftest.proofs.Keeping.{reads_kept}
use Rattle.py_selftest.proofs.checking.read_trust.Goals as goal

pub returns-in_err-own : goal.returns-in_err-own
unfolding trust_at
returns-in_err-own g c =
    let p = err_from_is_err_and c.from_residual.result c.from_residual.ensures.1 in
    rw p.1 (reads_halt 1030 p.0 _ (reads_kept (λ m. own_place_at m c.args.types.now.metatype) c.in_err-own.ensures
    c.own_place.ensures) (ap read_fault p.2) (omega arith))

pub returns-in_err-size : goal.returns-in_err-size
unfolding trust_at
returns-in_err-size g c =
    let p = err_from_is_err_and c.from_residual-in_err-size.result c.from_residual-in_err-size.ensures.1 in
    let told = rw c.untried-telling.ensures at c.member_told.ensures in
    rw p.1 (reads_next 1030 _ (reads_kept (λ m. own_place_at m c.args.types.now.metatype) c.in_ok-own.ensures
    c.own_place.ensures)
    (reads_halt 1028 p.0 _ (reads_kept (λ m. member_told m
    (untried c.args.types.now c.args.release c.in_ok-own.own) Metatype (codes "__basicsize__") 8)
    c.in_err-size.ensures told) (ap read_fault p.2) (omega arith)) (omega arith))

pub returns-in_err-table : goal.returns-in_err-table
unfolding trust_at
returns-in_err-table g c =
    let p = err_from_is_err_and c.from_residual-in_err-table.result c.from_residual-in_err-table.ensures.1 in
    let told = rw c.untried-telling.ensures at c.member_told.ensures in
    rw p.1 (reads_next 1030 _ (reads_kept (λ m. own_place_at m c.args.types.now.metatype) c.in_ok-own.ensures
    c.own_place.ensures)
    (reads_next 1028 _ (reads_kept (λ m. member_told m
    (untried c.args.types.now c.args.release c.in_ok-own.own) Metatype (codes "__basicsize__") 8)
    c.in_ok-size.ensures told)
    (reads_halt 3 p.0 _ (reads_kept (λ m. table_at m c.args.release c.args.runtime) c.in_err-table.ensures
    c.read_table.ensures) (ap read_fault p.2) (omega arith)) (omega arith)) (omega arith))

pub returns : goal.returns
unfolding trust_at
returns g c =
    let told = rw c.untried-telling.ensures at c.member_told.ensures in
    reads_next 1030 _ (reads_kept (λ m. own_place_at m c.args.types.now.metatype) c.in_ok-own.ensures
    c.own_place.ensures)
    (reads_next 1028 _ (reads_kept (λ m. member_told m
    (untried c.args.types.now c.args.release c.in_ok-own.own) Metatype (codes "__basicsize__") 8)
    c.in_ok-size.ensures told)
    (reads_next 3 _ (reads_kept (λ m. table_at m c.args.release c.args.runtime) c.in_ok-table.ensures
    c.read_table.ensures) (reads_end 0 (sym c.trust_of.ensures)) (omega arith)) (omega arith)) (omega arith)
