use Rattle.std.proofs.Common.{◌≡◌, ◌∙◌, List, ap, sym, refl, arith, length, map}
use Rattle.std.proofs.lemmas.List.{length-map}
use Rattle.std.proofs.lemmas.Result.{err_from_is_err_and}
use Rattle.process_memory.specs.Seen.{read_fault}
use Rattle.process_memory.proofs.Reading.{reads_next, reads_halt, reads_end}
use Rattle.py_selftest.specs.declared.rows.Row.{Row}
use Rattle.py_selftest.specs.Checking.{described_at}
use Rattle.py_selftest.specs.Rows.{row_of, the_rows}
use Rattle.py_selftest.proofs.Made.{reads_lost}
use Rattle.py_selftest.proofs.checking.described_check.Goals as goal

count_is : length the_rows ≡ 56
unfolding the_rows
count_is = refl

how_many : (rows : List Row) → map row_of rows ≡ the_rows → length rows ≡ 56
how_many rows is = sym (length-map rows row_of) ∙ ap length is ∙ count_is

pub returns-in_err-met : goal.returns-in_err-met
unfolding described_at
returns-in_err-met g c =
    let p = err_from_is_err_and c.from_residual.result c.from_residual.ensures.1 in
    rw p.1 (reads_halt 129679 p.0 _ c.in_err-met.ensures (ap read_fault p.2) (omega arith))

pub returns-in_err-contents : goal.returns-in_err-contents
unfolding described_at
returns-in_err-contents g c =
    let p = err_from_is_err_and c.from_residual-in_err-contents.result c.from_residual-in_err-contents.ensures.1 in
    rw p.1 (reads_next 129679 _ c.in_ok-met.ensures
    (reads_halt 83151 p.0 _ c.in_err-contents.ensures (ap read_fault p.2) (omega arith)) (omega arith))

pub returns-in_err-trust : goal.returns-in_err-trust
unfolding described_at
returns-in_err-trust g c =
    let p = err_from_is_err_and c.from_residual-in_err-trust.result c.from_residual-in_err-trust.ensures.1 in
    rw p.1 (reads_next 129679 _ c.in_ok-met.ensures
    (reads_next 83151 _ c.in_ok-contents.ensures
    (reads_halt 58542 p.0 _ c.in_err-trust.ensures (ap read_fault p.2) (omega arith)) (omega arith)) (omega arith))

pub returns-in_err-keys : goal.returns-in_err-keys
unfolding described_at
returns-in_err-keys g c =
    let p = err_from_is_err_and c.from_residual-in_err-keys.result c.from_residual-in_err-keys.ensures.1 in
    let many = how_many c.rows.result.now c.rows.ensures in
    let told = rw c.rows.ensures at c.in_err-keys.ensures in
    rw p.1 (reads_next 129679 _ c.in_ok-met.ensures
    (reads_next 83151 _ c.in_ok-contents.ensures
    (reads_next 58542 _ c.in_ok-trust.ensures
    (reads_halt 57512 p.0 _ told (ap read_fault p.2) (omega (arith, many))) (omega arith)) (omega arith)) (omega arith))

pub returns-in_err-known : goal.returns-in_err-known
unfolding described_at
returns-in_err-known g c =
    let p = err_from_is_err_and c.from_residual-in_err-known.result c.from_residual-in_err-known.ensures.1 in
    let many = how_many c.rows.result.now c.rows.ensures in
    let told = rw c.rows.ensures at c.in_ok-keys.ensures in
    rw p.1 (reads_next 129679 _ c.in_ok-met.ensures
    (reads_next 83151 _ c.in_ok-contents.ensures
    (reads_next 58542 _ c.in_ok-trust.ensures
    (reads_next 57512 _ told (reads_lost 0 _ p.0 (ap read_fault p.2 ∙ ap read_fault c.in_err-known.ensures.memory))
    (omega (arith, many))) (omega arith)) (omega arith)) (omega arith))

pub returns : goal.returns
unfolding described_at
returns g c =
    let many = how_many c.rows.result.now c.rows.ensures in
    let told = rw c.rows.ensures at c.in_ok-keys.ensures in
    reads_next 129679 _ c.in_ok-met.ensures
    (reads_next 83151 _ c.in_ok-contents.ensures
    (reads_next 58542 _ c.in_ok-trust.ensures
    (reads_next 57512 _ told (reads_end 0 (sym (rw c.in_ok-known.ensures.added at c.check_of.ensures)))
    (omega (arith, many))) (omega arith)) (omega arith)) (omega arith)
