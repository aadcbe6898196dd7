use Rattle.std.proofs.Common.{◌≡◌, ◌+◌, ◌*◌, ◌∙◌, length, arith, ap, sym}
use Rattle.std.proofs.lemmas.Result.{err_from_is_err_and}
use Rattle.process_memory.proofs.Reading.{reads_end, reads_halt, reads_next}
use Rattle.py_builtins.proofs.Consulted.{consulting_short}
use Rattle.py_builtins.specs.ObjectError.{object_fault}
use Rattle.py_reprs.specs.Attributes.{attributes_at, count_of, held}
use Rattle.py_reprs.proofs.attributes.find_attributes.Goals as goal

pub returns-in_err-dict : goal.returns-in_err-dict
unfolding attributes_at
returns-in_err-dict g c =
    let p = err_from_is_err_and c.from_residual.result c.from_residual.ensures.1 in
    rw p.1 (reads_halt _ p.0 _ (consulting_short c.in_err-dict.ensures) (ap object_fault p.2) (omega arith))

pub returns-in_err-stated : goal.returns-in_err-stated
unfolding attributes_at
returns-in_err-stated g c =
    let p = err_from_is_err_and c.from_residual-in_err-stated.result c.from_residual-in_err-stated.ensures.1 in
    rw p.1 (reads_next _ _ (consulting_short c.in_ok-dict.ensures) (reads_halt (2 * c.args.limit + 4) p.0 _
    c.in_err-stated.ensures (ap object_fault p.2) (omega arith)) (omega arith))

pub returns-in_err-told : goal.returns-in_err-told
unfolding attributes_at
returns-in_err-told g c =
    let p = err_from_is_err_and c.from_residual-in_err-told.result c.from_residual-in_err-told.ensures.1 in
    rw p.1 (reads_next _ _ (consulting_short c.in_ok-dict.ensures) (reads_next (2 * c.args.limit + 4) _
    c.in_ok-stated.ensures (reads_halt (2 * c.args.limit + 3) p.0 _ (consulting_short c.in_err-told.ensures)
    (ap object_fault p.2) (omega arith)) (omega arith)) (omega arith))

pub returns : goal.returns
unfolding attributes_at
returns g c =
    let told = c.in_ok-told.told in
    let many : c.len.result ≡ length told.list.items = omega (arith, c.len.ensures) in
    let count = c.count_of-count.ensures ∙ ap (λ n. count_of c.in_ok-stated.stated n told.left) many in
    reads_next _ _ (consulting_short c.in_ok-dict.ensures) (reads_next (2 * c.args.limit + 4) _
    c.in_ok-stated.ensures (reads_next {k = 0} (2 * c.args.limit + 3) _ (consulting_short c.in_ok-told.ensures)
    (reads_end 0 (ap (held told.list.items) (sym count))) (omega arith)) (omega arith)) (omega arith)
