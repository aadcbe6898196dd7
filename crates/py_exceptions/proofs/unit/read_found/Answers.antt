use Rattle.std.proofs.Common.{◌≡◌, ◌∙◌, arith, sym, refl, true, false}
use Rattle.std.proofs.lemmas.Result.{err_from_is_err_and}
use Rattle.process_memory.proofs.Reading.{reads_end, reads_halt, reads_next}
use Rattle.py_builtins.proofs.Consulted.{consulting_short}
use Rattle.py_exceptions.specs.Units.{is_of, unit_found_at}
use Rattle.py_exceptions.proofs.unit.read_found.Goals as goal

pub returns-in_err-class : goal.returns-in_err-class
unfolding unit_found_at
returns-in_err-class g c =
    let p = err_from_is_err_and c.from_residual.result c.from_residual.ensures.1 in
    rw p.1 (reads_halt 4 p.0 _ (consulting_short c.in_err-class.ensures) p.2.0 (omega arith))

pub returns-then-is_of : goal.returns-then-is_of
unfolding unit_found_at
returns-then-is_of g c =
    let is : is_of c.args.units c.in_ok-class.class.flags ≡ true = sym c.is_of.ensures ∙ c.if-is_of.true in
    reads_next {k = 2} 4 _ (consulting_short c.in_ok-class.ensures) (rw is c.read_unit_in.ensures) (omega arith)

pub returns : goal.returns
unfolding unit_found_at
returns g c =
    let not : is_of c.args.units c.in_ok-class.class.flags ≡ false = sym c.is_of.ensures ∙ c.if-is_of.false in
    reads_next {k = 0} 4 _ (consulting_short c.in_ok-class.ensures) (rw not (reads_end 0 refl)) (omega arith)
