use Rattle.std.proofs.Common.{◌≡◌, ap, refl, arith, true, false}
use Rattle.std.specs.Prelude.{nat_eq}
use Rattle.std.proofs.lemmas.Bool.Decides.{nat_tests}
use Rattle.process_memory.proofs.Reading.{reads_end, reads_same}
use Rattle.py_selftest.specs.Walking.{met_shown, step_if}
use Rattle.py_selftest.proofs.walking.step.Goals as goal

pub returns-then-met-eq0 : goal.returns-then-met-eq0
unfolding step_if
returns-then-met-eq0 g c =
    let ends : nat_eq c.args.met.at 0 ≡ true = grind (arith, nat_tests, c.if-met-eq0.true) in
    reads_same _ _ (λ m. ap (step_if c.args.layout.now m c.args.release (met_shown c.args.met)) ends) (reads_end 45
    refl)

pub returns : goal.returns
unfolding step_if
returns g c =
    let goes : nat_eq c.args.met.at 0 ≡ false = grind (arith, nat_tests, c.if-met-eq0.false) in
    reads_same _ _ (λ m. ap (step_if c.args.layout.now m c.args.release (met_shown c.args.met)) goes)
    c.frame_step.ensures
