use Rattle.std.proofs.Common.{◌≡◌, ap, sym, refl, arith, true, false}
use Rattle.std.specs.Prelude.{nat_le}
use Rattle.std.proofs.lemmas.Bool.Decides.{nat_tests}
use Rattle.process_memory.proofs.Reading.{reads_end, reads_same}
use Rattle.py_selftest.specs.Questions.{end_if, last_told}
use Rattle.py_selftest.proofs.questions.end_told.Goals as goal

pub returns-then-is_long : goal.returns-then-is_long
unfolding end_if
returns-then-is_long g c =
    let long : nat_le 16777216 c.args.length ≡ true = grind (arith, nat_tests, c.if-is_long.true) in
    reads_same _ _ (λ m. ap (end_if c.args.layout.now m c.args.table c.args.length) long) (reads_end 1 refl)

pub returns : goal.returns
unfolding end_if
returns g c =
    let short : nat_le 16777216 c.args.length ≡ false = grind (arith, nat_tests, c.if-is_long.false) in
    reads_same _ _ (λ m. ap (end_if c.args.layout.now m c.args.table c.args.length) short)
    (reads_same _ _ (λ m. ap (last_told m c.args.table) (sym c.less-offset.ensures)) c.last_told.ensures)
