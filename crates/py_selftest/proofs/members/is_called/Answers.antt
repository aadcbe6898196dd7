use Rattle.std.proofs.Common.{◌≡◌, ◌∙◌, ap, sym, refl, arith, true, false}
use Rattle.std.specs.Prelude.{nat_lt, length}
use Rattle.std.proofs.lemmas.Bool.Decides.{nat_tests}
use Rattle.std.proofs.lemmas.Result.{err_from_is_err_and}
use Rattle.process_memory.specs.Seen.{read_fault}
use Rattle.process_memory.proofs.Reading.{reads_next, reads_halt, reads_end, reads_same, reading_short}
use Rattle.py_selftest.specs.Members.{is_called_if, is_named}
use Rattle.py_selftest.proofs.members.is_called.Goals as goal

pub returns-then-is_long : goal.returns-then-is_long
unfolding is_called_if
returns-then-is_long g c =
    let long : nat_lt 1024 (length c.args.name.now) ≡ true = grind (arith, nat_tests, c.if-is_long.true) in
    reads_same _ _ (λ m. ap (is_called_if m c.args.name.now c.args.addr) long) (reads_end 1 refl)

pub returns-in_err-chars : goal.returns-in_err-chars
unfolding is_called_if
returns-in_err-chars g c =
    let p = err_from_is_err_and c.from_residual.result c.from_residual.ensures.1 in
    let short : nat_lt 1024 (length c.args.name.now) ≡ false = grind (arith, nat_tests, c.if-is_long.false) in
    rw p.1 (reads_same _ _ (λ m. ap (is_called_if m c.args.name.now c.args.addr) short)
    (reads_halt 1 p.0 _ (reading_short c.in_err-chars.ensures.answer) (ap read_fault p.2) (omega arith)))

pub returns : goal.returns
unfolding is_called_if
returns g c =
    let short : nat_lt 1024 (length c.args.name.now) ≡ false = grind (arith, nat_tests, c.if-is_long.false) in
    let named = ap (λ bytes. is_named bytes c.args.name.now) (sym c.deref.ensures.value) ∙ sym c.is_named.ensures in
    reads_same _ _ (λ m. ap (is_called_if m c.args.name.now c.args.addr) short)
    (reads_next 1 _ (reading_short c.in_ok-chars.ensures.answer) (reads_end 0 named) (omega arith))
