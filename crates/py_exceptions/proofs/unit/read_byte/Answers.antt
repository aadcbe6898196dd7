use Rattle.std.proofs.Common.{◌≡◌, ◌∙◌, ap, arith, refl, true, false, nat_lt}
use Rattle.std.proofs.lemmas.Bool.Decides.{nat_tests}
use Rattle.std.proofs.lemmas.Result.{err_from_is_err_and}
use Rattle.elf64_core.specs.Fields.{u64_in}
use Rattle.process_memory.proofs.Reading.{reading_short, reads_end, reads_halt, reads_next}
use Rattle.py_fields.proofs.ObjectFields.{bytes_fits}
use Rattle.py_exceptions.specs.Units.{byte_of}
use Rattle.py_exceptions.proofs.unit.read_byte.Goals as goal

pub returns-in_err-object : goal.returns-in_err-object
unfolding byte_of
returns-in_err-object g c =
    let p = err_from_is_err_and c.from_residual.result c.from_residual.ensures.1 in
    rw p.1 (reads_halt 2 p.0 _ (reading_short c.in_err-object.ensures.answer) p.2.0 (omega arith))

pub u64_in-count-requires : goal.u64_in-count-requires
u64_in-count-requires g c =
    omega (arith, (bytes_fits c.requires.sound).length, c.deref.ensures.len, c.in_ok-object.ensures.whole)

pub returns-then-number-count : goal.returns-then-number-count
unfolding byte_of
returns-then-number-count g c =
    let at = c.args.layout.now.bytes.length in
    let count : c.u64_in-count.result ≡ u64_in c.in_ok-object.object.items at = c.u64_in-count.ensures
    ∙ ap (λ b. u64_in b at) c.deref.ensures.value in
    let past : nat_lt c.args.number (u64_in c.in_ok-object.object.items at) ≡ false =
    grind (arith, nat_tests, count, c.if-number-count.true) in
    reads_next {k = 0} 2 _ (reading_short c.in_ok-object.ensures.answer) (rw past (reads_end 0 refl)) (omega arith)

pub returns : goal.returns
unfolding byte_of
returns g c =
    let at = c.args.layout.now.bytes.length in
    let count : c.u64_in-count.result ≡ u64_in c.in_ok-object.object.items at = c.u64_in-count.ensures
    ∙ ap (λ b. u64_in b at) c.deref.ensures.value in
    let within : nat_lt c.args.number (u64_in c.in_ok-object.object.items at) ≡ true =
    grind (arith, nat_tests, count, c.if-number-count.false) in
    reads_next {k = 1} 2 _ (reading_short c.in_ok-object.ensures.answer) (rw within c.read_own_byte.ensures)
    (omega arith)
