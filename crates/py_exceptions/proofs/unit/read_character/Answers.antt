use Rattle.std.proofs.Common.{◌≡◌, ◌∙◌, ap, arith, sym, refl, true, false, nat_lt}
use Rattle.std.specs.Prelude.{Some, None}
use Rattle.std.proofs.lemmas.Bool.Decides.{nat_tests}
use Rattle.std.proofs.lemmas.Result.{err_from_is_err_and}
use Rattle.elf64_core.specs.Fields.{u64_in}
use Rattle.process_memory.proofs.Reading.{reading_short, reads_end, reads_halt, reads_next}
use Rattle.py_fields.proofs.Fields.{string_fits}
use Rattle.py_builtins.specs.Texts.{characters_of}
use Rattle.py_exceptions.specs.Units.{character_at}
use Rattle.py_exceptions.proofs.unit.read_character.Goals as goal

pub returns-in_err-object : goal.returns-in_err-object
unfolding character_at
returns-in_err-object g c =
    let p = err_from_is_err_and c.from_residual.result c.from_residual.ensures.1 in
    rw p.1 (reads_halt 2 p.0 _ (reading_short c.in_err-object.ensures.answer) p.2.0 (omega arith))

pub u64_in-count-requires : goal.u64_in-count-requires
u64_in-count-requires g c =
    omega (arith, (string_fits c.requires.sound).length, c.deref.ensures.len, c.in_ok-object.ensures.whole)

pub returns-then-number-count : goal.returns-then-number-count
unfolding character_at
returns-then-number-count g c =
    let at = c.args.layout.now.string.length in
    let count : c.u64_in-count.result ≡ u64_in c.in_ok-object.object.items at = c.u64_in-count.ensures
    ∙ ap (λ b. u64_in b at) c.deref.ensures.value in
    let past : nat_lt c.args.number (u64_in c.in_ok-object.object.items at) ≡ false =
    grind (arith, nat_tests, count, c.if-number-count.true) in
    reads_next {k = 0} 2 _ (reading_short c.in_ok-object.ensures.answer) (rw past (reads_end 0 refl)) (omega arith)

pub returns-in-None : goal.returns-in-None
unfolding character_at
returns-in-None g c =
    let at = c.args.layout.now.string.length in
    let count : c.u64_in-count.result ≡ u64_in c.in_ok-object.object.items at = c.u64_in-count.ensures
    ∙ ap (λ b. u64_in b at) c.deref.ensures.value in
    let within : nat_lt c.args.number (u64_in c.in_ok-object.object.items at) ≡ true =
    grind (arith, nat_tests, count, c.if-number-count.false) in
    let kind : characters_of c.args.layout.now c.args.addr c.in_ok-object.object.items ≡ None =
    ap (characters_of c.args.layout.now c.args.addr) (sym c.deref-2.ensures.value) ∙ sym c.characters_of.ensures.is
    ∙ c.in-None.is in
    reads_next {k = 0} 2 _ (reading_short c.in_ok-object.ensures.answer) (rw (within, kind) (reads_end 0 refl))
    (omega arith)

pub returns : goal.returns
unfolding character_at
returns g c =
    let at = c.args.layout.now.string.length in
    let count : c.u64_in-count.result ≡ u64_in c.in_ok-object.object.items at = c.u64_in-count.ensures
    ∙ ap (λ b. u64_in b at) c.deref.ensures.value in
    let within : nat_lt c.args.number (u64_in c.in_ok-object.object.items at) ≡ true =
    grind (arith, nat_tests, count, c.if-number-count.false) in
    let kind : characters_of c.args.layout.now c.args.addr c.in_ok-object.object.items ≡ Some c.in-Some.characters =
    ap (characters_of c.args.layout.now c.args.addr) (sym c.deref-2.ensures.value) ∙ sym c.characters_of.ensures.is
    ∙ c.in-Some.is in
    reads_next {k = 1} 2 _ (reading_short c.in_ok-object.ensures.answer) (rw (within, kind) c.read_coded.ensures)
    (omega arith)
