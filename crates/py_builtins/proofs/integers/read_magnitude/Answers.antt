use Rattle.std.proofs.Common.{◌≡◌, ◌<◌, ◌∙◌, refl, arith, ap, sym}
use Rattle.std.specs.Prelude.{Ok}
use Rattle.std.proofs.lemmas.Result.{err_from_is_err_and}
use Rattle.process_memory.proofs.Reading.{reading_gives, reads_end, reads_halt, reads_known, reads_next}
use Rattle.py_fields.proofs.ObjectFields.{long_fits}
use Rattle.py_builtins.specs.Integers.{two_big_digits}
use Rattle.py_builtins.proofs.Numbers.{magnitude_none, magnitude_one, magnitude_two, magnitude_more}
use Rattle.py_builtins.specs.Consulted.IsWidth.{Word}
use Rattle.py_builtins.proofs.Consulted.{consults_field}
use Rattle.py_builtins.proofs.integers.read_magnitude.Goals as goal

pub u32_in-requires : goal.u32_in-requires
u32_in-requires g c = omega (arith, (long_fits c.requires.sound).digits, c.requires.object)

pub returns-in-0-clause-answer : goal.returns-in-0-clause-answer
returns-in-0-clause-answer g c =
    let is : c.args.count ≡ 0 = omega arith in
    reads_known 1 _ _ (λ m. record { is = magnitude_none c.args.layout.now m c.args.addr c.args.object.now c.args.count is })

pub returns-in-1-clause-answer : goal.returns-in-1-clause-answer
returns-in-1-clause-answer g c =
    let is : c.args.count ≡ 1 = omega arith in
    reads_known 1 _ _ (λ m. record { is = magnitude_one c.args.layout.now m c.args.addr c.args.object.now c.args.count is ∙ ap Ok (sym (c.from.ensures ∙ c.u32_in.ensures)) })

pub returns-in_err-digits-in-2-clause-answer : goal.returns-in_err-digits-in-2-clause-answer
returns-in_err-digits-in-2-clause-answer g c =
    let is : c.args.count ≡ 2 = omega arith in
    let p = err_from_is_err_and c.from_residual.result c.from_residual.ensures.1 in
    rw p.1 (reading_gives 1 _ (reads_halt 1 p.0 (λ m word. Ok (two_big_digits word)) (consults_field c.args.layout.now Word c.in_err-digits-in-2.ensures.answer) p.2 (omega arith)) (omega arith) (λ m h. rw (magnitude_two c.args.layout.now m c.args.addr c.args.object.now c.args.count is) h))

pub returns-in_ok-digits-in-2-clause-answer : goal.returns-in_ok-digits-in-2-clause-answer
returns-in_ok-digits-in-2-clause-answer g c =
    let is : c.args.count ≡ 2 = omega arith in
    reading_gives 1 _ (reads_next 1 (λ m word. Ok (two_big_digits word)) (consults_field c.args.layout.now Word c.in_ok-digits-in-2.ensures.answer) (reads_end 0 refl) (omega arith)) (omega arith) (λ m h. rw (magnitude_two c.args.layout.now m c.args.addr c.args.object.now c.args.count is) h)

pub returns-in_default-clause-answer : goal.returns-in_default-clause-answer
returns-in_default-clause-answer g c =
    let more : 2 < c.args.count = omega arith in
    reads_known 1 _ _ (λ m. record { is = magnitude_more c.args.layout.now m c.args.addr c.args.object.now c.args.count more })
