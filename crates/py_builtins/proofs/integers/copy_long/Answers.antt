use Rattle.std.proofs.Common.{◌≡◌, length, ◌∙◌, arith, ap, sym, rules, to_z, of_z}
use Rattle.std.specs.Prelude.{Ok, nat_lt}
use Rattle.std.specs.Int.{w64}
use Rattle.std.proofs.lemmas.Int.{to_z-of_z}
use Rattle.std.proofs.lemmas.List.{length-take-le}
use Rattle.std.proofs.lemmas.Result.{err_from_is_err_and}
use Rattle.elf64_core.specs.Fields.{u64_in}
use Rattle.process_memory.proofs.Reading.{reads_end, reads_halt, reads_next, reads_same}
use Rattle.py_fields.proofs.ObjectFields.{long_fits}
use Rattle.py_builtins.specs.ObjectError.{object_fault}
use Rattle.py_builtins.specs.Integers.{digits_of, long_at, long_by, signed}
use Rattle.py_builtins.proofs.Buffers.{front_read, front_short}
use Rattle.py_builtins.specs.Consulted.IsRecordSize.{Long}
use Rattle.py_builtins.proofs.Consulted.{consults_record}
use Rattle.py_builtins.proofs.integers.copy_long.Goals as goal

pub record_in-requires : goal.record_in-requires
record_in-requires g c = let short = (long_fits c.requires.sound).short in front_short _ _ (omega arith) short

pub u64_in-requires : goal.u64_in-requires
u64_in-requires g c =
    let short = (long_fits c.requires.sound).short in
    let whole : length c.record_in.new.buf ≡ c.args.layout.now.long.size = c.record_in.auto.buf ∙ length-take-le _ _ (omega arith) in
    omega (arith, (long_fits c.requires.sound).count, whole)

pub returns-in_err-record_in-clause-answer : goal.returns-in_err-record_in-clause-answer
unfolding long_at
returns-in_err-record_in-clause-answer g c =
    let p = err_from_is_err_and c.from_residual.result c.from_residual.ensures.1 in
    let short = (long_fits c.requires.sound).short in
    let one = consults_record c.args.layout.now Long (front_read c.args.addr c.args.layout.now.long.size _ c.in_err-record_in.ensures.answer (omega arith)) in
    rw p.1 (reads_halt 2 p.0 _ one p.2 (omega arith))

pub returns-in_err-magnitude-clause-answer : goal.returns-in_err-magnitude-clause-answer
unfolding long_at long_by
returns-in_err-magnitude-clause-answer g c =
    let l = c.args.layout.now in
    let object = c.record_in.new.buf in
    let digits = c.digits_of-digits.result in
    let digits_is : digits_of l.integers (u64_in object l.long.count) ≡ digits = sym (c.digits_of-digits.ensures.digits ∙ ap (digits_of l.integers) c.u64_in.ensures) in
    let short = (long_fits c.requires.sound).short in
    let one = consults_record c.args.layout.now Long (front_read c.args.addr c.args.layout.now.long.size _ c.in_ok-record_in.ensures.answer (omega arith)) in
    let p = err_from_is_err_and c.from_residual-in_err-magnitude.result c.from_residual-in_err-magnitude.ensures.1 in
    rw p.1
    (reads_next 2 _ one
    (reads_same _ (λ m. long_by l m c.args.addr object digits) (λ m. ap (long_by l m c.args.addr object) digits_is)
    (reads_halt 1 p.0 (λ m n. Ok (signed digits.negative n, nat_lt 2 digits.count)) c.in_err-magnitude.ensures.answer (ap object_fault p.2) (omega arith)))
    (omega arith))

pub returns-clause-answer : goal.returns-clause-answer
unfolding long_at long_by
returns-clause-answer g c =
    let l = c.args.layout.now in
    let object = c.record_in.new.buf in
    let digits = c.digits_of-digits.result in
    let digits_is : digits_of l.integers (u64_in object l.long.count) ≡ digits = sym (c.digits_of-digits.ensures.digits ∙ ap (digits_of l.integers) c.u64_in.ensures) in
    let short = (long_fits c.requires.sound).short in
    let one = consults_record c.args.layout.now Long (front_read c.args.addr c.args.layout.now.long.size _ c.in_ok-record_in.ensures.answer (omega arith)) in
    let number : signed digits.negative c.in_ok-magnitude.magnitude ≡ to_z w64 (of_z w64 c.signed.result) = sym (to_z-of_z w64 c.signed.result (search rules) ∙ c.signed.ensures) in
    reads_next 2 _ one
    (reads_same _ (λ m. long_by l m c.args.addr object digits) (λ m. ap (long_by l m c.args.addr object) digits_is)
    (reads_next 1 (λ m n. Ok (signed digits.negative n, nat_lt 2 digits.count)) c.in_ok-magnitude.ensures.answer (reads_end 0 {x = (signed c.digits_of-digits.result.negative c.in_ok-magnitude.magnitude, nat_lt 2 c.digits_of-digits.result.count)} (ap (λ z. (z, nat_lt 2 digits.count)) number)) (omega arith)))
    (omega arith)
