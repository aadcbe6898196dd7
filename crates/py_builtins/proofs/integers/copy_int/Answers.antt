use Rattle.std.proofs.Common.{◌≡◌, length, ◌∙◌, arith, ap, sym, rules}
use Rattle.std.specs.Int.{w64, cast_signed}
use Rattle.std.proofs.lemmas.Int.{to_z-of_z}
use Rattle.std.proofs.lemmas.List.{length-take-le}
use Rattle.std.proofs.lemmas.Result.{err_from_is_err_and}
use Rattle.process_memory.proofs.Reading.{reads_next, reads_halt, reads_end}
use Rattle.py_fields.proofs.ObjectFields.{small_fits}
use Rattle.py_builtins.specs.Integers.{small_at}
use Rattle.py_builtins.proofs.Buffers.{front_read, front_short}
use Rattle.py_builtins.specs.Consulted.IsRecordSize.{Small}
use Rattle.py_builtins.proofs.Consulted.{consults_record}
use Rattle.py_builtins.proofs.integers.copy_int.Goals as goal

pub record_in-requires : goal.record_in-requires
record_in-requires g c = let short = (small_fits c.requires.sound).short in front_short _ _ (omega arith) short

pub u64_in-requires : goal.u64_in-requires
u64_in-requires g c =
    let short = (small_fits c.requires.sound).short in
    let whole : length c.record_in.new.buf ≡ c.args.layout.now.small.size = c.record_in.auto.buf ∙ length-take-le _ _ (omega arith) in
    omega (arith, (small_fits c.requires.sound).value, whole)

pub returns-in_err-record_in-clause-answer : goal.returns-in_err-record_in-clause-answer
unfolding small_at
returns-in_err-record_in-clause-answer g c =
    let short = (small_fits c.requires.sound).short in
    let p = err_from_is_err_and c.from_residual.result c.from_residual.ensures.1 in
    rw p.1 (reads_halt 1 p.0 _ (consults_record c.args.layout.now Small (front_read c.args.addr c.args.layout.now.small.size _ c.in_err-record_in.ensures.answer (omega arith))) p.2 (omega arith))

pub returns-clause-answer : goal.returns-clause-answer
unfolding small_at
returns-clause-answer g c =
    let short = (small_fits c.requires.sound).short in
    reads_next 1 _ (consults_record c.args.layout.now Small (front_read c.args.addr c.args.layout.now.small.size _ c.in_ok-record_in.ensures.answer (omega arith)))
    (reads_end 0 (sym (to_z-of_z w64 c.cast_signed.result (search rules) ∙ c.cast_signed.ensures ∙ ap (cast_signed w64) c.u64_in.ensures)))
    (omega arith)
