use Rattle.std.proofs.Common.{arith, sym}
use Rattle.std.proofs.lemmas.Result.{err_from_is_err_and}
use Rattle.process_memory.proofs.Reading.{reads_next, reads_halt, reads_end}
use Rattle.py_fields.proofs.ObjectFields.{object_fits}
use Rattle.py_builtins.specs.Types.{type_at}
use Rattle.py_builtins.specs.Consulted.IsRecordSize.{Class, Object}
use Rattle.py_builtins.proofs.Consulted.{consults_record}
use Rattle.py_builtins.proofs.types.read_type.Goals as goal

pub u64_in-at-requires : goal.u64_in-at-requires
u64_in-at-requires g c = omega (arith, (object_fits c.requires.sound).klass, c.deref.ensures.len, c.in_ok-object.ensures.whole)

pub returns-in_err-object : goal.returns-in_err-object
unfolding type_at
returns-in_err-object g c =
    let p = err_from_is_err_and c.from_residual.result c.from_residual.ensures.1 in
    rw p.1 (reads_halt 2 p.0 _ (consults_record c.args.layout.now Object c.in_err-object.ensures.answer) p.2 (omega arith))

pub returns-in_err-klass : goal.returns-in_err-klass
unfolding type_at
returns-in_err-klass g c =
    let p = err_from_is_err_and c.from_residual-in_err-klass.result c.from_residual-in_err-klass.ensures.1 in
    let klass = consults_record c.args.layout.now Class (rw (c.u64_in-at.ensures, c.deref.ensures.value) at c.in_err-klass.ensures.answer) in
    rw p.1 (reads_next 2 _ (consults_record c.args.layout.now Object c.in_ok-object.ensures.answer) (reads_halt 1 p.0 _ klass p.2 (omega arith)) (omega arith))

pub returns : goal.returns
unfolding type_at
returns g c =
    let klass = consults_record c.args.layout.now Class (rw (c.u64_in-at.ensures, c.deref.ensures.value) at c.in_ok-klass.ensures.answer) in
    let is = rw (c.u64_in-at.ensures, c.deref.ensures.value, c.deref-2.ensures.value) at c.type_by.ensures in
    reads_next 2 _ (consults_record c.args.layout.now Object c.in_ok-object.ensures.answer) (reads_next 1 _ klass (reads_end 0 (sym is)) (omega arith)) (omega arith)
