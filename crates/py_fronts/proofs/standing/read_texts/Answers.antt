use Rattle.std.proofs.Common.{arith, ap, length, refl}
use Rattle.std.proofs.lemmas.Result.{err_from_is_err_and}
use Rattle.process_memory.proofs.Reading.{reads_end, reads_halt, reads_next}
use Rattle.py_fields.proofs.Fields.{code_fits}
use Rattle.py_builtins.specs.ObjectError.{object_fault}
use Rattle.py_fronts.specs.Standings.{texts_at}
use Rattle.py_builtins.proofs.Consulted.{consulting_short}
use Rattle.py_fronts.proofs.standing.read_texts.Goals as goal

pub u64_in-file_at-requires : goal.u64_in-file_at-requires
u64_in-file_at-requires g c = omega (arith, (code_fits c.requires.sound).filename, c.requires.whole.code, ap length c.deref.ensures.value)

pub u64_in-name_at-requires : goal.u64_in-name_at-requires
u64_in-name_at-requires g c = omega (arith, (code_fits c.requires.sound).name, c.requires.whole.code, ap length c.deref-2.ensures.value)

pub returns-in_err-filename : goal.returns-in_err-filename
unfolding texts_at
returns-in_err-filename g c =
    let p = err_from_is_err_and c.from_residual.result c.from_residual.ensures.1 in
    let file = consulting_short (rw (c.u64_in-file_at.ensures, c.deref.ensures.value) at c.in_err-filename.ensures.answer) in
    rw p.1 (reads_halt 4 p.0 _ file (ap object_fault p.2) (omega arith))

pub returns-in_err-name : goal.returns-in_err-name
unfolding texts_at
returns-in_err-name g c =
    let p = err_from_is_err_and c.from_residual-in_err-name.result c.from_residual-in_err-name.ensures.1 in
    let file = consulting_short (rw (c.u64_in-file_at.ensures, c.deref.ensures.value) at c.in_ok-filename.ensures.answer) in
    let name = consulting_short (rw (c.u64_in-name_at.ensures, c.deref-2.ensures.value) at c.in_err-name.ensures.answer) in
    rw p.1 (reads_next 4 _ file (reads_halt 2 p.0 _ name (ap object_fault p.2) (omega arith)) (omega arith))

pub returns : goal.returns
unfolding texts_at
returns g c =
    let file = consulting_short (rw (c.u64_in-file_at.ensures, c.deref.ensures.value) at c.in_ok-filename.ensures.answer) in
    let name = consulting_short (rw (c.u64_in-name_at.ensures, c.deref-2.ensures.value) at c.in_ok-name.ensures.answer) in
    reads_next 4 _ file (reads_next 2 _ name (reads_end 0 refl) (omega arith)) (omega arith)
