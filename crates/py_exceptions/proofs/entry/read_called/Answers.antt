use Rattle.std.proofs.Common.{◌≡◌, ap, arith, of_z, rules, sym, to_z}
use Rattle.std.proofs.lemmas.Int.{to_z-of_z}
use Rattle.std.specs.Int.{w32}
use Rattle.std.proofs.lemmas.Result.{err_from_is_err_and}
use Rattle.process_memory.proofs.Reading.{reads_end, reads_halt, reads_next}
use Rattle.py_builtins.proofs.Consulted.{consulting_short}
use Rattle.py_fields.proofs.Fields.{code_fits}
use Rattle.py_stacks.specs.StackError.{stack_fault}
use Rattle.py_exceptions.specs.Frames.{called_at, called_with}
use Rattle.py_exceptions.proofs.entry.read_called.Goals as goal

pub u64_in-name_at-requires : goal.u64_in-name_at-requires
u64_in-name_at-requires g c = omega (arith, (code_fits c.requires.sound).name, c.requires.whole.code)

pub u64_in-file_at-requires : goal.u64_in-file_at-requires
u64_in-file_at-requires g c = omega (arith, (code_fits c.requires.sound).filename, c.requires.whole.code)

pub returns-in_err-function : goal.returns-in_err-function
unfolding called_at
returns-in_err-function g c =
    let p = err_from_is_err_and c.from_residual.result c.from_residual.ensures.1 in
    let name = rw (c.u64_in-name_at.ensures, c.deref.ensures.value) at c.in_err-function.ensures in
    rw p.1 (reads_halt 6 p.0 _ (consulting_short name) (ap stack_fault p.2) (omega arith))

pub returns-in_err-filename : goal.returns-in_err-filename
unfolding called_at
returns-in_err-filename g c =
    let p = err_from_is_err_and c.from_residual-in_err-filename.result c.from_residual-in_err-filename.ensures.1 in
    let name = rw (c.u64_in-name_at.ensures, c.deref.ensures.value) at c.in_ok-function.ensures in
    let file = rw (c.u64_in-file_at.ensures, c.deref-2.ensures.value) at c.in_err-filename.ensures in
    rw p.1 (reads_next 6 _ (consulting_short name) (reads_halt 4 p.0 _ (consulting_short file) (ap stack_fault p.2)
    (omega arith)) (omega arith))

pub returns-in_err-line : goal.returns-in_err-line
unfolding called_at
returns-in_err-line g c =
    let p = err_from_is_err_and c.from_residual-in_err-line.result c.from_residual-in_err-line.ensures.1 in
    let name = rw (c.u64_in-name_at.ensures, c.deref.ensures.value) at c.in_ok-function.ensures in
    let file = rw (c.u64_in-file_at.ensures, c.deref-2.ensures.value) at c.in_ok-filename.ensures in
    rw p.1 (reads_next 6 _ (consulting_short name) (reads_next 4 _ (consulting_short file)
    (reads_halt 2 p.0 _ c.in_err-line.ensures (ap stack_fault p.2) (omega arith)) (omega arith)) (omega arith))

pub returns : goal.returns
unfolding called_at
returns g c =
    let name = rw (c.u64_in-name_at.ensures, c.deref.ensures.value) at c.in_ok-function.ensures in
    let file = rw (c.u64_in-file_at.ensures, c.deref-2.ensures.value) at c.in_ok-filename.ensures in
    let line : c.in_ok-line.line ≡ to_z w32 (of_z w32 c.in_ok-line.line) = sym (to_z-of_z w32 _ (search rules)) in
    let last = ap (called_with c.in_ok-function.function c.in_ok-filename.filename) line in
    reads_next 6 _ (consulting_short name) (reads_next 4 _ (consulting_short file)
    (reads_next {k = 0} 2 _ c.in_ok-line.ensures (reads_end 0 last) (omega arith)) (omega arith)) (omega arith)
