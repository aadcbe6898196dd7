use Rattle.std.proofs.Common.{◌≡◌, ◌∙◌, arith, sym, ap}
use Rattle.std.proofs.lemmas.Result.{err_from_is_err_and}
use Rattle.process_memory.proofs.Reading.{reads_next, reads_halt, reads_end}
use Rattle.py_fields.proofs.Fields.{frame_fits, code_fits}
use Rattle.py_stacks.specs.StackError.{stack_fault}
use Rattle.py_stacks.specs.Frames.{call_of_option, is_entered, plain_at, visible}
use Rattle.py_stacks.proofs.members.read_plain.Goals as goal

pub u64_in-file_at-requires : goal.u64_in-file_at-requires
u64_in-file_at-requires g c = omega (arith, (code_fits c.requires.sound).filename, c.requires.whole.code)

pub u64_in-name_at-requires : goal.u64_in-name_at-requires
u64_in-name_at-requires g c = omega (arith, (code_fits c.requires.sound).name, c.requires.whole.code)

pub is_entered-entered-requires : goal.is_entered-entered-requires
is_entered-entered-requires g c = λ entry is. omega (arith, (frame_fits c.requires.sound).entry entry is, c.requires.whole.frame)

pub returns-in_err-filename : goal.returns-in_err-filename
unfolding plain_at
returns-in_err-filename g c =
    let p = err_from_is_err_and c.from_residual.result c.from_residual.ensures.1 in
    let file = rw (c.u64_in-file_at.ensures, c.deref.ensures.value) at c.in_err-filename.ensures in
    rw p.1 (reads_halt 4 p.0 _ file (ap stack_fault p.2) (omega arith))

pub returns-in_err-name : goal.returns-in_err-name
unfolding plain_at
returns-in_err-name g c =
    let p = err_from_is_err_and c.from_residual-in_err-name.result c.from_residual-in_err-name.ensures.1 in
    let file = rw (c.u64_in-file_at.ensures, c.deref.ensures.value) at c.in_ok-filename.ensures in
    let name = rw (c.u64_in-name_at.ensures, c.deref-2.ensures.value) at c.in_err-name.ensures in
    rw p.1 (reads_next 4 _ file (reads_halt 2 p.0 _ name (ap stack_fault p.2) (omega arith)) (omega arith))

pub returns : goal.returns
unfolding plain_at
returns g c =
    let file = rw (c.u64_in-file_at.ensures, c.deref.ensures.value) at c.in_ok-filename.ensures in
    let name = rw (c.u64_in-name_at.ensures, c.deref-2.ensures.value) at c.in_ok-name.ensures in
    let last : visible c.in_ok-filename.filename c.in_ok-name.name (is_entered c.args.layout.now.frame c.args.records.now.frame.items) ≡ call_of_option c.visible.result =
    sym (c.visible.ensures ∙ ap (visible c.in_ok-filename.filename c.in_ok-name.name) (c.is_entered-entered.ensures ∙ ap (is_entered c.args.layout.now.frame) c.deref-3.ensures.value)) in
    reads_next 4 _ file (reads_next 2 _ name (reads_end 0 last) (omega arith)) (omega arith)
