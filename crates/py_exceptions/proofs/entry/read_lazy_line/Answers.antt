use Rattle.std.proofs.Common.{◌≡◌, ap, arith, of_z, rules, sym, to_z, ◌∙◌}
use Rattle.std.specs.Int.{w32}
use Rattle.std.proofs.lemmas.Int.{to_z-of_z}
use Rattle.std.proofs.lemmas.Result.{err_from_is_err_and}
use Rattle.process_memory.proofs.Reading.{reads_end, reads_halt, reads_next}
use Rattle.py_builtins.proofs.Consulted.{consulting_short}
use Rattle.py_fields.proofs.Fields.{code_fits}
use Rattle.py_stacks.specs.StackError.{stack_fault}
use Rattle.py_exceptions.specs.Frames.{lazy_line_at}
use Rattle.py_exceptions.proofs.entry.read_lazy_line.Goals as goal

pub u64_in-at-requires : goal.u64_in-at-requires
u64_in-at-requires g c = omega (arith, (code_fits c.requires.sound).table, c.requires.whole.code)

pub returns-in_err-table : goal.returns-in_err-table
unfolding lazy_line_at
returns-in_err-table g c =
    let p = err_from_is_err_and c.from_residual.result c.from_residual.ensures.1 in
    let table = rw (c.u64_in-at.ensures, c.deref.ensures.value) at c.in_err-table.ensures.answer in
    rw p.1 (reads_halt 2 p.0 _ (consulting_short table) (ap stack_fault p.2) (omega arith))

pub returns : goal.returns
unfolding lazy_line_at
returns g c =
    let table = rw (c.u64_in-at.ensures, c.deref.ensures.value) at c.in_ok-table.ensures.answer in
    let id : to_z w32 (of_z w32 c.line_in.result) ≡ c.line_in.result = to_z-of_z w32 _ (search rules) in
    reads_next {k = 0} 2 _ (consulting_short table) (reads_end 0 (sym (id ∙ c.line_in.ensures))) (omega arith)
