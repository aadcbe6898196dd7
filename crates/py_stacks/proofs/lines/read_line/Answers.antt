use Rattle.std.proofs.Common.{◌∙◌, refl, sym, rules, arith, ap, length}
use Rattle.std.proofs.lemmas.Int.{to_z-of_z}
use Rattle.std.specs.Int.{w32}
use Rattle.std.proofs.Math.Nat.{le_refl}
use Rattle.std.proofs.lemmas.Result.{err_from_is_err_and}
use Rattle.std.specs.Prelude.{Ok}
use Rattle.process_memory.proofs.Reading.{reads_next, reads_halt, reads_end}
use Rattle.py_fields.proofs.Fields.{code_fits}
use Rattle.py_stacks.specs.StackError.{stack_fault}
use Rattle.py_stacks.specs.Lines.{line_at, line_by, line_in, table_at}
use Rattle.py_stacks.specs.Records.{member_of}
use Rattle.py_stacks.proofs.lines.read_line.Goals as goal

pub u64_in-table_at-requires : goal.u64_in-table_at-requires
u64_in-table_at-requires g c = omega (arith, (code_fits c.requires.sound).table, c.requires.whole.code, ap length c.deref.ensures.value)

pub returns-in_err-table-in-LastInstruction : goal.returns-in_err-table-in-LastInstruction
unfolding line_at line_by table_at
returns-in_err-table-in-LastInstruction g c =
    let p = err_from_is_err_and c.from_residual.result c.from_residual.ensures.1 in
    let table = rw (c.u64_in-table_at.ensures, c.deref.ensures.value) at c.in_err-table-in-LastInstruction.ensures.answer in
    rw (c.in-LastInstruction.is, p.1) (reads_halt 2 p.0 (λ m t. Ok (line_in c.args.layout.now (member_of c.args.records.now) t)) table (ap stack_fault p.2) (le_refl 2))

pub returns-in-NoLine : goal.returns-in-NoLine
unfolding line_at line_by
returns-in-NoLine g c = rw c.in-NoLine.is (reads_end 0 refl)

pub returns-in-First : goal.returns-in-First
unfolding line_at line_by
returns-in-First g c = rw c.in-First.is (reads_end 0 (sym (to_z-of_z w32 _ (search rules) ∙ c.first_line.ensures)))

pub returns-in_ok-table-in-LastInstruction : goal.returns-in_ok-table-in-LastInstruction
unfolding line_at line_by table_at
returns-in_ok-table-in-LastInstruction g c =
    let table = rw (c.u64_in-table_at.ensures, c.deref.ensures.value) at c.in_ok-table-in-LastInstruction.ensures.answer in
    rw c.in-LastInstruction.is (reads_next 2 (λ m t. Ok (line_in c.args.layout.now (member_of c.args.records.now) t)) table (reads_end 0 (sym (to_z-of_z w32 _ (search rules) ∙ c.line_in.ensures))) (le_refl 2))
