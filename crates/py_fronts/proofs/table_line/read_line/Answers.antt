use Rattle.std.proofs.Common.{◌∙◌, refl, rules, arith, ap, length}
use Rattle.std.proofs.Math.Nat.{le_refl}
use Rattle.std.proofs.lemmas.Int.{to_z-of_z}
use Rattle.std.proofs.lemmas.Result.{err_from_is_err_and}
use Rattle.std.specs.Int.{w32}
use Rattle.process_memory.proofs.Reading.{reading_gives, reading_none}
use Rattle.py_fields.proofs.Fields.{code_fits}
use Rattle.py_stacks.specs.Records.{member_of}
use Rattle.py_fronts.specs.TableLines.{line_by, line_in}
use Rattle.py_fronts.proofs.Steps.{lost_first}
use Rattle.py_fronts.proofs.table_line.read_line.Goals as goal

pub u64_in-table_at-requires : goal.u64_in-table_at-requires
u64_in-table_at-requires g c =
    omega (arith, (code_fits c.requires.sound).table, c.requires.whole.code, ap length c.deref.ensures.value)

pub returns-in_err-table-in-LastInstruction : goal.returns-in_err-table-in-LastInstruction
returns-in_err-table-in-LastInstruction g c =
    let p = err_from_is_err_and c.from_residual.result c.from_residual.ensures.1 in
    rw p.1 (lost_first 513 c.in_err-table-in-LastInstruction.ensures.answer p.2 (le_refl 513))

pub returns-in-NoLine : goal.returns-in-NoLine
unfolding line_by
returns-in-NoLine g c = rw c.in-NoLine.is (reading_none _ _ _ (λ m. refl))

pub returns-in-First : goal.returns-in-First
unfolding line_by
returns-in-First g c =
    rw c.in-First.is (reading_none _ _ _ (λ m. to_z-of_z w32 _ (search rules) ∙ c.first_line.ensures))

pub returns-in_ok-table-in-LastInstruction : goal.returns-in_ok-table-in-LastInstruction
unfolding line_by
returns-in_ok-table-in-LastInstruction g c =
    let table = rw (c.u64_in-table_at.ensures, c.deref.ensures.value)
    at c.in_ok-table-in-LastInstruction.ensures.answer in
    rw c.in-LastInstruction.is (reading_gives _ _ table (le_refl 513) (λ m a. to_z-of_z w32 _ (search rules)
    ∙ c.line_in.ensures ∙ ap (line_in c.args.layout.now (member_of c.args.records.now)) a))
