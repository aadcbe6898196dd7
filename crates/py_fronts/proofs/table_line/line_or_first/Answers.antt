use Rattle.std.proofs.Common.{◌∙◌, rules}
use Rattle.std.proofs.lemmas.Int.{to_z-of_z}
use Rattle.std.proofs.Math.Nat.{le_refl}
use Rattle.std.specs.Int.{w32}
use Rattle.process_memory.proofs.Reading.{reading_gives, reading_none}
use Rattle.py_stacks.specs.Records.{member_of}
use Rattle.py_fronts.proofs.TableLineSteps.{line_after, line_before}
use Rattle.py_fronts.proofs.table_line.line_or_first.Goals as goal

pub returns-then-is_before_start : goal.returns-then-is_before_start
returns-then-is_before_start g c =
    let first = to_z-of_z w32 c.first_line.result (search rules) ∙ c.first_line.ensures in
    reading_none _ _ _ (λ m. line_before c.args.lineno c.args.layout.now m (member_of c.args.records.now)
    c.offset_of.result c.is_before_start.result _ c.offset_of.ensures c.is_before_start.ensures
    c.if-is_before_start.true first)

pub returns : goal.returns
returns g c =
    reading_gives _ _ c.read_line.ensures (le_refl 513)
    (λ m a. line_after c.args.lineno c.args.layout.now m (member_of c.args.records.now) c.offset_of.result
    c.is_before_start.result c.read_line.result c.offset_of.ensures c.is_before_start.ensures
    c.if-is_before_start.false a)
