use Rattle.std.proofs.Common.{ap, sym, refl, arith}
use Rattle.process_memory.proofs.Reading.{reads_end, reads_same, reads_within}
use Rattle.py_selftest.specs.declared.rows.BuiltIn.TheVariants.{Code}
use Rattle.py_selftest.specs.Telling.{member_told, size_if, source_told}
use Rattle.py_selftest.proofs.telling.source_told.Goals as goal

pub returns-in-Nothing : goal.returns-in-Nothing
unfolding source_told
returns-in-Nothing g c = rw c.in-Nothing.is (reads_end 1025 refl)

pub returns-in-Member : goal.returns-in-Member
unfolding source_told
returns-in-Member g c = rw c.in-Member.is c.member_told.ensures

pub returns-in-LineTable : goal.returns-in-LineTable
unfolding source_told
returns-in-LineTable g c =
    rw c.in-LineTable.is (reads_same _ _ (λ m. ap (λ name. member_told m c.args.telling.now Code name c.args.width)
    (sym c.line_table-name.ensures)) c.member_told-in-LineTable.ensures)

pub returns-in-BasicSize : goal.returns-in-BasicSize
unfolding source_told
returns-in-BasicSize g c =
    rw c.in-BasicSize.is (reads_within 1025 (reads_same _ _
    (λ m. ap (size_if m c.args.telling.now _ _) (sym c.applies-is.ensures)) c.size_if.ensures) (omega arith))

pub returns-in-OwnPlace : goal.returns-in-OwnPlace
unfolding source_told
returns-in-OwnPlace g c = rw c.in-OwnPlace.is (reads_end 1025 (sym c.own_told.ensures))
