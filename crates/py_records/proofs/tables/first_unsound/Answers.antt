use Rattle.py_records.proofs.Judging.{sound_more}
use Rattle.py_records.proofs.tables.first_unsound.Goals as goal

pub loop-place-preserved : goal.loop-place-preserved
loop-place-preserved c = sound_more _ _ _ c.loop-place-test.true c.loop-place.invariant
    (c.is_sound_table.ensures.0 c.if-not-is_sound_table.false)
