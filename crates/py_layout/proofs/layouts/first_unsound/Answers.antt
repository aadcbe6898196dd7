use Rattle.py_layout.proofs.Judging.{sound_more}
use Rattle.py_layout.proofs.layouts.first_unsound.Goals as goal

pub loop-table-preserved : goal.loop-table-preserved
loop-table-preserved c = sound_more _ _ _ c.loop-table-test.true c.loop-table.invariant (c.is_sound.ensures.0 c.if-not-is_sound.false)
