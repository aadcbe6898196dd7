use Rattle.std.proofs.Common.{arith}
use Rattle.process_memory.proofs.Reading.{reading_gives, reading_here}
use Rattle.py_reprs.proofs.Held.{members_fit, members_is}
use Rattle.py_reprs.proofs.levels.read_members_level.Goals as goal

pub returns-clause-answer : goal.returns-clause-answer
returns-clause-answer g c =
    reading_gives _ _ c.in_ok-places.ensures (omega (arith, c.looked_at-looked.ensures))
    (λ m h. members_is c.args.limits.now m c.args.form c.args.nodes c.args.used c.args.mask c.args.table _ _ _ _ _
    c.shown_count-shown.ensures.value c.looked_at-looked.ensures h c.share.ensures
    (omega (arith, c.saturating_sub-left_out.ensures, c.len.ensures)))

pub returns-clause-few : goal.returns-clause-few
returns-clause-few g c =
    rw c.share.ensures (members_fit _ c.args.nodes c.shown_count-shown.result _ _ (reading_here c.in_ok-places.ensures)
    c.shown_count-shown.ensures.within)
