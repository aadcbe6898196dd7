use Rattle.std.proofs.Common.{◌∙◌, arith, ap, map}
use Rattle.process_memory.proofs.Reading.{reading_gives, reading_here}
use Rattle.py_reprs.proofs.Held.{entries_fit, entries_is}
use Rattle.py_reprs.proofs.levels.read_entries_level.Goals as goal

pub returns-clause-answer : goal.returns-clause-answer
returns-clause-answer g c =
    reading_gives _ _ c.in_ok-found.ensures (omega (arith, c.looked_at-looked.ensures))
    (λ m h. entries_is c.args.limits.now m c.args.cursor.now.slots c.args.nodes c.args.used _ _ _ _ _ _ _
    c.shown_entries-shown.ensures.value
    (omega (arith, c.looked_at-looked.ensures, c.remaining.ensures, c.requires)) h
    (c.in_ok-keys.ensures ∙ ap (map (λ e. e.key)) c.deref.ensures.value)
    (c.in_ok-values.ensures ∙ ap (map (λ e. e.value)) c.deref-2.ensures.value)
    c.share.ensures (omega (arith, c.saturating_sub.ensures, c.len.ensures)))

pub returns-clause-few : goal.returns-clause-few
returns-clause-few g c =
    rw c.share.ensures (entries_fit _ c.args.nodes c.shown_entries-shown.result _ _ _ _
    (reading_here c.in_ok-found.ensures)
    (c.in_ok-keys.ensures ∙ ap (map (λ e. e.key)) c.deref.ensures.value)
    (c.in_ok-values.ensures ∙ ap (map (λ e. e.value)) c.deref-2.ensures.value)
    c.shown_entries-shown.ensures.within)
