use Rattle.std.proofs.Common.{◌∙◌, arith, ap, sym}
use Rattle.py_reprs.specs.Attributes.{held}
use Rattle.py_reprs.specs.LevelForms.{Whole}
use Rattle.py_reprs.proofs.Attributing.{attributes_fit, attributes_is}
use Rattle.py_reprs.proofs.Views.{tree-Opaque}
use Rattle.py_reprs.proofs.levels.attributes_level.Goals as goal

pub returns-then-is_empty-clause-answer : goal.returns-then-is_empty-clause-answer
returns-then-is_empty-clause-answer c =
    rw (sym c.is_empty.ensures ∙ c.if-is_empty.true) (ap Whole (tree-Opaque _ _))

pub returns-clause-answer : goal.returns-clause-answer
returns-clause-answer c =
    attributes_is c.args.limits.now c.args.class c.args.addr c.args.nodes (held c.args.list.now c.args.count)
    c.shown_entries-shown.result _ _ _ _ (sym c.is_empty.ensures ∙ c.if-is_empty.false)
    c.shown_entries-shown.ensures.value c.in_ok-names.ensures c.in_ok-values.ensures c.share.ensures
    (omega (arith, c.saturating_sub.ensures))

pub returns-clause-few : goal.returns-clause-few
returns-clause-few c =
    rw c.share.ensures (attributes_fit c.args.nodes c.shown_entries-shown.result c.args.list.now _ _
    c.in_ok-names.ensures c.in_ok-values.ensures c.shown_entries-shown.ensures.within)
