use Rattle.std.proofs.Common.{sym, ◌∙◌}
use Rattle.std.proofs.lemmas.Bool.{false≢true}
use Rattle.py_layout.proofs.Judging.{unsound-tells, clash-tells}
use Rattle.py_layout.proofs.layouts.Layouts.check.Goals as goal

pub returns-then-is_none : goal.returns-then-is_none
returns-then-is_none c =
    let each = unsound-tells _ _ _ c.first_unsound.ensures c.is_none.ensures in
    let apart = clash-tells _ _ _ c.first_clash.ensures c.is_none-then-is_none.ensures in
    (λ t. record { each = each.0 c.if-is_none.true; apart = apart.0 t }, λ a. apart.1 a.apart)

pub returns-else-is_none : goal.returns-else-is_none
returns-else-is_none c =
    let each = unsound-tells _ _ _ c.first_unsound.ensures c.is_none.ensures in
    (λ t. absurd (false≢true (sym c.if-is_none.false ∙ t)), λ a. each.1 a.each)
