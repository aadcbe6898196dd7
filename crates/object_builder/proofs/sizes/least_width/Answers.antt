use Rattle.std.proofs.Common.{◌∙◌, sym}
use Rattle.object_builder.proofs.TextSizes.{under_is, width_one, width_two, width_four}
use Rattle.object_builder.proofs.sizes.least_width.Goals as goal

pub returns-then-all_under-clause-value : goal.returns-then-all_under-clause-value
returns-then-all_under-clause-value c =
    width_one c.args.text.now
    (sym (under_is 0x100 c.args.text.now c.as_str-text.result.now c.all_under.result c.as_str-text.utf8
    c.as_str-text.ensures c.all_under.ensures) ∙ c.if-all_under.true)

pub returns-then-all_under-2-clause-value : goal.returns-then-all_under-2-clause-value
returns-then-all_under-2-clause-value c =
    let text = c.args.text.now in
    let bytes = c.as_str-text.result.now in
    let next = c.all_under-else-all_under in
    width_two text (sym (under_is 0x100 text bytes c.all_under.result c.as_str-text.utf8 c.as_str-text.ensures
    c.all_under.ensures) ∙ c.if-all_under.false)
    (sym (under_is 0x1_0000 text bytes next.result c.as_str-text.utf8 c.as_str-text.ensures next.ensures)
    ∙ c.if-all_under-2.true)

pub returns-else-all_under-2-clause-value : goal.returns-else-all_under-2-clause-value
returns-else-all_under-2-clause-value c =
    let text = c.args.text.now in
    let bytes = c.as_str-text.result.now in
    let next = c.all_under-else-all_under in
    width_four text (sym (under_is 0x100 text bytes c.all_under.result c.as_str-text.utf8 c.as_str-text.ensures
    c.all_under.ensures) ∙ c.if-all_under.false)
    (sym (under_is 0x1_0000 text bytes next.result c.as_str-text.utf8 c.as_str-text.ensures next.ensures)
    ∙ c.if-all_under-2.false)
