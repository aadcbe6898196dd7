use Rattle.object_builder.proofs.TextSizes.{state_is, under_is}
use Rattle.object_builder.proofs.sizes.is_short_headed.Goals as goal

pub returns-in-State : goal.returns-in-State
returns-in-State c =
    state_is c.args.strings c.args.text.now c.all_under.result c.in-State.is
    (under_is 0x80 c.args.text.now c.as_str.result.now c.all_under.result c.as_str.utf8 c.as_str.ensures
    c.all_under.ensures)
