use Rattle.std.proofs.Common.{◌∙◌, subst}
use Rattle.std.specs.Prelude.{All}
use Rattle.piece_table.specs.Places.{IsBounded}
use Rattle.image_memory.proofs.MapTables.{tests_are}
use Rattle.image_memory.proofs.map_table.MapTable.of.Goals as goal

pub returns : goal.returns
returns c =
    let maps = c.args.maps.now in
    tests_are maps (record { table = c.in_ok-of.field-0; past = c.past_last.result }) (subst (All IsBounded) c.in_ok-ranges.ensures.are c.in_ok-ranges.ensures.fit)
    (c.in_ok-of.ensures ∙ c.in_ok-ranges.ensures.are) c.past_last.ensures
