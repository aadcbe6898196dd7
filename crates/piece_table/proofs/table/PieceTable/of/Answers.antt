use Rattle.std.proofs.Common.{sym, subst, ap, ◌∙◌}
use Rattle.std.specs.Prelude.{All}
use Rattle.piece_table.specs.Overlays.{IsBoundedRange}
use Rattle.piece_table.specs.Places.{addresses_of}
use Rattle.piece_table.proofs.Tables.{addresses_fit}
use Rattle.piece_table.proofs.table.PieceTable.of.Goals as goal

pub lay-requires : goal.lay-requires
lay-requires c =
    let same = c.deref-2.ensures.value ∙ c.in_ok-addresses.ensures ∙ ap addresses_of c.deref.ensures.value in
    subst (All IsBoundedRange) (sym same) (addresses_fit c.args.ranges.items c.requires)
