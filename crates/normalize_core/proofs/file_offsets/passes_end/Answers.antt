use Rattle.normalize_core.proofs.Coverings.{starts_by}
use Rattle.normalize_core.proofs.file_offsets.passes_end.Goals as goal

pub value-requires : goal.value-requires
value-requires c = starts_by _ c.args.addr _ c.covering.ensures.is
