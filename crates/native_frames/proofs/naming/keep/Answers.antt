use Rattle.native_frames.proofs.Keeping.{kept_more}
use Rattle.native_frames.proofs.naming.keep.Goals as goal

pub returns : goal.returns
returns c = kept_more c.args.mappings.now c.args.file c.args.symbols c.args.kept.now c.insert.new.self c.requires.kept
    c.requires.own c.in_ok-insert.ensures.updates.0
