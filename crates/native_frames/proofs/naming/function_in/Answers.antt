use Rattle.std.proofs.Common.{sym}
use Rattle.native_frames.proofs.Keeping.{kept_function}
use Rattle.native_frames.proofs.naming.function_in.Goals as goal

pub returns-in-Some-clause-is : goal.returns-in-Some-clause-is
returns-in-Some-clause-is c = kept_function c.args.mappings.now c.args.file c.in-Some.symbols.now c.args.kept.now
    c.args.address c.args.more c.function_at.result c.requires.kept (sym c.in-Some.ensures.value) c.function_at.ensures
