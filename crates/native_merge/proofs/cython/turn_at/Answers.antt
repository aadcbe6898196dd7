use Rattle.native_merge.proofs.Fronts.{no_underscore}
use Rattle.native_merge.proofs.cython.turn_at.Goals as goal

pub returns-in_err-text : goal.returns-in_err-text
unfolding lib.Utf8.encode
returns-in_err-text c = rw c.from_residual.ensures (no_underscore c.args.place.now c.in_err-text.ensures.cases)
