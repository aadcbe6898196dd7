use Rattle.std.proofs.Common.{arith}
use Rattle.bstr.proofs.lemmas.PieceLemmas.{size-within}
use Rattle.py_process.proofs.library.past_mark.Goals as goal

pub split_at-requires : goal.split_at-requires
split_at-requires c = omega (arith, size-within c.args.bytes.now, c.decode.ensures.size)
