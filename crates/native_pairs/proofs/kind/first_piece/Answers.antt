use Rattle.std.proofs.Common.{arith}
use Rattle.std.proofs.lemmas.List.Sums.{prefix_len-le-length}
use Rattle.native_pairs.specs.Kinds.{is_gap, is_inner}
use Rattle.native_pairs.proofs.kind.first_piece.Goals as goal

pub split_at-requires : goal.split_at-requires
split_at-requires c = omega (arith, c.gap_len.ensures, prefix_len-le-length is_gap c.args.text.now)

pub split_at-requires-2 : goal.split_at-requires-2
split_at-requires-2 c = omega (arith, c.piece_len.ensures, prefix_len-le-length is_inner c.split_at.result.1.now)
