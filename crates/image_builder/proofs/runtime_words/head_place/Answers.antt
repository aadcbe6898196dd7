use Rattle.std.proofs.Common.{arith}
use Rattle.image_builder.proofs.RuntimeWords.{head_small}
use Rattle.image_builder.proofs.runtime_words.head_place.Goals as goal

pub overflow_cast-result : goal.overflow_cast-result
overflow_cast-result c = let small = head_small c.args.version.now in
    omega (arith, c.get_interp_head_offset.ensures, small.1)

pub returns-in-Runtime-clause-bound : goal.returns-in-Runtime-clause-bound
returns-in-Runtime-clause-bound c = let small = head_small c.args.version.now in
    omega (arith, c.get_interp_head_offset.ensures, small.1)
