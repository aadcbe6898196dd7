use Rattle.std.proofs.Common.{arith, refl}
use Rattle.thread_exceptions.proofs.Wording.{words_done, words_more}
use Rattle.thread_exceptions.proofs.groups.words_in.Goals as goal

pub u64_in-requires : goal.u64_in-requires
u64_in-requires c = omega (arith, c.loop-k.invariant.0, c.loop-k-test.true, c.requires.there)

pub loop-k-preserved : goal.loop-k-preserved
loop-k-preserved c = (
  omega (arith, c.loop-k.invariant.0),
  omega (arith, c.loop-k-test.true),
  words_more c.loop-k.words.items _ _ _ _ _ _ _
      (omega (arith, c.loop-k-test.true)) c.in_ok-push.ensures.items c.u64_in.ensures c.loop-k.invariant.2,
)

pub returns : goal.returns
returns c = words_done _ _ _ _ _ (omega (arith, c.loop-k-test.false)) c.loop-k.invariant.2
