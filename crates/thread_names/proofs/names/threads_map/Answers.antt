use Rattle.std.proofs.Common.{arith, get_or, take}
use Rattle.std.proofs.lemmas.Grind.{common_steps}
use Rattle.std.proofs.lemmas.List.{take_more}
use Rattle.thread_names.specs.Keys.{keyed}
use Rattle.thread_names.proofs.KeySteps.{thread_more}
use Rattle.thread_names.proofs.names.threads_map.Goals as goal

pub loop-keyed-preserved : goal.loop-keyed-preserved
loop-keyed-preserved c = λ id.
    let keys = c.args.keys.now in
    let before = take c.loop-keyed.keyed-index keys in
    let here = get_or keys c.loop-keyed.keyed-index (keyed 0 0) in
    rw (take_more keys c.loop-keyed.keyed-index (keyed 0 0) c.loop-keyed-test.true, thread_more before here id)
    (grind (arith, common_steps, c.loop-keyed.invariant id))
