use Rattle.std.proofs.Common.{arith}
use Rattle.std.proofs.lemmas.Result.{err_from_is_err_and}
use Rattle.process_memory.proofs.Reading.{reading_gives, reading_then}
use Rattle.thread_names.proofs.KeySteps.{keying_init, keying_more}
use Rattle.thread_names.proofs.keys.read_below.Goals as goal

pub loop-number-init : goal.loop-number-init
loop-number-init g c =
    rw c.new.ensures.items (keying_init c.args.layout.now c.args.dict.now.slots _)

pub returns-in_err-add_key-clause-answer : goal.returns-in_err-add_key-clause-answer
returns-in_err-add_key-clause-answer g c =
    let p = err_from_is_err_and c.from_residual.result c.from_residual.ensures.1 in
    rw p.1 (reading_gives 262144 _ (reading_then (λ m. Unit {0}) c.loop-number.invariant.reading
    c.read_key-read.ensures (λ m a b. tt)) (omega (arith, c.requires.few)) (λ m h. h))

pub loop-number-preserved : goal.loop-number-preserved
loop-number-preserved g c =
    keying_more c.loop-number.keys c.add_key.new.keys c.read_key-read.result c.loop-number.invariant
    c.read_key-read.ensures c.in_ok-add_key.ensures
