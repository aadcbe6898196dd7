use Rattle.std.proofs.Common.{arith}
use Rattle.std.proofs.lemmas.Result.{err_from_is_err_and}
use Rattle.process_memory.proofs.Reading.{reading_gives, reading_then}
use Rattle.thread_names.specs.Keys.{keys_in, keys_of}
use Rattle.thread_names.proofs.NameSteps.{by_keys}
use Rattle.thread_names.proofs.names.named_by_dict.Goals as goal

pub returns-in_err-threads : goal.returns-in_err-threads
returns-in_err-threads g c =
    let p = err_from_is_err_and c.from_residual-in_err-threads.result c.from_residual-in_err-threads.ensures.1 in
    rw p.1 (reading_gives _ _ (reading_then (λ m. Unit {0}) c.in_ok-keys.ensures c.named_each.ensures (λ m a b. tt))
    (omega arith) (λ m h. h))

pub returns : goal.returns
returns g c =
    let has = rw c.deref.ensures.value at c.in_ok-map.ensures in
    reading_gives _ _ (reading_then _ c.in_ok-keys.ensures c.in_ok-threads.ensures
    (λ m a b. by_keys c.args.layout.now c.args.rule.now m c.args.interpreter c.args.ids.now (keys_of c.in_ok-keys.keys)
    (keys_in c.args.layout.now m c.args.dict.now.slots) c.in_ok-map.map c.in_ok-threads.threads.items a has b))
    (omega arith) (λ m h. h)
