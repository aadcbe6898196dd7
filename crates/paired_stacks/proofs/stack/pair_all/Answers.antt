use Rattle.std.proofs.Common.{◌+◌, ◌*◌, [], ap, arith, drop, get_or, length, map, refl}
use Rattle.std.proofs.lemmas.List.{drop_all}
use Rattle.std.proofs.lemmas.Result.{err_from_is_err_and}
use Rattle.process_memory.proofs.Reading.{reading_gives, reading_none, reading_then}
use Rattle.native_stacks.specs.Threads.{thread_shown}
use Rattle.native_stacks.proofs.Rest.{next}
use Rattle.paired_stacks.specs.Stacks.{most_of_each}
use Rattle.paired_stacks.proofs.Following.{far_end, far_next}
use Rattle.paired_stacks.proofs.stack.pair_all.Goals as goal

pub loop-native-init : goal.loop-native-init
loop-native-init g c = rw c.new-stacks.ensures.items (reading_none (most_of_each * 0) _ _ (λ m. λ more h. h))

pub returns-in_err-stack : goal.returns-in_err-stack
returns-in_err-stack g c =
    let p = err_from_is_err_and c.from_residual.result c.from_residual.ensures.1 in
    rw p.1 (reading_gives (most_of_each * length c.args.natives.now) _
    (reading_then (λ m. Unit {0}) c.loop-native.invariant c.in_err-stack.ensures (λ m a b. tt))
    (omega (arith, c.loop-native-test.true)) (λ m h. tt))

pub returns-in_err-push : goal.returns-in_err-push
returns-in_err-push g c =
    let p = err_from_is_err_and c.from_residual-in_err-push.result c.from_residual-in_err-push.ensures.1 in
    rw p.1 (reading_gives (most_of_each * length c.args.natives.now) _
    (reading_then (λ m. Unit {0}) c.loop-native.invariant c.in_ok-stack.ensures (λ m a b. tt))
    (omega (arith, c.loop-native-test.true)) (λ m h. tt))

pub loop-native-preserved : goal.loop-native-preserved
loop-native-preserved g c =
    let natives = c.args.natives.now in
    let i = c.loop-native.native-index in
    let x = c.native-item.result in
    reading_gives (most_of_each * (i + 1)) _ (reading_then _ c.loop-native.invariant c.in_ok-stack.ensures
    (λ m far here. far_next c.args.end c.args.layout.now c.args.own c.args.threads.now m c.args.starts.now
    c.loop-native.left.now (map thread_shown natives) (map thread_shown (drop i natives))
    (map thread_shown (drop (i + 1) natives))
    (thread_shown x) c.in_ok-stack.stack c.loop-native.stacks.items _
    (ap (map thread_shown) (next natives i x x c.loop-native-test.true c.native-item.is))
    (rw c.next_start-start.ensures.start at here) c.in_ok-push.ensures.items far))
    (omega arith) (λ m h. rw c.next_start-start.ensures.rest h)

pub returns : goal.returns
returns g c = reading_gives (most_of_each * length c.args.natives.now) _ c.loop-native.invariant
    (omega (arith, c.loop-native.auto.native-index-end)) (λ m far. far_end c.args.end c.args.layout.now c.args.own
    c.args.threads.now m c.args.starts.now c.loop-native.left.now (map thread_shown c.args.natives.now) _
    c.loop-native.stacks.items
    (ap (map thread_shown) (drop_all c.loop-native.native-index c.args.natives.now c.loop-native-test.false)) far)
