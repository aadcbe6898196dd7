use Rattle.std.proofs.Common.{drop, add-one, ap, arith, length, length-append, ◌∷◌, []}
use Rattle.native_pairs.specs.declared.item.Item.TheVariants.{Native}
use Rattle.std.proofs.Math.Seq.{drop-cons}
use Rattle.std.proofs.lemmas.List.{drop_all}
use Rattle.native_pairs.specs.Items.{merged_items}
use Rattle.native_pairs.proofs.Items.{merged_end, merged_step}
use Rattle.native_pairs.proofs.item.merge.Goals as goal

pub loop-native-preserved : goal.loop-native-preserved
loop-native-preserved c =
    let step = merged_step (merged_items c.args.takes.now c.args.runs.now) c.loop-native.items.items
    c.push_pythons.new.items.items
    c.push.new.self.items (drop c.loop-native.native c.args.takes.now) _ c.loop-native.left.now
    c.take_run-size.result.1.now
    c.loop-native.native c.loop-native.python c.take_run-size.result.0 c.in_ok-python.python _
    (drop-cons c.args.takes.now c.loop-native.native _ c.loop-native-test.true) c.loop-native.invariant.merged
    c.take_run-size.ensures.size c.take_run-size.ensures.rest c.in_ok-python.ensures.adds c.in_ok-push.ensures.items
    c.in_ok-python.ensures.next in
    record {
      merged = rw (add-one c.loop-native.native) (rw (add-one c.loop-native.native) at step);
      few = omega (
        arith,
        c.in_ok-python.ensures.few,
        ap length c.in_ok-push.ensures.items,
        length-append c.push_pythons.new.items.items (Native c.loop-native.native ∷ []),
      );
    }

pub returns : goal.returns
returns c =
    merged_end (merged_items c.args.takes.now c.args.runs.now) c.loop-native.items.items c.push_behind.new.items.items
    (drop c.loop-native.native c.args.takes.now) c.loop-native.left.now c.loop-native.native c.loop-native.python
    (drop_all c.loop-native.native c.args.takes.now c.loop-native-test.false) c.loop-native.invariant.merged
    c.in_ok-push_behind.ensures
