use Rattle.native_merge.proofs.Gathers.{more_none, more_natives}
use Rattle.native_merge.proofs.Stays.{stay_same, stay_then}
use Rattle.native_merge.proofs.gathered.add_natives.Goals as goal

pub loop-native-init : goal.loop-native-init
loop-native-init g c = record {
  stay = stay_same (g.F.Sources.seen c.args.sources.now);
  more = more_none c.args.frames.now c.args.made.now.items c.args.cursor;
}

pub loop-native-preserved : goal.loop-native-preserved
loop-native-preserved g c = record {
  stay = stay_then c.loop-native.invariant.stay c.in_ok-at.ensures.stay;
  more = more_natives c.args.is_python c.args.natives.now c.loop-native.native-index c.native-item.result c.loop-native-test.true
      c.native-item.is c.loop-native.invariant.more c.loop-native.invariant.stay.exists c.in_ok-at.ensures.more;
}
