use Rattle.native_merge.specs.TranslatedStacks.AreTranslated.{NoMore}
use Rattle.native_merge.proofs.MapsKept.{maps_stopped, maps_translated}
use Rattle.native_merge.proofs.Stays.{stay_same, stay_then}
use Rattle.native_merge.proofs.Translating.{translating_more, translating_left}
use Rattle.std.proofs.Common.{refl, arith}
use Rattle.native_merge.proofs.translation.translate_all.Goals as goal

pub loop-frame-init : goal.loop-frame-init
loop-frame-init g c = record { stay = stay_same (g.F.Sources.seen c.args.sources.now); done = NoMore; rest = refl }

pub loop-frame-preserved : goal.loop-frame-preserved
loop-frame-preserved g c = record {
  stay = stay_then c.loop-frame.invariant.stay c.in_ok-translate.ensures.stay;
  done = translating_more c.args.frames.now c.loop-frame.frames c.loop-frame.frame-index c.frame-item.result c.translate.new.frame
      (omega (arith, c.loop-frame.auto.frames, c.loop-frame-test.true)) c.loop-frame-test.true c.loop-frame.invariant.rest c.loop-frame.invariant.done
      c.in_ok-translate.ensures.frame c.in_ok-translate.ensures.adds c.in_ok-translate.ensures.same_maps c.in_ok-translate.ensures.stay;
  rest = translating_left c.args.frames.now c.loop-frame.frames c.loop-frame.frame-index c.frame-item.result c.translate.new.frame
      c.loop-frame.invariant.rest;
}

pub returns-in_err-translate-clause-maps : goal.returns-in_err-translate-clause-maps
returns-in_err-translate-clause-maps g c = maps_stopped c.loop-frame.invariant.stay c.loop-frame.invariant.done
    c.in_err-translate.ensures.same_maps c.in_err-translate.ensures.err_maps

pub returns-clause-maps : goal.returns-clause-maps
returns-clause-maps g c = maps_translated c.loop-frame.invariant.done
