use Rattle.std.proofs.Common.{◌≡◌, take, drop}
use Rattle.native_merge.specs.Sources.{Stay}
use Rattle.native_merge.specs.TranslatedStacks.{AreTranslated}
use Rattle.native_merge.proofs.translation.translate_all.Given as goal

abbrev pub invariant-loop-frame : goal.invariant-loop-frame
invariant-loop-frame g l = record {
  stay : Stay (g.F.Sources.seen l.initial.sources) (g.F.Sources.seen l.sources);
  done : AreTranslated (g.F.Sources.seen l.initial.sources) l.initial.maps (take l.frame-index l.initial.frames)
      (g.F.Sources.seen l.sources) l.maps (take l.frame-index l.frames);
  rest : drop l.frame-index l.frames ≡ drop l.frame-index l.initial.frames;
}
