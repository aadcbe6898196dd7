use Rattle.std.proofs.Common.{◌+◌, drop, false, get_or, refl}
use Rattle.std.specs.Prelude.{None}
use Rattle.std.proofs.lemmas.List.{drop_all}
use Rattle.core_unwind.specs.declared.frame.Frame.{Frame}
use Rattle.native_frames.specs.Naming.{IsNamed}
use Rattle.native_frames.proofs.Names.{far_end, far_more}
use Rattle.native_frames.proofs.Rest.{next}
use Rattle.native_frames.proofs.naming.named_frames.Goals as goal

-- what stands for a frame behind the end of a list
abbrev no_frame : Frame
no_frame = record { pc = 0; is_exact = false; place = None; cfa = None; is_signal = false; mark = None }

pub loop-frame-init : goal.loop-frame-init
loop-frame-init c = rw c.new-named.ensures.items (record { so_far = λ more h. h; kept = c.requires.kept })

pub loop-frame-preserved : goal.loop-frame-preserved
loop-frame-preserved c =
    let i = c.loop-frame.frame-index in
    let x = get_or c.args.frames.now i no_frame in
    record {
      so_far = far_more (IsNamed c.args.mappings.now) c.args.frames.now _ x (drop (i + 1) c.args.frames.now)
          c.loop-frame.named.items _ c.in_ok-one.one
          (next c.args.frames.now i x no_frame c.loop-frame-test.true refl) c.in_ok-push.ensures.items
          c.in_ok-one.ensures.is c.loop-frame.invariant.so_far;
      kept = c.in_ok-one.ensures.kept;
    }

pub returns-clause-is : goal.returns-clause-is
returns-clause-is c = far_end (IsNamed c.args.mappings.now) c.args.frames.now _ c.loop-frame.named.items
    (drop_all c.loop-frame.frame-index c.args.frames.now c.loop-frame-test.false) c.loop-frame.invariant.so_far
