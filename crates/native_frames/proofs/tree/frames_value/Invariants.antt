use Rattle.std.proofs.Common.{◌≡◌, ◌++◌, drop, map}
use Rattle.serde_json.specs.View.{view}
use Rattle.native_frames.specs.Trees.{frame_tree}
use Rattle.native_frames.proofs.tree.frames_value.Given as goal

abbrev pub invariant-loop-frame : goal.invariant-loop-frame
invariant-loop-frame l =
    map view l.values.items ++ map (λ f. frame_tree l.files f) (drop l.frame-index l.frames)
    ≡ map (λ f. frame_tree l.files f) l.frames
