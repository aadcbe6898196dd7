use Rattle.std.proofs.Common.{◌≡◌, take, map}
use Rattle.serde_json.specs.View.{view}
use Rattle.core_texts.specs.Tree.{frame_tree}
use Rattle.core_texts.proofs.as_json.frames_value.Given as goal

abbrev pub invariant-loop-frame : goal.invariant-loop-frame
invariant-loop-frame l = map view l.values.items ≡ map (λ x. frame_tree x) (take l.frame-index l.frames)
