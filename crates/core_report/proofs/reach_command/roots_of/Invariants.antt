use Rattle.std.proofs.Common.{◌≡◌, take}
use Rattle.std.specs.Prelude.{flat_map}
use Rattle.core_report.specs.Stacked.{locals_in}
use Rattle.core_report.specs.Stacks.{locals_of}
use Rattle.core_report.proofs.reach_command.roots_of.Given as goal

abbrev pub invariant-loop-frame : goal.invariant-loop-frame
invariant-loop-frame l = l.roots.items ≡ flat_map (λ f. locals_in (locals_of f.locals)) (take l.frame-index l.trace.frames.items)
