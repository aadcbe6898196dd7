use Rattle.std.proofs.Common.{◌≡◌, ◌≤◌, ◌-◌, ◌++◌, length, take, drop}
use Rattle.py_objects.specs.ShownTexts.{before_nul}
use Rattle.py_objects.proofs.texts.before_nul.Given as goal

abbrev pub decreases-loop-end : goal.decreases-loop-end
decreases-loop-end l = length l.bytes - l.end

abbrev pub invariant-loop-end : goal.invariant-loop-end
invariant-loop-end l = record {
  within : l.end ≤ length l.bytes;
  so_far : before_nul l.bytes ≡ take l.end l.bytes ++ before_nul (drop l.end l.bytes);
}
