use Rattle.std.proofs.Common.{◌≡◌, ◌≤◌, length}
use Rattle.frame_tables.specs.Augmentations.{letters_from}
use Rattle.frame_tables.proofs.augmentation.letters_from.Given as goal

-- what the letters that are left say is what all of them say
abbrev pub invariant-loop-rest : goal.invariant-loop-rest
invariant-loop-rest l = record {
  within : l.marks.next ≤ length l.body;
  is : letters_from l.body l.rest l.marks ≡ letters_from l.body l.text l.fn.marks;
}

abbrev pub decreases-loop-rest : goal.decreases-loop-rest
decreases-loop-rest l = length l.rest
