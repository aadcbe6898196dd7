use Rattle.core_unwind.proofs.epilogue.+read_unwound.Given as goal

abbrev pub decreases-read_unwound : goal.decreases-read_unwound
decreases-read_unwound g l = l.most
