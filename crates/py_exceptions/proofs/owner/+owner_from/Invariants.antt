use Rattle.py_exceptions.proofs.owner.+owner_from.Given as goal

abbrev pub decreases-owner_from : goal.decreases-owner_from
decreases-owner_from g l = l.left
