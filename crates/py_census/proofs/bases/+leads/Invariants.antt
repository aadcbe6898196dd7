use Rattle.py_census.proofs.bases.+leads.Given as goal

abbrev pub decreases-leads : goal.decreases-leads
decreases-leads g l = l.left
