use Rattle.local_values.proofs.values.+read_rounds.Given as goal

abbrev pub decreases-read_rounds : goal.decreases-read_rounds
decreases-read_rounds g l = l.rounds
