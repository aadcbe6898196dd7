use Rattle.py_selftest.proofs.text.push_counts.Goals as goal

pub returns : goal.returns
returns c = rw (c.count_told-told.ensures, c.count_told-untold.ensures) at c.push_told.ensures
