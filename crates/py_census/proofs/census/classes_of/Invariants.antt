use Rattle.std.proofs.Common.{◌≡◌, ◌++◌, map}
use Rattle.std.specs.BTreeMap.{values}
use Rattle.py_census.proofs.census.classes_of.Given as goal

-- the classes so far, and those that are left
abbrev pub invariant-loop-tally : goal.invariant-loop-tally
invariant-loop-tally l = l.classes.items ++ map (λ t. t.counted) l.tally-iterator ≡ map (λ t. t.counted)
    (values l.tallies)
