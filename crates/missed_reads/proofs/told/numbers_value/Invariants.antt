use Rattle.std.proofs.Common.{◌≡◌, ◌++◌, drop, map}
use Rattle.serde_json.specs.View.{view}
use Rattle.missed_reads.specs.Told.{number_tree}
use Rattle.missed_reads.proofs.told.numbers_value.Given as goal

abbrev pub invariant-loop-number : goal.invariant-loop-number
invariant-loop-number l =
    map view l.values.items ++ map number_tree (drop l.number-index l.numbers) ≡ map number_tree l.numbers
