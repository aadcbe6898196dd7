use Rattle.core_merge.proofs.Made.{Making}
use Rattle.core_merge.proofs.entries.made_entries.Given as goal

abbrev pub invariant-loop-number : goal.invariant-loop-number
invariant-loop-number l = Making l.core l.map-items l.number l.entries.items
