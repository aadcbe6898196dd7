use Rattle.std.specs.Prelude.{ℕ, ◌<◌, ◌≤◌}
use Rattle.std.specs.BTreeSet.{btree_set_len}
use Rattle.missed_reads.specs.Refused.{Has, AddsThese}
use Rattle.missed_reads.proofs.misses.add_blocks.Given as goal

abbrev pub invariant-loop-number : goal.invariant-loop-number
invariant-loop-number l = AddsThese l.fn.blocks l.blocks l.first l.last
    × ((n : ℕ) → l.first ≤ n → n < l.number → Has l.blocks n)
    × (btree_set_len l.fn.blocks ≤ 4096 → btree_set_len l.blocks ≤ 4096)
