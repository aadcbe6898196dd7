use Rattle.std.proofs.Common.{◌≡◌, ℕ, ◌+◌, ◌*◌, ◌/◌, ◌<◌, ◌≤◌, length, Option}
use Rattle.std.specs.Prelude.{slice_index_or}
use Rattle.elf64_core.specs.Nul.{nul_from}
use Rattle.elf64_core.proofs.string_table.ends_of.Given as goal

abbrev pub decreases-loop-number : goal.decreases-loop-number
decreases-loop-number l = l.number

abbrev pub invariant-loop-number : goal.invariant-loop-number
invariant-loop-number l = record {
  low : l.number ≤ length l.strings / 64 + 1;
  count : length l.ends.items ≡ length l.strings / 64 + 1;
  before : l.known ≡ nul_from l.strings (64 * l.number);
  each : (k : ℕ) (other : Option ℕ) → l.number ≤ k → k < length l.ends.items → slice_index_or l.ends.items k other ≡ nul_from l.strings (64 * k);
}
