use Rattle.std.proofs.Common.{ℕ, ◌+◌, ◌-◌, ◌<◌, ◌≤◌, length, get_or}
use Rattle.elf64_core.specs.SpanTables.{AreSpans}
use Rattle.elf64_core.specs.declared.span_table.TableEntry.{TableEntry}
use Rattle.piece_table.proofs.Lookups.{Halving}
use Rattle.piece_table.proofs.lookup.lookup.Given as goal

abbrev pub invariant-halves : goal.invariant-halves
invariant-halves g l = record {
  spans : AreSpans l.table;
  ordered : l.low ≤ l.high;
  inside : l.high ≤ length l.table;
  under : (k : ℕ) (d : TableEntry) → k < l.low → (get_or l.table k d).start + (get_or l.table k d).len ≤ l.addr;
  over : (k : ℕ) (d : TableEntry) → l.high ≤ k → k < length l.table → l.addr < (get_or l.table k d).start;
  halving : Halving (length l.table) (l.high - l.low) l.initial.steps l.steps;
}

abbrev pub decreases-halves : goal.decreases-halves
decreases-halves g l = l.high - l.low
