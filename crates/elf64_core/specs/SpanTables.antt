-- Tables of ranges of addresses: the entries ascend, no two meet, none is empty, each ends at 2^64 - 1 at most,
-- and there are fewer than 2^32. This is the project's own rule.
use Rattle.std.specs.Prelude.{◌+◌, ◌<◌, ◌≤◌, ◌^◌, ◌-◌, All, List, length}
use Rattle.std.specs.List.{AllPairs}
use Rattle.elf64_core.specs.declared.span_table.TableEntry.{TableEntry}

-- some addresses, which end at 2^64 - 1 at most
pub record IsSpan (entry : TableEntry) : Type 0 where
  pub some : 0 < entry.len
  pub ends : entry.start + entry.len ≤ 2 ^ 64 - 1

-- one ends before, or where, the other starts
abbrev pub StandsBefore : TableEntry → TableEntry → Type 0
StandsBefore one other = one.start + one.len ≤ other.start

-- the entries of a table
pub record AreSpans (entries : List TableEntry) : Type 0 where
  pub each : All IsSpan entries
  pub ascend : AllPairs StandsBefore entries
  pub few : length entries < 2 ^ 32
