use Rattle.std.proofs.Common.{◌≤◌, ◌+◌, ◌-◌, ◌^◌, min, vec_len, take}
use Rattle.std.specs.Io.KnownBytes.{Consumes}
use Rattle.outside.proofs.real_files.fill.Given as goal

abbrev pub invariant-loop : goal.invariant-loop
invariant-loop g l = record {
  within : l.filled ≤ vec_len l.bytes;
  consumed : Consumes (g.F.Read.remaining l.initial.file) (g.F.Read.remaining l.file) (take l.filled l.bytes.items);
  later : l.initial.taken ≤ l.taken;
  count : min (l.initial.taken + l.filled) (2 ^ 64 - 1) ≤ l.taken;
}
