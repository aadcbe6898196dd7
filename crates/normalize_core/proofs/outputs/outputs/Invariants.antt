use Rattle.std.proofs.Common.{◌≡◌, false, take, map}
use Rattle.std.specs.List.{list_any}
use Rattle.normalize_core.specs.Met.{output_by}
use Rattle.normalize_core.specs.Targets.{overflows}
use Rattle.normalize_core.proofs.outputs.outputs.Given as goal

abbrev pub invariant-loop-addr : goal.invariant-loop-addr
invariant-loop-addr l = record {
  fit : list_any (overflows l.query.entries) (take l.addr-index l.addrs) ≡ false;
  made : l.outputs.items ≡ map (output_by l.query l.metas) (take l.addr-index l.addrs);
}
