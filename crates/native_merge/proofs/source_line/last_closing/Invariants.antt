use Rattle.std.proofs.Common.{◌<◌, length}
use Rattle.std.specs.Prelude.{IfSome}
use Rattle.native_merge.specs.NameEnds.{IsLastIn}
use Rattle.native_merge.proofs.source_line.last_closing.Given as goal

abbrev pub invariant-loop-place : goal.invariant-loop-place
invariant-loop-place l = record {
  last : IsLastIn l.text l.from l.place l.last;
  within : IfSome l.last (λ place. place < length l.text);
}
