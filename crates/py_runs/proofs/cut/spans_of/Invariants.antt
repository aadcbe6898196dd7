use Rattle.std.proofs.Common.{◌≡◌, ◌≤◌, ◌++◌, drop}
use Rattle.std.specs.Prelude.{IfSome}
use Rattle.py_runs.specs.Cuts.{spans_of, with_open}
use Rattle.py_runs.proofs.cut.spans_of.Given as goal

abbrev pub invariant-loop-member : goal.invariant-loop-member
invariant-loop-member l = record {
  cut : spans_of l.shims l.members ≡ l.spans.items
      ++ with_open l.unclosed (spans_of l.shims (drop l.member-index l.members));
  few : IfSome l.unclosed (λ span. span.frames ≤ l.member-index);
}
