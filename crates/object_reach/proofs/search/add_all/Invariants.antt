use Rattle.std.proofs.Common.{take}
use Rattle.std.specs.BTreeMap.{keys}
use Rattle.object_reach.specs.Front.{AddsToFront}
use Rattle.object_reach.specs.Objects.{IsNamed}
use Rattle.object_reach.proofs.search.add_all.Given as goal

-- the words so far came in
abbrev pub invariant-loop-word : goal.invariant-loop-word
invariant-loop-word l = AddsToFront (keys l.done) l.fn.pending.keys (IsNamed (take l.word-index l.words)) l.pending.keys
