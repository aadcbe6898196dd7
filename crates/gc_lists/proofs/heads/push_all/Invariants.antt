use Rattle.std.proofs.Common.{◌≡◌, ◌++◌, take}
use Rattle.gc_lists.specs.Heads.{heads_of}
use Rattle.gc_lists.proofs.heads.push_all.Given as goal

abbrev pub invariant-loop-base : goal.invariant-loop-base
invariant-loop-base l = l.heads.items ≡ l.initial.heads.items ++ heads_of l.places (take l.base-index l.bases)
