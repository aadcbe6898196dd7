-- A merge under way.
use Rattle.std.specs.Prelude.{◌≤◌, ℕ, Bool, List}
use Rattle.outside.specs.Counts.{count_after}
use Rattle.py_stacks.specs.declared.trace.Frame.{Frame}
use Rattle.native_merge.specs.Gathered.{Gathered}
use Rattle.native_merge.specs.Merges.{AreAnswered, all_items, failed_count}
use Rattle.native_merge.specs.Sources.{SourcesSeen, Stay}
use Rattle.native_merge.specs.SymbolCaches.{Answer, HeldFrames}
use Rattle.native_merge.specs.Symbols.{SymbolsSeen, SymbolsStay}

-- these addresses have been answered, and what the answers add is merged
pub record Merging (old now : SymbolsSeen) (before : SourcesSeen) (sources : SourcesSeen) (python : ℕ → Bool)
    (frames : List Frame) (held after : HeldFrames) (addrs : List ℕ) (made : List Frame) (at : ℕ) : Type 0 where
  pub symbols : SymbolsStay old now
  pub stay : Stay before sources
  pub answers : List Answer
  pub each : AreAnswered old python held addrs answers after
  pub faults : count_after old.faults (failed_count answers) ≤ now.faults
  pub gathered : Gathered before.exists frames (all_items python addrs answers) made at
