use Rattle.std.proofs.Common.{◌≡◌, ◌++◌, map, take}
use Rattle.salvage_report.specs.LayoutChecked.{thread_place}
use Rattle.salvage_report.proofs.layout_check.add_places.Given as goal

abbrev pub invariant-loop-thread : goal.invariant-loop-thread
invariant-loop-thread l = l.places.items ≡ l.initial.places.items
    ++ map (thread_place l.interpreter) (take l.thread-index l.threads)
