use Rattle.std.proofs.Common.{◌≡◌, take}
use Rattle.salvage_report.specs.LayoutChecked.{thread_places}
use Rattle.salvage_report.proofs.layout_check.thread_places.Given as goal

abbrev pub invariant-loop-interpreter : goal.invariant-loop-interpreter
invariant-loop-interpreter l = l.places.items ≡ thread_places (take l.interpreter-index l.interpreters)
