use Rattle.std.proofs.Common.{◌≡◌, map, take}
use Rattle.thread_names.specs.Told.{thread_shown, unnamed}
use Rattle.thread_names.proofs.names.unnamed.Given as goal

abbrev pub invariant-loop-id : goal.invariant-loop-id
invariant-loop-id l = map thread_shown l.told.items ≡ map unnamed (take l.id-index l.ids)
