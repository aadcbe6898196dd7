use Rattle.std.proofs.Common.{◌≡◌, ◌++◌, take}
use Rattle.std.specs.List.{flat_map}
use Rattle.local_values.specs.Addresses.{in_thread}
use Rattle.local_values.proofs.addresses.push_threads.Given as goal

abbrev pub invariant-loop-thread : goal.invariant-loop-thread
invariant-loop-thread l =
    l.addresses.items ≡ l.initial.addresses.items ++ flat_map in_thread (take l.thread-index l.threads)
