use Rattle.std.proofs.Common.{◌≡◌, ℕ, map}
use Rattle.std.specs.Prelude.{option_map}
use Rattle.std.specs.Option.{option_or}
use Rattle.std.specs.BTreeMap.{get}
use Rattle.std.specs.Ordering.{nat_cmp}
use Rattle.image_memory.specs.FileTables.{file_entry_of}
use Rattle.image_memory.specs.Maps.{entry_for}
use Rattle.image_memory.proofs.maps.add_entries.Given as goal

abbrev pub invariant-loop-entry : goal.invariant-loop-entry
invariant-loop-entry l = (addr : ℕ) → option_map file_entry_of (get nat_cmp l.last addr)
    ≡ option_or (entry_for (map file_entry_of l.yielded) addr) (option_map file_entry_of (get nat_cmp l.initial.last addr))
