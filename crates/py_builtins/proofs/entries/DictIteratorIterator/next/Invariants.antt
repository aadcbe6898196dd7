use Rattle.std.proofs.Common.{◌≡◌, ◌-◌}
use Rattle.py_builtins.specs.Dicts.{slot_at}
use Rattle.py_builtins.proofs.Nexts.{Passed}
use Rattle.py_builtins.proofs.entries.DictIteratorIterator.next.Given as goal

abbrev pub invariant-slots : goal.invariant-slots
invariant-slots g l = record {
  dict : l.self.cursor.slots ≡ l.initial.self.cursor.slots;
  passed : Passed (λ m. slot_at m l.initial.self.cursor.slots) l.initial.self.cursor.slots.count l.initial.self.cursor.passed l.self.cursor.passed
      (g.P.ProcessMemory.seen l.initial.self.process.now) (g.P.ProcessMemory.seen l.self.process.now);
}

abbrev pub decreases-slots : goal.decreases-slots
decreases-slots g l = l.self.cursor.slots.count - l.self.cursor.passed
